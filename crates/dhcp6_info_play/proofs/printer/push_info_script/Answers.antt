-- Line after line.
use Rattle.dhcp6_info_play.proofs.PrintLemmas.{pushed_script}
use Rattle.dhcp6_info_play.proofs.printer.push_info_script.Goals as goal

pub returns : goal.returns
returns c = pushed_script c.push_life.result _ _ _ _ c.args.script.now c.push_life.ensures c.in_ok-push_codes.ensures c.in_ok-push_first_lines.ensures
