use Rattle.std.proofs.Common.{◌++◌, codes}
use Rattle.std.specs.Int.{w16}
use Rattle.dhcp_stream.specs.Line.{line}
use Rattle.dhcp_script.specs.Field.{unless_none}
use Rattle.dhcp_script.specs.Lease6.{lease_text}
use Rattle.dhcp_script.specs.Life.{life_text}
use Rattle.dhcp_script.specs.declared.version.Version.TheVariants.{Later}
use Rattle.dhcp_script.specs.Codes.{listed_text}
use Rattle.dhcp_script.specs.Script6.{first_lines}
use Rattle.dhcp_stream.specs.HexText.{numbers_text}
use Rattle.dhcp_script.proofs.PrintLemmas.{pushed4, script6_text-lines}
use Rattle.dhcp_script.proofs.script6.printer.push_script6.Goals as goal

pub returns : goal.returns
returns c =
    let script = c.args.script.now in
    let asked = line (codes "codes " ++ listed_text (numbers_text w16) script.codes) in
    let held = line (codes "lease " ++ unless_none lease_text script.lease) in
    pushed4 c.push_life.result _ _ _ _ _ (first_lines Later script) asked held (life_text script.words script.start script.events) _
    c.push_life.ensures c.in_ok-push_held_lease.ensures c.in_ok-push_codes.ensures c.in_ok-push_first_lines.ensures (script6_text-lines script)
