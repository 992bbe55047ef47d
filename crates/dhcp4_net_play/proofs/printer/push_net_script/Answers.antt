-- Line after line.
use Rattle.std.proofs.Common.{List, ◌++◌, sym, ap, ◌∙◌, codes}
use Rattle.std.specs.Fmt.{decimal}
use Rattle.dhcp_stream.specs.Line.{line}
use Rattle.dhcp_script.proofs.PrintLemmas.{pushed3}
use Rattle.dhcp4_net.specs.declared.script.NetEvent.{NetEvent}
use Rattle.dhcp4_net_play.specs.NetScript.{events_text, first_lines, net_script_text}
use Rattle.dhcp4_net_play.proofs.NetScriptLaws.{text_lines}
use Rattle.dhcp4_net_play.proofs.printer.push_net_script.Goals as goal

pub returns : goal.returns
returns c =
    let script = c.args.script.now in
    let start = line (codes "start " ++ decimal script.start) in
    pushed3 c.push_events.result _ _ _ _ (first_lines script) start (events_text c.as_slice.result.now) (net_script_text script)
    c.push_events.ensures c.in_ok-push_start.ensures c.in_ok-push_first_lines.ensures
    (text_lines script ∙ ap (λ (events : List NetEvent). first_lines script ++ start ++ events_text events) (sym c.as_slice.ensures))
