-- Line after line.
use Rattle.std.proofs.Common.{List, ◌++◌, sym, ap, codes}
use Rattle.std.specs.List.{flat_map}
use Rattle.dhcp_stream.specs.Line.{line}
use Rattle.dhcp_script.proofs.PrintLemmas.{pushed3}
use Rattle.dhcp4_net.specs.declared.script.NetClient.{NetClient}
use Rattle.dhcp4_net_play.specs.NetScript.{client_line, first_line, first_lines, server_text}
use Rattle.dhcp4_net_play.proofs.printer.push_first_lines.Goals as goal

pub returns : goal.returns
returns c =
    let script = c.args.script.now in
    let server = line (codes "server " ++ server_text script.server) in
    pushed3 c.push_lines.result _ _ _ _ first_line server (flat_map client_line c.as_slice.result.now) (first_lines script)
    c.push_lines.ensures c.in_ok-push_server.ensures c.in_ok-push_str.ensures.bytes (ap (λ (clients : List NetClient). first_line ++ server ++ flat_map client_line clients) (sym c.as_slice.ensures))
