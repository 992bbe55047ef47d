-- Line after line.
use Rattle.std.proofs.Common.{ℕ, List, ◌++◌, sym, ap, codes}
use Rattle.dhcp_stream.specs.HexText.{hex_text}
use Rattle.dhcp_stream.specs.Line.{line}
use Rattle.dhcp_script.proofs.PrintLemmas.{pushed3}
use Rattle.dhcp6_info_play.specs.InfoScript.{first_line, first_lines, iface_text}
use Rattle.dhcp6_info_play.proofs.printer.push_first_lines.Goals as goal

pub returns : goal.returns
returns c =
    let script = c.args.script.now in
    let iface = line (codes "iface " ++ iface_text script) in
    pushed3 c.push_hex_line.result _ _ _ _ first_line iface (line (codes "duid " ++ hex_text c.as_slice.result.now)) (first_lines script)
    c.push_hex_line.ensures c.in_ok-push_iface.ensures c.in_ok-push_str.ensures.bytes (ap (λ (duid : List ℕ). first_line ++ iface ++ line (codes "duid " ++ hex_text duid)) (sym c.as_slice.ensures))
