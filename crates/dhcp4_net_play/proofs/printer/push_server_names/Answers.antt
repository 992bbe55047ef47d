-- Piece by piece.
use Rattle.std.proofs.Common.{refl, codes}
use Rattle.hex.specs.Hex.{encode_lower}
use Rattle.dhcp_stream.specs.Number.{address_text}
use Rattle.dhcp_script.proofs.PrintLemmas.{pushed4}
use Rattle.dhcp4_net_play.proofs.printer.push_server_names.Goals as goal

pub returns : goal.returns
returns c =
    let server = c.args.server.now in
    pushed4 c.push_octets.result _ _ _ _ _ (codes "server ") (address_text server.ip) (codes " ") (encode_lower server.mac) _
    c.push_octets.ensures c.in_ok-push_str-2.ensures.bytes c.in_ok-push_to.ensures c.in_ok-push_str.ensures.bytes refl
