use Rattle.std.proofs.Common.{◌≡◌, ◌*◌, ◌/◌, take, length}
use Rattle.hex.specs.Hex.{IsBytes, encode_lower}
use Rattle.dhcp_stream.proofs.hex_text.octets_of.Given as goal

abbrev pub invariant-octets : goal.invariant-octets
invariant-octets l =
    (length l.octets.items ≡ length l.digits / 2) × (encode_lower (take l.i l.octets.items) ≡ take (2 * l.i) l.digits) × IsBytes l.octets.items
