-- So many octets have their digits.
use Rattle.std.proofs.Common.{◌≡◌, ◌*◌, take}
use Rattle.hex.specs.Hex.{encode_lower}
use Rattle.dhcp_stream.proofs.hex_text.put_digits.Given as goal

abbrev pub invariant-octets : goal.invariant-octets
invariant-octets l = take (2 * l.i) l.digits ≡ encode_lower (take l.i l.octets)
