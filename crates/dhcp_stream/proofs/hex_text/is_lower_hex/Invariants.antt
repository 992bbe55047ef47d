use Rattle.std.proofs.Common.{◌≡◌, take}
use Rattle.std.specs.List.{list_all}
use Rattle.dhcp_stream.specs.HexText.{is_lower_digit}
use Rattle.dhcp_stream.proofs.hex_text.is_lower_hex.Given as goal

abbrev pub invariant-loop-byte : goal.invariant-loop-byte
invariant-loop-byte l = l.is_lower ≡ list_all is_lower_digit (take l.byte-index l.field)
