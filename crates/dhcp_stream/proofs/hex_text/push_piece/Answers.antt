-- Digits in hex are a text.
use Rattle.std.proofs.Common.{sym, subst}
use Rattle.std.specs.Str.{IsUtf8}
use Rattle.dhcp_stream.proofs.HexTextLemmas.{IsOk-utf8, IsUtf8-encode_lower}
use Rattle.dhcp_stream.proofs.hex_text.push_piece.Goals as goal

pub unwrap-requires : goal.unwrap-requires
unwrap-requires c =
    IsOk-utf8 _ _ c.from_utf8.result c.put_digits.new.digits c.from_utf8.ensures.cases
    (subst IsUtf8 (sym c.put_digits.ensures) (IsUtf8-encode_lower c.args.octets.now))
