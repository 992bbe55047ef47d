use Rattle.std.proofs.Common.{sym, ◌∙◌}
use Rattle.std.proofs.lemmas.Bool.{false≢true}
use Rattle.dhcp_stream.proofs.HexTextLemmas.{IsReading-octets, encode_lower-not}
use Rattle.dhcp_stream.proofs.hex_text.octets.Goals as goal

pub returns-then-is_lower_hex : goal.returns-then-is_lower_hex
returns-then-is_lower_hex g c =
    rw c.ok.ensures.value (IsReading-octets _ c.args.field.now c.from_hex.result (c.is_lower_hex.ensures.0 c.if-is_lower_hex.true) c.from_hex.ensures)

pub returns-else-is_lower_hex : goal.returns-else-is_lower_hex
returns-else-is_lower_hex g c = λ octets h. encode_lower-not c.args.field.now (λ lower. false≢true (sym c.if-is_lower_hex.false ∙ c.is_lower_hex.ensures.1 lower)) octets h.1
