use Rattle.std.proofs.Common.{sym, ◌∙◌, arith}
use Rattle.std.proofs.lemmas.List.{take_all}
use Rattle.std.proofs.lemmas.List.Sums.{AllPass-from_list_all, list_all-from_AllPass}
use Rattle.dhcp_stream.specs.HexText.{is_lower_digit}
use Rattle.dhcp_stream.proofs.hex_text.is_lower_hex.Goals as goal

pub returns : goal.returns
returns c =
    let field = c.args.field.now in
    let whole = take_all c.loop-byte.byte-index field (grind (arith)) in
    let tested = rw whole at c.loop-byte.invariant in
    (λ is_lower. AllPass-from_list_all is_lower_digit field (sym tested ∙ is_lower), λ passes. tested ∙ list_all-from_AllPass is_lower_digit field passes)
