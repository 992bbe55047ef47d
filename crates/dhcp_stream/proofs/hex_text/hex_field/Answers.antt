use Rattle.std.proofs.Common.{◌≡◌, [], ◌∷◌, sym, ◌∙◌, arith}
use Rattle.std.proofs.lemmas.Bool.{false≢true}
use Rattle.std.proofs.lemmas.Grind.{common_steps}
use Rattle.dhcp_stream.proofs.SearchLemmas.{not_equal}
use Rattle.dhcp_stream.proofs.HexTextLemmas.{hex_text-even, hex_text-not, hex_text-some}
use Rattle.dhcp_stream.proofs.hex_text.hex_field.Goals as goal
use Rattle.dhcp_stream.proofs.hex_text.hex_field.Goals.{then-is_empty-via-then-is_empty, then-is_empty-via-else-is_empty+then-field-ne0, then-is_empty-via-else-is_empty+else-field-ne0+then-not-is_lower_hex}

pub returns-then-is_empty : goal.returns-then-is_empty
returns-then-is_empty c =
    let field = c.args.field.now in
    let other = not_equal field _ (45 ∷ []) _ c.eq.ensures c.as_slice.ensures c.if-eq.false in
    elim c.then-is_empty.branch [
      | then-is_empty-via-then-is_empty w ↦ hex_text-not field other (λ some _. grind (arith, common_steps))
      | then-is_empty-via-else-is_empty+then-field-ne0 w ↦ λ bytes fit e. w.if-field-ne0.true (hex_text-even field bytes other fit e)
      | then-is_empty-via-else-is_empty+else-field-ne0+then-not-is_lower_hex w ↦
          hex_text-not field other (λ _ lower. false≢true (sym w.if-not-is_lower_hex.true ∙ w.is_lower_hex.ensures.1 lower))
    ]

pub returns : goal.returns
returns c =
    let some : c.args.field.now ≡ [] → ⊥ = λ e. grind (arith, common_steps) in
    rw c.from.ensures (hex_text-some c.args.field.now _ some c.in_ok-octets_of.ensures.spelled, c.in_ok-octets_of.ensures.bytes)
