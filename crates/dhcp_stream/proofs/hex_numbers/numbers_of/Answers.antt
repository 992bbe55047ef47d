use Rattle.std.proofs.Common.{◌∙◌, arith}
use Rattle.std.specs.Int.{to_be_bytes}
use Rattle.std.proofs.lemmas.Grind.{common_steps}
use Rattle.dhcp_stream.proofs.NumberBytes.{length-to_be_bytes}
use Rattle.dhcp_stream.proofs.HexNumberLemmas.{numbers-not}
use Rattle.dhcp_stream.proofs.hex_numbers.numbers_of.Goals as goal

pub returns-else-is_empty : goal.returns-else-is_empty
returns-else-is_empty g c =
    let width = g.N.Number.width in
    λ numbers fit e.
    numbers-not (λ n. to_be_bytes width (g.N.Number.value n)) g.N.Number.LEN (λ n. length-to_be_bytes width (g.N.Number.value n) ∙ g.met.N.Number.long)
    c.loop-left.numbers.items numbers c.loop-left.left.now (omega arith) (λ none. grind (arith, common_steps)) (e ∙ c.loop-left.invariant.cut)
