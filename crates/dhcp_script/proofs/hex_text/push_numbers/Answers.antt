use Rattle.std.proofs.Common.{◌≡◌, [], arith}
use Rattle.std.proofs.lemmas.Grind.{common_steps}
use Rattle.dhcp_script.proofs.PrintLemmas.{numbers-digits}
use Rattle.dhcp_script.proofs.hex_text.push_numbers.Goals as goal

pub returns-else-is_empty : goal.returns-else-is_empty
returns-else-is_empty g c =
    let some : c.args.numbers.now ≡ [] → ⊥ = λ e. grind (arith, common_steps) in
    rw (numbers-digits g.N.HexNumber.bytes g.met.N.HexNumber.is_some c.args.numbers.now some) c.push_each.ensures
