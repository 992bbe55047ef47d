use Rattle.std.proofs.Common.{◌≡◌, [], arith}
use Rattle.std.proofs.lemmas.Grind.{common_steps}
use Rattle.dhcp_script.proofs.PrintLemmas.{hex_text-digits}
use Rattle.dhcp_script.proofs.hex_text.push_hex.Goals as goal

pub returns-else-is_empty : goal.returns-else-is_empty
returns-else-is_empty c =
    let some : c.args.bytes.now ≡ [] → ⊥ = λ e. grind (arith, common_steps) in
    rw (hex_text-digits c.args.bytes.now some) c.push_octets.ensures
