-- That each is a byte is what the type says.
use Rattle.std.proofs.Common.{◌<◌, ◌^◌, arith}
use Rattle.std.proofs.lemmas.List.Elements.{All-from_get_or}
use Rattle.dhcp6_opt.proofs.widths.are_bytes.Goals as goal

pub returns : goal.returns
returns c = All-from_get_or (λ byte. byte < 2 ^ 8) c.args.bytes.now 0 (λ i inside. omega (arith, c.type_inv.bytes i))
