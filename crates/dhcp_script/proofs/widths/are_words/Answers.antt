-- That each has four bytes is what the type says.
use Rattle.std.proofs.Common.{◌<◌, ◌^◌, arith}
use Rattle.std.proofs.lemmas.List.Elements.{All-from_get_or}
use Rattle.dhcp_script.proofs.widths.are_words.Goals as goal

pub returns : goal.returns
returns c = All-from_get_or (λ number. number < 2 ^ 32) c.args.words.now 0 (λ i inside. omega (arith, c.type_inv.words i))
