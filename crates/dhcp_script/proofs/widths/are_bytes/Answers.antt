-- That each is a byte is what the type says.
use Rattle.std.proofs.Common.{arith}
use Rattle.dhcp_script.proofs.widths.are_bytes.Goals as goal

pub returns : goal.returns
returns c = λ i. omega (arith, c.type_inv.bytes i)
