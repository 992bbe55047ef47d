use Rattle.std.proofs.Common.{arith}
use Rattle.dhcp_script.proofs.widths.all_fit.Goals as goal

pub returns : goal.returns
returns g c = λ k d below. c.loop-item.invariant k d (omega arith)
