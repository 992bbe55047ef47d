use Rattle.std.proofs.Common.{arith}
use Rattle.dhcp6_opt.proofs.WidthLemmas.{by_recursion}
use Rattle.dhcp6_opt.proofs.widths.all_have.Goals as goal

pub returns : goal.returns
returns g c = by_recursion _ _ (λ k d below. c.loop-item.invariant k d (omega arith))
