use Rattle.std.proofs.Common.{arith}
use Rattle.dhcp4_msg.proofs.RangeLemmas.{by_recursion}
use Rattle.dhcp4_msg.proofs.laws.addresses_are_whole.Goals as goal

pub returns : goal.returns
returns c = by_recursion _ _ (λ k d below. c.loop-address.invariant k d (omega arith))
