use Rattle.dhcp6_msg.proofs.LimitLemmas.{within_limits}
use Rattle.dhcp6_msg.proofs.laws.leases_are_within_limits.Goals as goal

pub returns : goal.returns
returns c = within_limits
