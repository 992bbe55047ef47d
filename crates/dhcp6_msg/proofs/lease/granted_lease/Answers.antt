-- The times of a lease that is granted are in order.
use Rattle.dhcp6_msg.proofs.LeaseLemmas.{granted_in_order}
use Rattle.dhcp6_msg.proofs.lease.granted_lease.Goals as goal

pub returns-clause-in_order : goal.returns-clause-in_order
returns-clause-in_order c = granted_in_order c.if_grant.result c.in_ok-lease_with.field-0 c.if_grant.ensures
