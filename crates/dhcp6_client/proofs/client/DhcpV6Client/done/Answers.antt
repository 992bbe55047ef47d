-- The times of a lease within its limits are in order.
use Rattle.std.proofs.Common.{◌≡◌, true, ap, ◌∙◌, rules}
use Rattle.dhcp_history.specs.BoundLease.{Bound}
use Rattle.dhcp6_msg.specs.Lease.{Lease, is_within_limits}
use Rattle.dhcp6_client.specs.Held.{has_times_in_order}
use Rattle.dhcp6_client.proofs.Held.{given_ordered}
use Rattle.dhcp6_client.proofs.client.DhcpV6Client.done.Goals as goal

pub invariant_of-self : goal.invariant_of-self
invariant_of-self c =
    let within : is_within_limits c.args.lease ≡ true = search rules in
    let bound : Bound Lease = record { lease = c.args.lease; since = c.args.now } in
    let is : c.bound.result ≡ bound = search rules in
    (search rules, ap has_times_in_order (c.enter.ensures.state ∙ c.bound_state-state.ensures.state) ∙ given_ordered _ c.bound.result c.args.lease c.args.now is within)
