-- The times of the lease stay in order.
use Rattle.std.proofs.Common.{rules}
use Rattle.dhcp4_client.specs.Held.{has_times_in_order}
use Rattle.dhcp4_client.proofs.Held.{order_preserved}
use Rattle.dhcp4_client.proofs.client.DhcpV4Client.release.Goals as goal

pub invariant_of-self : goal.invariant_of-self
invariant_of-self g c = (
  c.release_at.ensures.releases.armed c.self.invariant.0,
  c.release_at.ensures.releases.keeps has_times_in_order (order_preserved c.self.inside.rules.config) c.self.invariant.1,
)

pub returns-clause-released : goal.returns-clause-released
returns-clause-released g c = rw (← c.self.view_is) (search rules)
