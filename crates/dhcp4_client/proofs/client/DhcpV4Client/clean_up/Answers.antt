-- The times of the lease stay in order.
use Rattle.std.proofs.Common.{refl}
use Rattle.dhcp4_client.specs.Held.{has_times_in_order}
use Rattle.dhcp4_client.proofs.Held.{order_preserved}
use Rattle.dhcp4_client.proofs.client.DhcpV4Client.clean_up.Goals as goal

pub invariant_of-self : goal.invariant_of-self
invariant_of-self c = (c.clean_up.ensures.armed, c.clean_up.ensures.keeps has_times_in_order (order_preserved c.self.inside.rules.config) c.self.invariant.1)

pub returns-clause-cleaned : goal.returns-clause-cleaned
returns-clause-cleaned c = rw (← c.self.view_is) (record { cleans = c.clean_up.ensures; config = refl })
