-- The event of the rules, of the client that contracts see, the times of whose lease stay in order.
use Rattle.std.proofs.Common.{rules}
use Rattle.dhcp4_client.specs.Held.{has_times_in_order}
use Rattle.dhcp4_client.proofs.Held.{order_preserved}
use Rattle.dhcp4_client.proofs.client.DhcpV4Client.play_event.Goals as goal

pub invariant_of-self : goal.invariant_of-self
invariant_of-self g c = (
  c.play_event.ensures.armed c.self.invariant.0,
  c.play_event.ensures.keeps has_times_in_order (order_preserved c.self.inside.rules.config) c.self.invariant.1,
)

pub returns : goal.returns
returns g c = record { plays = rw (← c.self.view_is) c.play_event.ensures; config = search rules }
