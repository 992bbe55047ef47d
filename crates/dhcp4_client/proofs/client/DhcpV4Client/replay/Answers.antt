-- The times of the lease stay in order.
use Rattle.std.proofs.Common.{refl}
use Rattle.dhcp4_client.specs.Held.{has_times_in_order}
use Rattle.dhcp4_client.proofs.Held.{order_preserved}
use Rattle.dhcp4_client.proofs.client.DhcpV4Client.replay.Goals as goal

pub invariant_of-self : goal.invariant_of-self
invariant_of-self g c = (
  c.replay.ensures.plays.armed c.self.invariant.0,
  c.replay.ensures.plays.keeps has_times_in_order (order_preserved c.self.inside.rules.config) c.self.invariant.1,
)

pub returns : goal.returns
returns g c =
    rw (← c.self.view_is)
    (record { plays = c.replay.ensures.plays; history = c.replay.ensures.history (c.table_is_lawful.ensures c.self.inside.rules.config); config = refl })
