-- The replay of the rules, whose table is lawful, of the client that contracts see.
use Rattle.std.proofs.Common.{rules}
use Rattle.dhcp6_client.specs.Held.{has_times_in_order}
use Rattle.dhcp6_client.proofs.Held.{order_preserved}
use Rattle.dhcp6_client.proofs.client.DhcpV6Client.replay.Goals as goal

pub invariant_of-self : goal.invariant_of-self
invariant_of-self g c = (
  c.replay.ensures.plays.armed c.self.invariant.0,
  c.replay.ensures.plays.keeps has_times_in_order (order_preserved c.self.inside.rules.config) c.self.invariant.1,
)

pub returns : goal.returns
returns g c = record {
  plays = rw (← c.self.view_is) c.replay.ensures.plays;
  history = rw (← c.self.view_is) (c.replay.ensures.history (c.table_is_lawful.ensures c.self.inside.rules.config));
  config = search rules;
}
