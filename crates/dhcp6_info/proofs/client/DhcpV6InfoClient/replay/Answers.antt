-- The replay of the rules, whose table is lawful, of the client that contracts see.
use Rattle.std.proofs.Common.{rules}
use Rattle.dhcp6_info.proofs.client.DhcpV6InfoClient.replay.Goals as goal

pub invariant_of-self : goal.invariant_of-self
invariant_of-self g c = c.replay.ensures.plays.armed c.self.invariant

pub returns : goal.returns
returns g c = record {
  plays = rw (← c.self.view_is) c.replay.ensures.plays;
  history = rw (← c.self.view_is) (c.replay.ensures.history (c.table_is_lawful.ensures c.self.inside.rules.config));
  config = search rules;
}
