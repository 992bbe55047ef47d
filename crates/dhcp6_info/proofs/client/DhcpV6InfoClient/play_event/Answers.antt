-- The event of the rules, of the client that contracts see.
use Rattle.std.proofs.Common.{rules}
use Rattle.dhcp6_info.proofs.client.DhcpV6InfoClient.play_event.Goals as goal

pub invariant_of-self : goal.invariant_of-self
invariant_of-self g c = c.play_event.ensures.armed c.self.invariant

pub returns : goal.returns
returns g c = record { plays = rw (← c.self.view_is) c.play_event.ensures; config = search rules }
