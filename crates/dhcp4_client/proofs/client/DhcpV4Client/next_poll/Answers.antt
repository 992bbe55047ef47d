-- The protocol of the client is that of its rules.
use Rattle.std.proofs.Common.{rules}
use Rattle.dhcp4_client.proofs.client.DhcpV4Client.next_poll.Goals as goal

pub returns : goal.returns
returns c = rw (← c.self.view_is) (record { next = c.next_poll.ensures; stopped = search rules })
