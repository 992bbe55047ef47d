-- Whether the rules listen, of the client that contracts see.
use Rattle.dhcp6_info.proofs.client.DhcpV6InfoClient.is_listening.Goals as goal

pub returns : goal.returns
returns c = rw (← c.self.view_is) (record { listens = c.is_listening.ensures })
