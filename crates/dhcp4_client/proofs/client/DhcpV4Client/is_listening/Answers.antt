-- The protocol of the client is that of its rules.
use Rattle.dhcp4_client.proofs.client.DhcpV4Client.is_listening.Goals as goal

pub returns : goal.returns
returns c = rw (← c.self.view_is) (record { listens = c.is_listening.ensures })
