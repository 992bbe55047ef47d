-- By what the client itself promises.
use Rattle.dhcp_replay.proofs.family.DhcpV6ClientFamilyClient.next_poll.Goals as goal

pub returns : goal.returns
returns c = c.next_poll.ensures.next
