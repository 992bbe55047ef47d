-- The verdict on a packet is a test of its reading.
use Rattle.dhcp6_client.proofs.Verdicts.{found_tests}
use Rattle.dhcp6_client.proofs.client.DhcpV6Client.verdict.Goals as goal

pub returns-clause-found : goal.returns-clause-found
returns-clause-found c = rw (← c.self.view_is) c.packet_verdict.ensures.found

pub returns-clause-tested : goal.returns-clause-tested
returns-clause-tested c = rw (← c.self.view_is) (found_tests c.packet_verdict.result c.self.inside.rules.config c.self.inside.client c.args.now c.args.packet.now c.packet_verdict.ensures.found)

pub returns-clause-listening : goal.returns-clause-listening
returns-clause-listening c = rw (← c.self.view_is) c.packet_verdict.ensures.listening

pub returns-clause-needed : goal.returns-clause-needed
returns-clause-needed c = rw (← c.self.view_is) c.packet_verdict.ensures.needed
