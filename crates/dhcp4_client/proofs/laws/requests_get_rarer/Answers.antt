-- By the halving of waits, from T1 and T2 on.
use Rattle.dhcp4_client.proofs.Traffic.{rarer_history}
use Rattle.dhcp4_client.proofs.laws.requests_get_rarer.Goals as goal

pub returns : goal.returns
returns c = rw (← c.client.view_is) (rarer_history c.client.inside.rules.config c.entries_hold.ensures c.messages_halve.ensures)
