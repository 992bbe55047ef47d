-- The law of the rules, of the client that contracts see.
use Rattle.dhcp6_client.proofs.laws.history_by_point.Goals as goal

pub returns : goal.returns
returns c = rw (← c.client.view_is) (c.history_by_point.ensures (c.table_is_lawful.ensures _))
