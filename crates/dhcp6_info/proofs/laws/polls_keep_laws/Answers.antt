-- The laws of the rules, of the client that contracts see.
use Rattle.dhcp6_info.proofs.laws.polls_keep_laws.Goals as goal

pub returns : goal.returns
returns c = rw (← c.client.view_is) (c.polls_keep_laws.ensures (c.table_is_lawful.ensures c.client.inside.rules.config))
