-- The law of the rules, of the client that contracts see.
use Rattle.dhcp4_client.proofs.laws.calls_are_a_script.Goals as goal

pub returns : goal.returns
returns g c = rw (← c.client.view_is) (c.calls_are_a_script.ensures (c.table_is_lawful.ensures _))
