-- The table is lawful.
use Rattle.dhcp6_info.proofs.Lawful.{protocol_lawful}
use Rattle.dhcp6_info.proofs.laws.table_is_lawful.Goals as goal

pub returns : goal.returns
returns c = protocol_lawful
