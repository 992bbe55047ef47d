use Rattle.dhcp6_opt.proofs.NameReadLaws.{names_back}
use Rattle.dhcp6_opt.proofs.laws.names_read_back.Goals as goal

pub returns : goal.returns
returns c = names_back
