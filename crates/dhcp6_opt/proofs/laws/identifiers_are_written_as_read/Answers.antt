use Rattle.dhcp6_opt.proofs.DuidLaws.{written_duid-duid_in}
use Rattle.dhcp6_opt.proofs.laws.identifiers_are_written_as_read.Goals as goal

pub returns : goal.returns
returns c = written_duid-duid_in
