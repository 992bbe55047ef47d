use Rattle.dhcp6_opt.proofs.DuidLaws.{duid_back, written_duid-read_back}
use Rattle.dhcp6_opt.proofs.laws.identifiers_read_back.Goals as goal

pub returns : goal.returns
returns c = record { read = duid_back; bytes = written_duid-read_back }
