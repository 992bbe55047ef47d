use Rattle.dhcp6_opt.proofs.DuidLaws.{duid_back, written_duid-read_back}
use Rattle.dhcp6_opt.proofs.laws.identifier_reads_back.Goals as goal

pub returns-clause-read : goal.returns-clause-read
returns-clause-read c typed = duid_back c.args.duid.now c.widths.ensures typed

pub returns-clause-bytes : goal.returns-clause-bytes
returns-clause-bytes c = written_duid-read_back c.args.duid.now c.widths.ensures
