use Rattle.dhcp6_opt.proofs.IaLaws.{ia_na_back}
use Rattle.dhcp6_opt.proofs.laws.ia_na_reads_back.Goals as goal

pub returns : goal.returns
returns c range short = ia_na_back c.args.ia.now c.widths.ensures range short
