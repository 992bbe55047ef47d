use Rattle.dhcp6_opt.proofs.IaLaws.{ia_pd_back}
use Rattle.dhcp6_opt.proofs.laws.ia_pd_reads_back.Goals as goal

pub returns : goal.returns
returns c range short = ia_pd_back c.args.ia.now c.widths.ensures range short
