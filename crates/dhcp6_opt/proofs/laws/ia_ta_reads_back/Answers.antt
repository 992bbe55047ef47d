use Rattle.dhcp6_opt.proofs.IaLaws.{ia_ta_back}
use Rattle.dhcp6_opt.proofs.laws.ia_ta_reads_back.Goals as goal

pub returns : goal.returns
returns c range short = ia_ta_back c.args.ia.now c.widths.ensures range short
