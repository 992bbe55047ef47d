use Rattle.dhcp6_opt.proofs.IaLaws.{ia_na_back, ia_pd_back, ia_ta_back}
use Rattle.dhcp6_opt.proofs.laws.associations_read_back.Goals as goal

pub returns : goal.returns
returns c = record { na = ia_na_back; ta = ia_ta_back; pd = ia_pd_back }
