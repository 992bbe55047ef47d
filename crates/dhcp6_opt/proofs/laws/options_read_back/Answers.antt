use Rattle.dhcp6_opt.proofs.LawLemmas.{option_back}
use Rattle.dhcp6_opt.proofs.laws.options_read_back.Goals as goal

pub returns : goal.returns
returns c = option_back
