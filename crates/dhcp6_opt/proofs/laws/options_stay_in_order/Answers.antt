use Rattle.dhcp6_opt.proofs.OptionReadLemmas.{options_under-read_options}
use Rattle.dhcp6_opt.proofs.laws.options_stay_in_order.Goals as goal

pub returns : goal.returns
returns c = options_under-read_options
