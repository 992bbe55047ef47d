use Rattle.dhcp6_opt.proofs.ListLaws.{options_back, options_back_alone}
use Rattle.dhcp6_opt.proofs.laws.option_lists_read_back.Goals as goal

pub returns : goal.returns
returns c = record { alone = options_back_alone; before = options_back }
