use Rattle.dhcp6_opt.proofs.ListLaws.{options_back, options_back_alone}
use Rattle.dhcp6_opt.proofs.laws.option_list_reads_back.Goals as goal

pub returns-clause-before : goal.returns-clause-before
returns-clause-before c rest range = options_back c.args.options.now rest c.stand.ensures range

pub returns-clause-alone : goal.returns-clause-alone
returns-clause-alone c range = options_back_alone c.args.options.now c.stand.ensures range
