use Rattle.std.proofs.Common.{[], append-nil}
use Rattle.dhcp4_msg.specs.Options.{written_options}
use Rattle.dhcp4_msg.proofs.OptionsLaw.{options_map_back}
use Rattle.dhcp4_msg.proofs.RangeLemmas.{options_in_range}
use Rattle.dhcp4_msg.proofs.laws.option_list_reads_back.Goals as goal

pub returns-clause-before : goal.returns-clause-before
returns-clause-before c rest range =
    options_map_back c.args.options.now rest (options_in_range c.args.options.now c.stand.ensures range)

pub returns-clause-alone : goal.returns-clause-alone
returns-clause-alone c range =
    rw (append-nil (written_options c.args.options.now)) at
    (options_map_back c.args.options.now [] (options_in_range c.args.options.now c.stand.ensures range))
