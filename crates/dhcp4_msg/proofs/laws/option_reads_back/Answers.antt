use Rattle.std.proofs.Common.{[], append-nil}
use Rattle.dhcp4_msg.specs.Value.{written_option}
use Rattle.dhcp4_msg.proofs.LawLemmas.{option_back}
use Rattle.dhcp4_msg.proofs.RangeLemmas.{in_range_reads_back}
use Rattle.dhcp4_msg.proofs.laws.option_reads_back.Goals as goal

pub returns-clause-before : goal.returns-clause-before
returns-clause-before c rest fit range =
    option_back c.args.option.now rest fit (in_range_reads_back c.args.option.now c.option_widths.ensures range)

pub returns-clause-alone : goal.returns-clause-alone
returns-clause-alone c fit range =
    rw (append-nil (written_option c.args.option.now)) at
    (option_back c.args.option.now [] fit (in_range_reads_back c.args.option.now c.option_widths.ensures range))
