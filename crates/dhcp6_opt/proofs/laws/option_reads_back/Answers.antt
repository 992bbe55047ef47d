use Rattle.std.proofs.Common.{[], append-nil}
use Rattle.dhcp6_opt.specs.Value.{written_option}
use Rattle.dhcp6_opt.proofs.LawLemmas.{option_back}
use Rattle.dhcp6_opt.proofs.laws.option_reads_back.Goals as goal

pub returns-clause-before : goal.returns-clause-before
returns-clause-before c rest fit range = option_back c.args.option.now rest fit c.widths.ensures range

pub returns-clause-alone : goal.returns-clause-alone
returns-clause-alone c fit range =
    rw (append-nil (written_option c.args.option.now)) at (option_back c.args.option.now [] fit c.widths.ensures range)
