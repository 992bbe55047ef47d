use Rattle.std.proofs.Common.{[], append-nil}
use Rattle.dhcp4_msg.specs.Message.{written_message}
use Rattle.dhcp4_msg.proofs.MessageLaw.{message_back}
use Rattle.dhcp4_msg.proofs.RangeLemmas.{message_in_range}
use Rattle.dhcp4_msg.proofs.laws.message_reads_back.Goals as goal

pub returns-clause-before : goal.returns-clause-before
returns-clause-before c rest range =
    message_back c.args.message.now rest (message_in_range c.args.message.now (record {
      numbers = c.number_widths.ensures;
      addresses = c.address_widths.ensures;
      options = c.stand.ensures;
    }) range)

pub returns-clause-alone : goal.returns-clause-alone
returns-clause-alone c range =
    rw (append-nil (written_message c.args.message.now)) at
    (message_back c.args.message.now [] (message_in_range c.args.message.now (record {
      numbers = c.number_widths.ensures;
      addresses = c.address_widths.ensures;
      options = c.stand.ensures;
    }) range))
