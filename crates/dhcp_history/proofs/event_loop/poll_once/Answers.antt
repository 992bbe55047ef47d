use Rattle.std.proofs.Common.{ap}
use Rattle.dhcp_clock.specs.Link.{MemoryParts}
use Rattle.dhcp_history.specs.Client.{view_of}
use Rattle.dhcp_history.proofs.Looping.{one_poll}
use Rattle.dhcp_history.proofs.event_loop.poll_once.Goals as goal

pub returns-clause-polled : goal.returns-clause-polled
returns-clause-polled g c =
    one_poll (g.R.Rules.protocol c.args.rules.now) c.args.at.number c.args.at.refuse c.args.at.moment c.args.link.now.shown c.run-polled.new.link.shown (view_of c.args.client.now) (view_of c.run-polled.new.client)
    (g.W.Words.left c.args.words.now) (g.W.Words.left c.run-polled.new.words) c.run-polled.result c.report_poll.result c.take_message-handed.result c.take_message-handed.new.link.shown.waiting c.args.outputs.now.items c.report_poll.new.outputs.items
    c.requires.empty c.run-polled.ensures.polls.polled c.take_message-handed.ensures.message (ap (λ (l : MemoryParts). l.shown.waiting) c.take_message-handed.ensures.rest)
    c.report_poll.ensures.memory c.report_poll.ensures.again c.report_poll.ensures.outputs
