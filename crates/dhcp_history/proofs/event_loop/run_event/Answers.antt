use Rattle.dhcp_history.specs.Client.{view_of}
use Rattle.dhcp_history.specs.Run.{input_of}
use Rattle.dhcp_history.proofs.Looping.{event_reported}
use Rattle.dhcp_history.proofs.event_loop.run_event.Goals as goal

pub returns-clause-reported : goal.returns-clause-reported
returns-clause-reported g c =
    event_reported (g.R.Rules.protocol c.args.rules.now) c.poll_event.result c.args.event (input_of c.call_event.new.link.shown.waiting) (g.W.Words.left c.args.words.now) (g.W.Words.left c.poll_event.new.words)
    (view_of c.args.client.now) (view_of c.call_event.new.client) (view_of c.poll_event.new.client) c.args.outputs.now.items c.call_event.new.outputs.items c.poll_event.new.outputs.items
    c.in_ok-call_event.ensures.called c.in_ok-call_event.ensures.packet c.poll_event.ensures.reported
