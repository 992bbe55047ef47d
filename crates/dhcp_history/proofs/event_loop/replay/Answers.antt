use Rattle.dhcp_history.specs.Client.{view_of}
use Rattle.dhcp_history.proofs.Looping.{loop_history}
use Rattle.dhcp_history.proofs.event_loop.replay.Goals as goal

pub returns : goal.returns
returns g c = record {
  plays = record {
    reported = c.in_ok-run_events.ensures.reported;
    moment = c.in_ok-run_events.ensures.moment;
    armed = c.run_events.ensures.armed;
    keeps = c.run_events.ensures.keeps;
    error = tt;
  };
  history = loop_history (g.R.Rules.protocol c.args.rules.now) (g.W.Words.left c.args.words.now) (g.W.Words.left c.run_events.new.words) (view_of c.args.client.now) (view_of c.run_events.new.client)
      c.args.events.items c.in_ok-run_events.field-0.items c.in_ok-run_events.ensures.reported;
}
