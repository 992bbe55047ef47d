use Rattle.std.proofs.Common.{◌≡◌, ◌+◌, ◌-◌, arith, ◌∙◌, refl, inr}
use Rattle.dhcp_history.specs.Client.{view_of}
use Rattle.dhcp_history.specs.Run.{input_of}
use Rattle.dhcp_history.specs.EventLoop.{event_of}
use Rattle.dhcp_history.proofs.Looping.{loop_goes_on, loop_stops, loop_ends}
use Rattle.dhcp_history.proofs.event_loop.poll_event.Goals as goal

pub returns-then-not-branch-clause-reported : goal.returns-then-not-branch-clause-reported
returns-then-not-branch-clause-reported g c =
    let left = g.W.Words.left in
    loop_stops (g.R.Rules.protocol c.args.rules.now) (event_of c.args.at (input_of c.args.link.now.shown.waiting)) (left c.args.words.now) (left c.loop.words) (left c.poll_once.new.words)
    (view_of c.args.client.now) (view_of c.loop.client) (view_of c.poll_once.new.client) (7 - c.loop.counter) c.loop.link.shown.waiting c.poll_once.new.link.shown.waiting c.loop.link.shown.refuses
    c.args.outputs.now.items c.loop.outputs.items c.poll_once.new.outputs.items c.in_ok-poll_once.field-0 (omega arith) c.loop.invariant.refuses c.loop.invariant.so_far c.in_ok-poll_once.ensures.polled c.if-not-branch.true

pub loop-preserved : goal.loop-preserved
loop-preserved g c =
    let left = g.W.Words.left in
    let fewer : 7 - (c.loop.counter + 1) ≡ 7 - c.loop.counter - 1 = omega arith in
    record {
      so_far = rw fewer
          (loop_goes_on (g.R.Rules.protocol c.args.rules.now) (event_of c.args.at (input_of c.args.link.now.shown.waiting)) (left c.args.words.now) (left c.loop.words) (left c.poll_once.new.words)
          (view_of c.args.client.now) (view_of c.loop.client) (view_of c.poll_once.new.client) (7 - c.loop.counter) c.loop.link.shown.waiting c.poll_once.new.link.shown.waiting c.loop.link.shown.refuses
          c.args.outputs.now.items c.loop.outputs.items c.poll_once.new.outputs.items c.in_ok-poll_once.field-0 (omega arith) c.loop.invariant.refuses c.loop.invariant.so_far c.in_ok-poll_once.ensures.polled c.if-not-branch.false);
      empty = c.poll_once.ensures.empty;
      refuses = c.poll_once.ensures.refuses ∙ c.loop.invariant.refuses;
      polled = inr c.in_ok-poll_once.ensures.moment;
      armed = λ first. c.poll_once.ensures.armed (c.loop.invariant.armed first);
      keeps = λ holds preserves first. c.poll_once.ensures.keeps holds preserves (c.loop.invariant.keeps holds preserves first);
    }

pub returns-clause-reported : goal.returns-clause-reported
returns-clause-reported g c =
    let left = g.W.Words.left in
    loop_ends (g.R.Rules.protocol c.args.rules.now) (event_of c.args.at (input_of c.args.link.now.shown.waiting)) (left c.args.words.now) (left c.loop.words) (view_of c.args.client.now) (view_of c.loop.client)
    (7 - c.loop.counter) c.loop.link.shown.waiting c.args.outputs.now.items c.loop.outputs.items (omega arith) (λ available. refl) c.loop.invariant.so_far
