use Rattle.std.proofs.Common.{◌≡◌, ◌<◌, ◌^◌, subst, List, []}
use Rattle.std.specs.Prelude.{All, IfSome, IsSomeAnd}
use Rattle.std.proofs.lemmas.List.Elements.{All-tail}
use Rattle.std.specs.Vec.Iter.{into_iter_items}
use Rattle.dhcp_clock.specs.declared.link.Packet.{Packet}
use Rattle.dhcp_history.specs.Script.{NumberedEvent}
use Rattle.dhcp_history.specs.Client.{view_of}
use Rattle.dhcp_history.specs.EventLoop.{events_at, last_moment, MakesUp}
use Rattle.dhcp_history.proofs.Looping.{events_go_on}
use Rattle.dhcp_history.proofs.event_loop.run_events.Goals as goal

pub loop-event-preserved : goal.loop-event-preserved
loop-event-preserved g c =
    let p = g.R.Rules.protocol c.args.rules.now in
    let left = g.W.Words.left in
    let rest = into_iter_items c.next.new.self in
    let whole = c.args.events.items in
    record {
      so_far = events_go_on p (left c.args.words.now) (left c.loop-event.words) (left c.run_event.new.words) (view_of c.args.client.now) (view_of c.loop-event.client) (view_of c.run_event.new.client)
          c.in-Some.event rest whole [] c.loop-event.outputs.items c.run_event.new.outputs.items
          (subst (λ (events : List (NumberedEvent Packet)). IfSome (left c.args.words.now) (λ words. IsSomeAnd (left c.loop-event.words) (λ available.
          MakesUp (events_at p (view_of c.loop-event.client available) events) (events_at p (view_of c.args.client.now words) whole) c.loop-event.outputs.items [])))
          c.in-Some.ensures.steps.0 c.loop-event.invariant.so_far)
          c.in_ok-run_event.ensures.reported;
      moment = rw c.in_ok-run_event.ensures.moment
          (subst (λ (events : List (NumberedEvent Packet)). last_moment c.loop-event.client.last_moment events ≡ last_moment c.args.client.now.last_moment whole) c.in-Some.ensures.steps.0 c.loop-event.invariant.moment);
      armed = λ first. c.run_event.ensures.armed (c.loop-event.invariant.armed first);
      keeps = λ holds preserves first. c.run_event.ensures.keeps holds preserves (c.loop-event.invariant.keeps holds preserves first);
      moments = All-tail (λ (event : NumberedEvent Packet). event.moment < 2 ^ 60) c.in-Some.event rest
          (subst (λ (events : List (NumberedEvent Packet)). All (λ (event : NumberedEvent Packet). event.moment < 2 ^ 60) events) c.in-Some.ensures.steps.0 c.loop-event.invariant.moments);
    }
