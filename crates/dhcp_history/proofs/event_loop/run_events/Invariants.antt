use Rattle.std.proofs.Common.{◌≡◌, ◌<◌, ◌^◌, []}
use Rattle.std.specs.Prelude.{All, IfSome, IsSomeAnd}
use Rattle.std.specs.Vec.Iter.{into_iter_items}
use Rattle.dhcp_history.specs.Client.{view_of}
use Rattle.dhcp_history.specs.Kept.{Keeps}
use Rattle.dhcp_history.specs.Schedule.{HasNextAttempt}
use Rattle.dhcp_history.specs.EventLoop.{events_at, last_moment, MakesUp}
use Rattle.dhcp_history.proofs.event_loop.run_events.Given as goal

-- what was reported so far and the events that are left make up all of them
abbrev pub invariant-loop-event : goal.invariant-loop-event
invariant-loop-event g l =
    let p = g.R.Rules.protocol l.rules in
    let left = g.W.Words.left in
    record {
      so_far : IfSome (left l.fn.words) (λ first. IsSomeAnd (left l.words) (λ available.
          MakesUp (events_at p (view_of l.client available) (into_iter_items l.event-iterator)) (events_at p (view_of l.fn.client first) l.fn.events.items) l.outputs.items []));
      moment : last_moment l.client.last_moment (into_iter_items l.event-iterator) ≡ last_moment l.fn.client.last_moment l.fn.events.items;
      armed : HasNextAttempt p.has_attempts l.fn.client → HasNextAttempt p.has_attempts l.client;
      keeps : Keeps p l.fn.client.state l.client.state;
      moments : All (λ event. event.moment < 2 ^ 60) (into_iter_items l.event-iterator);
    }
