use Rattle.std.proofs.Common.{◌≡◌, ◌-◌, ◌⊎◌, []}
use Rattle.std.specs.Prelude.{IfSome, IsSomeAnd}
use Rattle.dhcp_history.specs.Client.{view_of}
use Rattle.dhcp_history.specs.Kept.{Keeps}
use Rattle.dhcp_history.specs.Schedule.{HasNextAttempt}
use Rattle.dhcp_history.specs.Run.{input_of}
use Rattle.dhcp_history.specs.EventLoop.{event_of, polls_at, MakesUp}
use Rattle.dhcp_history.proofs.event_loop.poll_event.Given as goal

-- what was reported so far and the polls that are left make up all seven
abbrev pub invariant-loop : goal.invariant-loop
invariant-loop g l =
    let p = g.R.Rules.protocol l.rules in
    let left = g.W.Words.left in
    record {
      so_far : IfSome (left l.fn.words) (λ first. IsSomeAnd (left l.words) (λ available.
          MakesUp (polls_at p (7 - l.counter) (event_of l.at (input_of l.link.shown.waiting)) (view_of l.client available))
          (polls_at p 7 (event_of l.at (input_of l.fn.link.shown.waiting)) (view_of l.fn.client first)) l.outputs.items l.fn.outputs.items));
      empty : l.link.shown.handed ≡ [];
      refuses : l.link.shown.refuses ≡ l.at.refuse;
      polled : (l.counter ≡ 0) ⊎ (l.client.last_moment ≡ l.at.moment);
      armed : HasNextAttempt p.has_attempts l.fn.client → HasNextAttempt p.has_attempts l.client;
      keeps : Keeps p l.fn.client.state l.client.state;
    }
