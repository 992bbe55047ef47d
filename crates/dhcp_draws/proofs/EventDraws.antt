-- How many words an event draws, and that it does the same with further words behind those that are left.
use Rattle.std.proofs.Common.{◌≡◌, ◌≤◌, ◌+◌, ℕ, zero, suc, List, ◌++◌, length, refl, ap, arith, ◌∙◌}
use Rattle.std.specs.Prelude.{Option, Some, None, ◌∷◌}
use Rattle.std.proofs.lemmas.Bool.{cond_both}
use Rattle.dhcp_clock.specs.declared.link.Handed.{Handed}
use Rattle.dhcp_clock.specs.declared.link.Packet.{Packet}
use Rattle.dhcp_history.specs.EventLoop.{call_at, polls_at}
use Rattle.dhcp_history.specs.Machine.{EventEffect, PollEffect, View, after_poll, call, call_by, handed_output, poll, polls, release_of}
use Rattle.dhcp_history.specs.Protocol.{Protocol}
use Rattle.dhcp_history.specs.Script.{after_call, input_after_call}
use Rattle.dhcp_history.specs.declared.script.Input.{Input}
use Rattle.dhcp_history.specs.declared.script.Input.TheVariants.{Arrival, CleanUp, Nothing, Release}
use Rattle.dhcp_history.specs.declared.script.NumberedEvent.{NumberedEvent}
use Rattle.dhcp_history.specs.declared.script.Report.TheVariants.{Changed}
use Rattle.dhcp_draws.specs.Draws.{DrawsWithin, Limits}
use Rattle.dhcp_draws.specs.Events.{EventsTakeAtMost, EventsTakeWithin, effect_with_more, event_words, state_words, with_more}
use Rattle.dhcp_draws.proofs.PollDraws.{Spends, poll_alike, cond_alike, poll_spends, poll_with_more}

module _ {PublicState State Exchange Answer Lease : Type 0} (p : Protocol PublicState Packet Handed State Exchange Answer Lease) where
  abbrev Effect : Type 0
  Effect = EventEffect PublicState Handed State Exchange

  -- 1. The polls of an event.

  -- after a poll, if the polls after it do the same
  after_alike : (again : NumberedEvent Packet → View State Exchange → Effect) (event : NumberedEvent Packet) (change : Option State) (once : PollEffect Packet Handed State Exchange) (more : List ℕ) →
      ((next : State) → change ≡ Some next → again (record event { input = once.left }) (with_more more once.view) ≡ effect_with_more more (again (record event { input = once.left }) once.view)) →
      after_poll p again event change (poll_with_more more once) ≡ effect_with_more more (after_poll p again event change once)
  after_alike again event None once more alike = refl
  after_alike again event (Some next) once more alike =
      ap (λ (later : Effect). record { outputs = handed_output event.number event.refuse once.handed ++ (record { event = event.number; report = Changed (p.public_state next) } ∷ later.outputs); view = later.view }) (alike next refl)

  -- and how many words are left
  after_leaves : (again : NumberedEvent Packet → View State Exchange → Effect) (event : NumberedEvent Packet) (change : Option State) (once : PollEffect Packet Handed State Exchange) (before most : ℕ) →
      before ≤ length once.view.words + most →
      ((next : State) → change ≡ Some next → before ≤ length (again (record event { input = once.left }) once.view).view.words + most) →
      before ≤ length (after_poll p again event change once).view.words + most
  after_leaves again event None once before most few more = few
  after_leaves again event (Some next) once before most few more = more next refl

  module _ (limits : Limits) (within : DrawsWithin limits p) where
    polls_alike : (fuel : ℕ) (event : NumberedEvent Packet) (view : View State Exchange) (more : List ℕ) → event_words limits event.input ≤ length view.words →
        polls p fuel event (with_more more view) ≡ effect_with_more more (polls p fuel event view)
    polls_alike zero event view more enough = refl
    polls_alike (suc fuel) event view more enough =
        let once : PollEffect Packet Handed State Exchange = poll p event.moment event.refuse event.input view in
        let spends : Spends limits (length view.words) event.input once = poll_spends p limits within event.moment event.refuse event.input view in
        ap (λ (done : PollEffect Packet Handed State Exchange). after_poll p (polls p fuel) event done.change done) (poll_alike p limits within event.moment event.refuse event.input view more enough)
        ∙ after_alike (polls p fuel) event once.change once more
        (λ next changed. polls_alike fuel (record event { input = once.left }) once.view more (omega (arith, spends.then_left next changed)))

    polls_leave : (fuel : ℕ) (event : NumberedEvent Packet) (view : View State Exchange) → length view.words ≤ length (polls p fuel event view).view.words + event_words limits event.input
    polls_leave zero event view = omega arith
    polls_leave (suc fuel) event view =
        let once : PollEffect Packet Handed State Exchange = poll p event.moment event.refuse event.input view in
        let spends : Spends limits (length view.words) event.input once = poll_spends p limits within event.moment event.refuse event.input view in
        after_leaves (polls p fuel) event once.change once (length view.words) (event_words limits event.input) spends.at_most
        (λ next changed. omega (arith, spends.then_left next changed, polls_leave fuel (record event { input = once.left }) once.view))

  -- 2. The call of an event.

  release_alike : (lease : Option Lease) (event : NumberedEvent Packet) (view : View State Exchange) (more : List ℕ) → release_of p lease event (with_more more view) ≡ effect_with_more more (release_of p lease event view)
  release_alike None event view more = refl
  release_alike (Some lease) event view more = cond_alike (effect_with_more more) event.refuse _ _ _ _ refl refl

  call_alike : (input : Input Packet) (event : NumberedEvent Packet) (view : View State Exchange) (more : List ℕ) → call_by p input event (with_more more view) ≡ effect_with_more more (call_by p input event view)
  call_alike Nothing event view more = refl
  call_alike (Arrival packet) event view more = refl
  call_alike Release event view more = release_alike (p.held_lease view.state) event view more
  call_alike CleanUp event view more = refl

  release_keeps : (lease : Option Lease) (event : NumberedEvent Packet) (view : View State Exchange) → (release_of p lease event view).view.words ≡ view.words
  release_keeps None event view = refl
  release_keeps (Some lease) event view = cond_both event.refuse _ _ (λ (effect : Effect). effect.view.words ≡ view.words) (λ refused. refl) (λ taken. refl)

  call_keeps : (input : Input Packet) (event : NumberedEvent Packet) (view : View State Exchange) → (call_by p input event view).view.words ≡ view.words
  call_keeps Nothing event view = refl
  call_keeps (Arrival packet) event view = refl
  call_keeps Release event view = release_keeps (p.held_lease view.state) event view
  call_keeps CleanUp event view = refl

  -- 3. The event.

  same_after_call : (limits : Limits) (input : Input Packet) → event_words limits (input_after_call input) ≡ event_words limits input
  same_after_call limits Nothing = refl
  same_after_call limits (Arrival packet) = refl
  same_after_call limits Release = refl
  same_after_call limits CleanUp = refl

  -- the call of an event, and then its polls
  abbrev event_after : Effect → Effect → Effect
  event_after done polled = record { outputs = done.outputs ++ polled.outputs; view = polled.view }

  pub events_take : (limits : Limits) → DrawsWithin limits p → EventsTakeWithin p limits
  unfolding call_at polls_at
  events_take limits within event view =
      let called : Effect = call p event view in
      let kept : called.view.words ≡ view.words = call_keeps event.input event view in
      let same : event_words limits (after_call event).input ≡ event_words limits event.input = same_after_call limits event.input in
      record {
        leaves = omega (arith, ap length kept, polls_leave limits within 7 (after_call event) called.view, same);
        alike = λ more enough.
            ap (λ (done : Effect). event_after done (polls p 7 (after_call event) done.view)) (call_alike event.input event view more)
            ∙ ap (event_after called) (polls_alike limits within 7 (after_call event) called.view more (omega (arith, ap length kept, same)));
      }

  -- 4. One number for all events.

  at_most_with_packet : (limits : Limits) (input : Input Packet) → event_words limits input ≤ state_words limits + limits.reading + state_words limits
  at_most_with_packet limits Nothing = omega arith
  at_most_with_packet limits (Arrival packet) = omega arith
  at_most_with_packet limits Release = omega arith
  at_most_with_packet limits CleanUp = omega arith

  pub events_take_at_most : (limits : Limits) (most : ℕ) → EventsTakeWithin p limits → state_words limits + limits.reading + state_words limits ≤ most → EventsTakeAtMost p most
  events_take_at_most limits most within below event view =
      let few : event_words limits event.input ≤ most = omega (arith, at_most_with_packet limits event.input) in
      record {
        leaves = omega (arith, (within event view).leaves, few);
        alike = λ more enough. (within event view).alike more (omega (arith, few));
      }
