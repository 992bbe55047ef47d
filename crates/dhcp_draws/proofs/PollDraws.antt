-- How many words a poll draws, and that it does the same with further words behind those that are left.
use Rattle.std.proofs.Common.{◌≡◌, ◌≤◌, ◌+◌, ℕ, Bool, true, false, List, ◌++◌, length, refl, sym, ap, subst, arith, ◌∙◌}
use Rattle.std.specs.Prelude.{Option, Some, None, if◌then◌else◌}
use Rattle.std.proofs.lemmas.Bool.{cond_both}
use Rattle.dhcp_clock.specs.Words.{Drawn}
use Rattle.dhcp_clock.specs.declared.link.Handed.{Handed}
use Rattle.dhcp_clock.specs.declared.link.Packet.{Packet}
use Rattle.dhcp_history.specs.History.{first_due, reading_of}
use Rattle.dhcp_history.specs.Machine.{PollEffect, View, attempt_now, begin_in, begin_stay, end_state, has_ended, has_open_attempt, is_stopped, limit_is_over, limit_is_over_in, phase_by, poll, receive, stop, take_answer, transmit, transmit_and_receive}
use Rattle.dhcp_history.specs.declared.client.Phase.{Phase}
use Rattle.dhcp_history.specs.declared.client.Phase.TheVariants.{Listening, Pausing, Resting, Stopped, Unpolled}
use Rattle.dhcp_history.specs.Protocol.{Protocol, has_come, pause_of}
use Rattle.dhcp_history.specs.declared.script.Input.{Input}
use Rattle.dhcp_history.specs.declared.script.Input.TheVariants.{Arrival, CleanUp, Nothing, Release}
use Rattle.dhcp_history.specs.declared.rules.NewAttempt.{NewAttempt}
use Rattle.dhcp_draws.specs.Draws.{DrawsAtMost, DrawsWithin, Limits, followed_by}
use Rattle.dhcp_draws.specs.Events.{event_words, state_words, with_more}
use Rattle.dhcp_draws.proofs.Drawing.{draws_either, draws_nothing}

-- what a poll does, with further words behind those that are left
abbrev pub poll_with_more : {Packet Message State Exchange : Type 0} → List ℕ → PollEffect Packet Message State Exchange → PollEffect Packet Message State Exchange
poll_with_more more once = record once { view = with_more more once.view }

-- one of two, each with what it is with further words
pub cond_alike : {X : Type 0} (f : X → X) (test : Bool) (one other one' other' : X) → one' ≡ f one → other' ≡ f other → (if test then one' else other') ≡ f (if test then one else other)
cond_alike f true one other one' other' is is' = is
cond_alike f false one other one' other' is is' = is'

-- how many words are drawn to read what comes
abbrev reading_words : Limits → Input Packet → ℕ
reading_words limits Nothing = 0
reading_words limits (Arrival packet) = limits.reading
reading_words limits Release = 0
reading_words limits CleanUp = 0

-- an event has at least so many for its state
pub state_first : (limits : Limits) (input : Input Packet) → state_words limits + reading_words limits input ≤ event_words limits input
state_first limits Nothing = omega arith
state_first limits (Arrival packet) = omega arith
state_first limits Release = omega arith
state_first limits CleanUp = omega arith

-- of so many words before a poll at most those were taken that an event may take; if the state changed, enough are left for
-- what is left of the event
pub record Spends {State Exchange : Type 0} (limits : Limits) (before : ℕ) (input : Input Packet) (once : PollEffect Packet Handed State Exchange) : Type 0 where
  pub at_most : before ≤ length once.view.words + event_words limits input
  pub then_left : (next : State) → once.change ≡ Some next → before + event_words limits once.left ≤ length once.view.words + event_words limits input

module _ {PublicState State Exchange Answer Lease : Type 0} (p : Protocol PublicState Packet Handed State Exchange Answer Lease) (limits : Limits) (within : DrawsWithin limits p) where
  -- 1. The pause.

  pause_within : (state : State) (exchange : Exchange) → DrawsAtMost limits.pause (pause_of p state exchange)
  pause_within state exchange = draws_either limits.pause (p.has_attempts state) (p.pause state exchange) (λ words. record { value = 0; left = words }) (within.pauses state exchange) (draws_nothing limits.pause 0)

  begin_alike_in : (phase : Phase) (now : ℕ) (view : View State Exchange) (more : List ℕ) → limits.pause ≤ length view.words → begin_in p phase now (with_more more view) ≡ with_more more (begin_in p phase now view)
  begin_alike_in Unpolled now view more enough =
      ap (λ (pause : Drawn ℕ). record view { phase = Pausing; entered = now; deadline = first_due p view.state (now + pause.value); words = pause.left })
      ((pause_within view.state view.exchange).alike view.words more enough)
  begin_alike_in Pausing now view more enough = refl
  begin_alike_in Listening now view more enough = refl
  begin_alike_in Resting now view more enough = refl
  begin_alike_in Stopped now view more enough = refl

  begin_leaves_in : (phase : Phase) (now : ℕ) (view : View State Exchange) → length view.words ≤ length (begin_in p phase now view).words + limits.pause
  begin_leaves_in Unpolled now view = (pause_within view.state view.exchange).leaves view.words
  begin_leaves_in Pausing now view = omega arith
  begin_leaves_in Listening now view = omega arith
  begin_leaves_in Resting now view = omega arith
  begin_leaves_in Stopped now view = omega arith

  -- 2. The packet.

  reading_within : (state : State) (exchange : Exchange) (input : Input Packet) → DrawsAtMost (reading_words limits input) (λ words. reading_of p state exchange words input)
  reading_within state exchange (Arrival packet) = within.readings state exchange packet
  reading_within state exchange Nothing = draws_nothing 0 None
  reading_within state exchange Release = draws_nothing 0 None
  reading_within state exchange CleanUp = draws_nothing 0 None

  take_alike : (now : ℕ) (handed : Option Handed) (view : View State Exchange) (answer : Option Answer) (words more : List ℕ) →
      take_answer p now handed (with_more more view) answer (words ++ more) ≡ poll_with_more more (take_answer {Packet = Packet} p now handed view answer words)
  take_alike now handed view None words more = refl
  take_alike now handed view (Some answer) words more = refl

  receive_alike : (now : ℕ) (input : Input Packet) (handed : Option Handed) (view : View State Exchange) (more : List ℕ) → reading_words limits input ≤ length view.words →
      receive p now input handed (with_more more view) ≡ poll_with_more more (receive p now input handed view)
  receive_alike now input handed view more enough =
      let read : Drawn (Option Answer) = reading_of p view.state view.exchange view.words input in
      cond_alike (poll_with_more more) (has_open_attempt view.phase) _ _ _ _
      (ap (λ (drawn : Drawn (Option Answer)). take_answer p now handed (with_more more view) drawn.value drawn.left) ((reading_within view.state view.exchange input).alike view.words more enough)
      ∙ take_alike now handed view read.value read.left more)
      refl

  take_spends : (before now : ℕ) (input : Input Packet) (handed : Option Handed) (view : View State Exchange) (answer : Option Answer) (words : List ℕ) →
      before ≤ length words + state_words limits + reading_words limits input → ((given : Answer) → answer ≡ Some given → event_words limits input ≡ state_words limits + reading_words limits input + state_words limits) →
      Spends limits before input (take_answer p now handed view answer words)
  take_spends before now input handed view None words few packet = record {
    at_most = omega (arith, state_first limits input);
    then_left = λ next is. absurd (cc is);
  }
  take_spends before now input handed view (Some answer) words few packet = record {
    at_most = omega (arith, state_first limits input);
    then_left = λ next is. omega (arith, packet answer refl);
  }

  only_packets : (state : State) (exchange : Exchange) (words : List ℕ) (input : Input Packet) (given : Answer) → (reading_of p state exchange words input).value ≡ Some given →
      event_words limits input ≡ state_words limits + reading_words limits input + state_words limits
  only_packets state exchange words (Arrival packet) given is = refl
  only_packets state exchange words Nothing given is = absurd (cc is)
  only_packets state exchange words Release given is = absurd (cc is)
  only_packets state exchange words CleanUp given is = absurd (cc is)

  receive_spends : (before now : ℕ) (input : Input Packet) (handed : Option Handed) (view : View State Exchange) → before ≤ length view.words + state_words limits → Spends limits before input (receive p now input handed view)
  receive_spends before now input handed view few =
      let read : Drawn (Option Answer) = reading_of p view.state view.exchange view.words input in
      cond_both (has_open_attempt view.phase) _ _ (Spends limits before input)
      (λ listens. take_spends before now input handed view read.value read.left (omega (arith, (reading_within view.state view.exchange input).leaves view.words)) (only_packets view.state view.exchange view.words input))
      (λ listens. record { at_most = omega (arith, state_first limits input); then_left = λ next is. absurd (cc is) })

  -- 3. The attempt.

  attempt_alike : (now : ℕ) (view : View State Exchange) (more : List ℕ) → limits.attempt ≤ length view.words → attempt_now p now (with_more more view) ≡ followed_by more (attempt_now p now view)
  attempt_alike now view more enough = (within.attempts view.state _ _).alike view.words more enough

  attempt_leaves : (now : ℕ) (view : View State Exchange) → length view.words ≤ length (attempt_now p now view).left + limits.attempt
  attempt_leaves now view = (within.attempts view.state _ _).leaves view.words

  send_alike : (now : ℕ) (refuse : Bool) (input : Input Packet) (view : View State Exchange) (more : List ℕ) → limits.attempt + reading_words limits input ≤ length view.words →
      transmit_and_receive p now refuse input (with_more more view) ≡ poll_with_more more (transmit_and_receive p now refuse input view)
  send_alike now refuse input view more enough =
      let sent : Drawn (NewAttempt Exchange Handed) = attempt_now p now view in
      cond_alike (poll_with_more more) (has_come now view.deadline) _ _ _ _
      (ap (λ (attempt : Drawn (NewAttempt Exchange Handed)). receive p now input (Some attempt.value.message)
      (record view { phase = phase_by refuse; deadline = Some (now + attempt.value.wait); exchange = attempt.value.exchange; words = attempt.left })) (attempt_alike now view more (omega arith))
      ∙ receive_alike now input (Some sent.value.message) (transmit p now refuse view) more (omega (arith, attempt_leaves now view)))
      (receive_alike now input None view more (omega arith))

  send_spends : (before now : ℕ) (refuse : Bool) (input : Input Packet) (view : View State Exchange) → before ≤ length view.words + limits.pause → Spends limits before input (transmit_and_receive p now refuse input view)
  send_spends before now refuse input view few =
      cond_both (has_come now view.deadline) _ _ (Spends limits before input)
      (λ come. receive_spends before now input (Some (attempt_now p now view).value.message) (transmit p now refuse view) (omega (arith, attempt_leaves now view)))
      (λ none. receive_spends before now input None view (omega arith))

  -- 4. The poll.

  limit_alike : (phase : Phase) (now : ℕ) (view : View State Exchange) (more : List ℕ) → limit_is_over_in p phase now (with_more more view) ≡ limit_is_over_in p phase now view
  limit_alike Unpolled now view more = refl
  limit_alike Pausing now view more = refl
  limit_alike Listening now view more = refl
  limit_alike Resting now view more = refl
  limit_alike Stopped now view more = refl

  after_limit : ℕ → Bool → Input Packet → View State Exchange → Bool → PollEffect Packet Handed State Exchange
  after_limit now refuse input view over = if over then stop input view else (if has_ended p now view then end_state p now input view else transmit_and_receive p now refuse input (begin_stay p now view))

  pub poll_alike : (now : ℕ) (refuse : Bool) (input : Input Packet) (view : View State Exchange) (more : List ℕ) → event_words limits input ≤ length view.words →
      poll p now refuse input (with_more more view) ≡ poll_with_more more (poll p now refuse input view)
  unfolding after_limit
  poll_alike now refuse input view more enough =
      cond_alike (poll_with_more more) (is_stopped view.phase) _ _ _ _ refl
      (ap (after_limit now refuse input (with_more more view)) (limit_alike view.phase now view more)
      ∙ cond_alike (poll_with_more more) (limit_is_over p now view) _ _ _ _ refl
      (cond_alike (poll_with_more more) (has_ended p now view) _ _ _ _ refl
      (ap (transmit_and_receive p now refuse input) (begin_alike_in view.phase now view more (omega (arith, state_first limits input)))
      ∙ send_alike now refuse input (begin_stay p now view) more (omega (arith, state_first limits input, begin_leaves_in view.phase now view)))))

  -- nothing is drawn
  rests : (input : Input Packet) (once : PollEffect Packet Handed State Exchange) → once.left ≡ input → Spends limits (length once.view.words) input once
  rests input once is = record {
    at_most = omega arith;
    then_left = λ next changed. subst (λ (left : Input Packet). length once.view.words + event_words limits left ≤ length once.view.words + event_words limits input) (sym is) (omega arith);
  }

  pub poll_spends : (now : ℕ) (refuse : Bool) (input : Input Packet) (view : View State Exchange) → Spends limits (length view.words) input (poll p now refuse input view)
  poll_spends now refuse input view =
      cond_both (is_stopped view.phase) _ _ (Spends limits (length view.words) input) (λ stopped. rests input (stop input view) refl)
      (λ runs. cond_both (limit_is_over p now view) _ _ (Spends limits (length view.words) input) (λ over. rests input (stop input view) refl)
      (λ within. cond_both (has_ended p now view) _ _ (Spends limits (length view.words) input) (λ ended. rests input (end_state p now input view) refl)
      (λ lasts. send_spends (length view.words) now refuse input (begin_stay p now view) (begin_leaves_in view.phase now view))))
