-- What is bounded: the polls, changes and messages of an event, and the attempts of a stay.
use Rattle.std.specs.Prelude.{ℕ, suc, zero, ◌+◌, ◌-◌, ◌*◌, ◌^◌, ◌<◌, ◌≤◌, ◌≡◌, Bool, true, false, not, ◌||◌, ◌&&◌, ◌==◌, ◌⊎◌, List, [], ◌∷◌, Option, Some, None, if◌then◌else◌}
use Rattle.dhcp_clock.specs.Wait.{half_wait}
use Rattle.dhcp_history.specs.declared.rules.AttemptStart.{AttemptStart}
use Rattle.dhcp_history.specs.Protocol.{Protocol, has_come}
use Rattle.dhcp_history.specs.Script.{Input, Nothing, Arrival, Release, CleanUp, NumberedEvent, NumberedReport, Report, Handed, Refused, Changed, Failed}
use Rattle.dhcp_history.specs.History.{Attempt, Act, Attempted, ReleaseRefused, LimitOver, Lasts, Stay}
use Rattle.dhcp_history.specs.Machine.{View, PollEffect, is_stopped, has_ended, poll}

-- how many items of a list pass a test
abbrev pub count_of : {A : Type 0} → (A → Bool) → List A → ℕ
count_of test [] = 0
count_of test (x ∷ xs) = (if test x then 1 else 0) + count_of test xs

-- 1. The polls, changes and messages of an event.

-- whether a change of state is reported
abbrev pub is_change_of : {PublicState Message : Type 0} → Report PublicState Message → Bool
is_change_of (Changed state) = true
is_change_of (Handed message) = false
is_change_of (Refused message) = false
is_change_of (Failed failure) = false

abbrev pub is_change : {PublicState Message : Type 0} → NumberedReport PublicState Message → Bool
is_change output = is_change_of output.report

-- whether a message is reported that was handed to the link, which took or refused it
abbrev pub is_send_of : {PublicState Message : Type 0} → Report PublicState Message → Bool
is_send_of (Handed message) = true
is_send_of (Refused message) = true
is_send_of (Changed state) = false
is_send_of (Failed failure) = false

abbrev pub is_send : {PublicState Message : Type 0} → NumberedReport PublicState Message → Bool
is_send output = is_send_of output.report

-- and whether that was at the event with this number
abbrev pub is_send_at : {PublicState Message : Type 0} → ℕ → NumberedReport PublicState Message →
    Bool
is_send_at number output = (output.event == number) && is_send output

-- how many messages an event may have: two, and one more for a release that it asks for
abbrev pub allowance : {Packet : Type 0} → Input Packet → ℕ
allowance Nothing = 2
allowance (Arrival packet) = 2
allowance Release = 3
allowance CleanUp = 2

-- how many messages the events with this number may have
abbrev pub allowed : {Packet : Type 0} → ℕ → List (NumberedEvent Packet) → ℕ
allowed number [] = 0
allowed number (event ∷ events) =
    (if event.number == number then allowance event.input else 0) + allowed number events

-- the numbers of the events never fall, and are this one at least
abbrev pub Numbered : {Packet : Type 0} → ℕ → List (NumberedEvent Packet) → Type 0
Numbered least [] = Unit {0}
Numbered least (event ∷ events) = (least ≤ event.number) × Numbered event.number events

-- nor do those of what is reported
abbrev pub InOrder : {PublicState Message : Type 0} → ℕ →
    List (NumberedReport PublicState Message) → Type 0
InOrder least [] = Unit {0}
InOrder least (output ∷ outputs) = (least ≤ output.event) × InOrder output.event outputs

module _ {PublicState Packet Message State Exchange Answer Lease : Type 0}
    (p : Protocol PublicState Packet Message State Exchange Answer Lease) where
  -- after a poll that answers a change the client is polled again
  abbrev pub count_again : (NumberedEvent Packet → View State Exchange → ℕ) →
      NumberedEvent Packet → Option State →
      PollEffect Packet Message State Exchange → ℕ
  count_again again event None once = 1
  count_again again event (Some next) once =
      suc (again (record event { input = once.left }) once.view)

  -- how often a client is polled at an event, where it is polled `fuel` times at most
  abbrev pub poll_count : ℕ → NumberedEvent Packet → View State Exchange → ℕ
  poll_count zero event view = 0
  poll_count (suc fuel) event view =
      let once = poll p event.moment event.refuse event.input view in
      count_again (poll_count fuel) event once.change once

  -- a client without a kept error is not past the end of its state
  abbrev pub IsWithinState : ℕ → View State Exchange → Type 0
  IsWithinState now view = is_stopped view.phase ≡ false → has_ended p now view ≡ false

-- 2. The stays of a history.

-- all stays close but the last one
abbrev pub CloseInTurn : {State Message : Type 0} → List (Stay State Message) → Type 0
CloseInTurn [] = Unit {0}
CloseInTurn (stay ∷ []) = stay.closing ≡ Lasts
CloseInTurn (stay ∷ next ∷ stays) = ((stay.closing ≡ Lasts) → ⊥) × CloseInTurn (next ∷ stays)

-- 3. The attempts of a stay.

-- the attempts among the acts of a stay
abbrev pub attempts_of : {Message : Type 0} → List (Act Message) → List (Attempt Message)
attempts_of [] = []
attempts_of (Attempted attempt ∷ acts) = attempt ∷ attempts_of acts
attempts_of (ReleaseRefused event message ∷ acts) = attempts_of acts
attempts_of (LimitOver event ∷ acts) = attempts_of acts

-- those of them that the link took
abbrev pub with_taken : {Message : Type 0} → Bool → Attempt Message → List (Attempt Message) →
    List (Attempt Message)
with_taken true attempt attempts = attempts
with_taken false attempt attempts = attempt ∷ attempts

abbrev pub taken_of : {Message : Type 0} → List (Attempt Message) → List (Attempt Message)
taken_of [] = []
taken_of (attempt ∷ attempts) = with_taken attempt.refused attempt (taken_of attempts)

-- and how many these are
abbrev pub taken_count : {Message : Type 0} → List (Attempt Message) → ℕ
taken_count attempts = count_of (λ attempt. not attempt.refused) attempts

-- the first attempt is at or past this moment, and each further one when the wait of the one before
-- is over, or later
abbrev pub Apart : {Message : Type 0} → ℕ → List (Attempt Message) → Type 0
Apart due [] = Unit {0}
Apart due (attempt ∷ attempts) =
    (due ≤ attempt.moment) × Apart (attempt.moment + attempt.wait) attempts

abbrev pub IsApart : {State Message : Type 0} → Stay State Message → Type 0
IsApart stay = Apart stay.setting.entered (attempts_of stay.acts)

-- the first attempt is at or past this moment, and each further one so long after the one before
abbrev pub FarApart : {Message : Type 0} → ℕ → ℕ → List (Attempt Message) → Type 0
FarApart distance due [] = Unit {0}
FarApart distance due (attempt ∷ attempts) =
    (due ≤ attempt.moment) × FarApart distance (attempt.moment + distance) attempts

-- in a stay in one of these states, given by what they hold, the link took so many messages at
-- most, besides a release
abbrev pub TakesAtMost : {State Message Held : Type 0} → ℕ → (Held → State) →
    Stay State Message → Type 0
TakesAtMost {Held = Held} most state_of stay =
    (held : Held) → stay.setting.state ≡ state_of held → taken_count (attempts_of stay.acts) ≤ most

-- the messages of a stay that the link took, besides a release, keep the distance of its state, in
-- milliseconds
abbrev pub KeepsDistance : {State Message : Type 0} → (State → ℕ) → Stay State Message → Type 0
KeepsDistance distance stay =
    FarApart (distance stay.setting.state) stay.setting.entered (taken_of (attempts_of stay.acts))

-- so many messages in so many milliseconds: from the second on, each further one asks for twice the
-- time
abbrev pub Halves : ℕ → ℕ → Type 0
Halves count time = 2 ≤ count → 60000 * 2 ^ (count - 2) < time

module _ {PublicState Packet Message State Exchange Answer Lease : Type 0}
    (p : Protocol PublicState Packet Message State Exchange Answer Lease) where
  -- the state ends when the wait of its n-th taken attempt is over, by a count in the exchange that
  -- each of them raises
  pub record EndsAfter (state : State) (n : ℕ) : Type 0 where
    pub some : 1 ≤ n
    pub count : Exchange → ℕ
    pub last : (exchange : Exchange) → n ≤ suc (count exchange) →
        p.is_last_attempt state exchange ≡ true
    pub rises : (exchange : Exchange) → suc (count exchange) < n →
        suc (count exchange) ≤ count (p.after_wait exchange)
    pub keeps : (exchange : Exchange) (start : AttemptStart) (words : List ℕ) →
        count exchange ≤ count (p.attempt state exchange start words).value.exchange

  -- a stay in a state that ends after n taken attempts has n of them at most
  abbrev pub HasAtMost : Stay State Message → Type 0
  HasAtMost stay =
      (n : ℕ) → EndsAfter stay.setting.state n → taken_count (attempts_of stay.acts) ≤ n

  -- the waits of the state are half of the rest until this moment (RFC 2131, section 4.4.5)
  pub record Halved (state : State) (end : ℕ) : Type 0 where
    pub ends : p.ending_moment state ≡ Some end
    pub waits : (exchange : Exchange) (start : AttemptStart) (words : List ℕ) →
        (p.attempt state exchange start words).value.wait ≡ half_wait (end - start.now)

  -- in a stay in such a state the messages that the link took get rarer by half
  abbrev pub IsSparse : Stay State Message → Type 0
  IsSparse stay =
      (end : ℕ) → Halved stay.setting.state end →
      Halves (taken_count (attempts_of stay.acts)) (end - stay.setting.entered)

  -- a test of exchanges that each exchange passes with which a stay begins, and that a wait which
  -- is over preserves
  pub record IsKept (good : Exchange → Bool) : Type 0 where
    pub after_wait : (exchange : Exchange) → good exchange ≡ true →
        good (p.after_wait exchange) ≡ true
    pub cleaned : (exchange : Exchange) → good (p.after_clean_up exchange).exchange ≡ true
    pub answered : (state : State) (answer : Answer) (now : ℕ) (exchange : Exchange) →
        good (p.after_answer state answer now exchange).exchange ≡ true
    pub ended : (state : State) (exchange : Exchange) →
        good (p.after_end state exchange).exchange ≡ true

  -- with such an exchange a wait of the state is so long at least, or it lasts to the end of the
  -- state
  pub record Distant (good : Exchange → Bool) (state : State) (distance : ℕ) : Type 0 where
    pub far : (exchange : Exchange) (start : AttemptStart) (words : List ℕ) →
        good exchange ≡ true → has_come start.now (p.ending_moment state) ≡ false →
        ((distance ≤ (p.attempt state exchange start words).value.wait) ×
        (good (p.attempt state exchange start words).value.exchange ≡ true)) ⊎
        (has_come (start.now + (p.attempt state exchange start words).value.wait)
        (p.ending_moment state) ≡ true)

  -- the attempts of a stay keep the least distance of its state
  abbrev pub IsDistant : (Exchange → Bool) → Stay State Message → Type 0
  IsDistant good stay =
      (distance : ℕ) → Distant good stay.setting.state distance →
      FarApart distance stay.setting.entered (attempts_of stay.acts)

  -- and so do the messages that the link took
  abbrev pub IsTakenDistant : (Exchange → Bool) → Stay State Message → Type 0
  IsTakenDistant good stay =
      (distance : ℕ) → Distant good stay.setting.state distance →
      FarApart distance stay.setting.entered (taken_of (attempts_of stay.acts))

  -- a test of a state and the moment of its entry, which each state passes that comes after another
  pub record HoldsAtEntries (holds : State → ℕ → Bool) : Type 0 where
    pub cut : (exchange : Exchange) (now : ℕ) → holds (p.after_clean_up exchange).state now ≡ true
    pub answer : (state : State) (answer : Answer) (now : ℕ) (exchange : Exchange) →
        holds (p.after_answer state answer now exchange).state now ≡ true
    pub end : (state : State) (exchange after : Exchange) (now : ℕ) →
        (has_come now (p.ending_moment state) || p.is_last_attempt state exchange) ≡ true →
        holds (p.after_end state after).state now ≡ true
