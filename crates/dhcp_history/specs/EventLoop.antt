-- What the loop over events reports, and how it goes on by one poll and by one event.
use Rattle.std.specs.Prelude.{ℕ, ◌≡◌, Bool, true, false, List, [], ◌∷◌, ◌++◌, Option, Some, None, is_some, Result, Ok, Err}
use Rattle.dhcp_clock.specs.declared.link.Packet.{Packet}
use Rattle.dhcp_clock.specs.declared.link.Handed.{Handed}
use Rattle.dhcp_history.specs.declared.event_loop.EventHead.{EventHead}
use Rattle.dhcp_history.specs.declared.machine.RunError.{RunError}
use Rattle.dhcp_history.specs.declared.machine.RunError.TheVariants as run
use Rattle.dhcp_history.specs.declared.release.ReleaseError.{ReleaseError}
use Rattle.dhcp_history.specs.Protocol.{Protocol}
use Rattle.dhcp_history.specs.Script.{Input, NumberedEvent, NumberedReport, Changed, Failed, TimedOut, SendRefused, after_call}
use Rattle.dhcp_history.specs.Machine.{View, PollEffect, EventEffect, polls, call, handed_output, failed_output}
use Rattle.dhcp_history.specs.Run.{waiting_of}

-- the event with this head and this input
abbrev pub event_of : EventHead → Input Packet → NumberedEvent Packet
event_of at input = record {
  number = at.number;
  moment = at.moment;
  refuse = at.refuse;
  input = input;
}

-- what is reported of a release, after the message that was handed for it
abbrev pub release_outputs : {PublicState : Type 0} → ℕ → Bool → Option Handed →
    Result Bool ReleaseError → List (NumberedReport PublicState Handed)
release_outputs number refuse handed (Ok released) = handed_output number refuse handed
release_outputs number refuse handed (Err error) =
    handed_output number refuse handed ++
    record { event = number; report = Failed SendRefused } ∷ []

-- what is reported of a poll, after the message that was handed in it
abbrev pub poll_outputs : {PublicState : Type 0} → ℕ → Bool → Option Handed →
    Result (Option PublicState) RunError → List (NumberedReport PublicState Handed)
poll_outputs number refuse handed (Ok None) = handed_output number refuse handed
poll_outputs number refuse handed (Ok (Some next)) =
    handed_output number refuse handed ++ record { event = number; report = Changed next } ∷ []
poll_outputs number refuse handed (Err error) =
    handed_output number refuse handed ++ record { event = number; report = Failed TimedOut } ∷ []

-- after a change the client is polled again
abbrev pub is_again : {PublicState : Type 0} → Result (Option PublicState) RunError → Bool
is_again (Ok None) = false
is_again (Ok (Some next)) = true
is_again (Err error) = false

-- whether a poll found memory
abbrev pub has_memory : {A : Type 0} → Result A RunError → Bool
has_memory (Ok a) = true
has_memory (Err run.TimedOut) = true
has_memory (Err run.OutOfMemory) = false

module _ {PublicState State Exchange Answer Lease : Type 0}
    (p : Protocol PublicState Packet Handed State Exchange Answer Lease) where
  -- what is reported of a poll that does this
  abbrev pub once_outputs : ℕ → Bool → Option State → PollEffect Packet Handed State Exchange →
      List (NumberedReport PublicState Handed)
  once_outputs number refuse None once =
      handed_output number refuse once.handed ++ failed_output number once.failed
  once_outputs number refuse (Some next) once =
      handed_output number refuse once.handed ++
      record { event = number; report = Changed (p.public_state next) } ∷ []

  -- what one poll of the loop leaves: whether another follows, what is reported, the client, the
  -- words and the packet that waits
  pub record HasPolledOnce (number : ℕ) (refuse : Bool)
      (once : PollEffect Packet Handed State Exchange) (result : Bool)
      (before after : List (NumberedReport PublicState Handed))
      (view : List ℕ → View State Exchange) (left : Option (List ℕ)) (packet : Option Packet) :
      Type 0 where
    pub again : result ≡ is_some once.change
    pub outputs : after ≡ before ++ once_outputs number refuse once.change once
    pub client : view once.view.words ≡ once.view
    pub words : left ≡ Some once.view.words
    pub waiting : packet ≡ waiting_of once.left

  -- the polls of an event
  unfoldable pub polls_at : ℕ → NumberedEvent Packet → View State Exchange →
      EventEffect PublicState Handed State Exchange
  polls_at fuel event view = polls p fuel event view

  -- the call of an event
  unfoldable pub call_at : NumberedEvent Packet → View State Exchange →
      EventEffect PublicState Handed State Exchange
  call_at event view = call p event view

  -- the call of an event, and then its polls
  abbrev pub event_at : NumberedEvent Packet → View State Exchange →
      EventEffect PublicState Handed State Exchange
  event_at event view =
      let called = call_at event view in
      let polled = polls_at 7 (after_call event) called.view in
      record { outputs = called.outputs ++ polled.outputs; view = polled.view }

  -- what events report, and the client after them
  abbrev pub events_at : View State Exchange → List (NumberedEvent Packet) →
      EventEffect PublicState Handed State Exchange
  events_at view [] = record { outputs = []; view = view }
  events_at view (event ∷ events) =
      let once = event_at event view in
      let more = events_at once.view events in
      record { outputs = once.outputs ++ more.outputs; view = more.view }

-- the moment of the last of these events, or this one where there is none
abbrev pub last_moment : ℕ → List (NumberedEvent Packet) → ℕ
last_moment moment [] = moment
last_moment moment (event ∷ events) = last_moment event.moment events

-- these outputs were added, and client and words are left so
pub record HasReported {PublicState State Exchange : Type 0}
    (once : EventEffect PublicState Handed State Exchange)
    (before after : List (NumberedReport PublicState Handed)) (view : List ℕ → View State Exchange)
    (left : Option (List ℕ)) : Type 0 where
  pub outputs : after ≡ before ++ once.outputs
  pub client : view once.view.words ≡ once.view
  pub words : left ≡ Some once.view.words

-- these outputs were added, and the client is left so
pub record HasCalled {PublicState State Exchange : Type 0}
    (once : EventEffect PublicState Handed State Exchange)
    (before after : List (NumberedReport PublicState Handed))
    (view : View State Exchange) : Type 0 where
  pub outputs : after ≡ before ++ once.outputs
  pub client : view ≡ once.view

-- what was reported so far and what is left to be done make up the whole
pub record MakesUp {PublicState State Exchange : Type 0}
    (rest whole : EventEffect PublicState Handed State Exchange)
    (so_far before : List (NumberedReport PublicState Handed)) : Type 0 where
  pub outputs : so_far ++ rest.outputs ≡ before ++ whole.outputs
  pub view : rest.view ≡ whole.view
