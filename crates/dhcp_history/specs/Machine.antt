-- The client as a machine that is polled, and the loop over events that polls it.
pub use Rattle.dhcp_history.specs.declared.client.Phase.{Phase}
pub use Rattle.dhcp_history.specs.declared.client.Phase.TheVariants.{Unpolled, Pausing, Listening, Resting, Stopped}
use Rattle.std.specs.Prelude.{ℕ, suc, zero, ◌+◌, Bool, true, false, ◌&&◌, ◌||◌, List, [], ◌∷◌, ◌++◌, Option, Some, None, if◌then◌else◌}
use Rattle.dhcp_history.specs.declared.rules.NewAttempt.{NewAttempt}
use Rattle.dhcp_clock.specs.Words.{Drawn}
use Rattle.dhcp_history.specs.Protocol.{Protocol, NextState, has_come, pause_of}
use Rattle.dhcp_history.specs.Script.{Input, Nothing, Arrival, Release, CleanUp, NumberedEvent, TimedOut, SendRefused, Handed, Refused, Changed, Failed, NumberedReport, Script, after_call}
use Rattle.dhcp_history.specs.History.{first_due, limit_moment, reading_of, after_wait_if}

abbrev pub is_unpolled : Phase → Bool
is_unpolled Unpolled = true
is_unpolled Pausing = false
is_unpolled Listening = false
is_unpolled Resting = false
is_unpolled Stopped = false

abbrev pub is_pausing : Phase → Bool
is_pausing Unpolled = false
is_pausing Pausing = true
is_pausing Listening = false
is_pausing Resting = false
is_pausing Stopped = false

abbrev pub has_open_attempt : Phase → Bool
has_open_attempt Unpolled = false
has_open_attempt Pausing = false
has_open_attempt Listening = true
has_open_attempt Resting = false
has_open_attempt Stopped = false

abbrev pub is_stopped : Phase → Bool
is_stopped Unpolled = false
is_stopped Pausing = false
is_stopped Listening = false
is_stopped Resting = false
is_stopped Stopped = true

-- the phase after an attempt, by whether the link refused it
abbrev pub phase_by : Bool → Phase
phase_by true = Resting
phase_by false = Listening

-- What a client is: its state and exchange, its time limit in seconds (0 where there is none), the
-- moment of its first poll in this state, its phase, the moment from which the next attempt is due,
-- and the random words that are left.
pub record View (State Exchange : Type 0) : Type 0 where
  pub state : State
  pub exchange : Exchange
  pub timeout_sec : ℕ
  pub entered : ℕ
  pub phase : Phase
  pub deadline : Option ℕ
  pub words : List ℕ

-- the client with which a script begins, which was not polled yet
abbrev pub first_view : {Packet State Exchange : Type 0} → Script Packet State Exchange →
    View State Exchange
first_view script = record {
  state = script.state;
  exchange = script.exchange;
  timeout_sec = script.timeout_sec;
  entered = 0;
  phase = Unpolled;
  deadline = None;
  words = script.words;
}

-- what one poll does: the client after it, the message that it hands to the link, what is left of
-- the event's input, and its answer: a change of state, an error, or neither
pub record PollEffect (Packet Message State Exchange : Type 0) : Type 0 where
  pub view : View State Exchange
  pub handed : Option Message
  pub left : Input Packet
  pub change : Option State
  pub failed : Bool

-- what the polls or the call of an event report, and the client after them
pub record EventEffect (PublicState Message State Exchange : Type 0) : Type 0 where
  pub outputs : List (NumberedReport PublicState Message)
  pub view : View State Exchange

-- what is reported of a message that is handed at the event with this number, to a link that
-- refuses or does not
abbrev pub handed_output : {PublicState Message : Type 0} → ℕ → Bool → Option Message →
    List (NumberedReport PublicState Message)
handed_output number refuse None = []
handed_output number refuse (Some message) =
    record { event = number; report = if refuse then Refused message else Handed message } ∷ []

-- and of a time limit that is over
abbrev pub failed_output : {PublicState Message : Type 0} → ℕ → Bool →
    List (NumberedReport PublicState Message)
failed_output number failed =
    if failed then record { event = number; report = Failed TimedOut } ∷ [] else []

-- goes to the next state, which was not polled yet
abbrev pub enter : {State Exchange : Type 0} → NextState State Exchange → View State Exchange →
    View State Exchange
enter next view = record {
  state = next.state;
  exchange = next.exchange;
  timeout_sec = view.timeout_sec;
  entered = 0;
  phase = Unpolled;
  deadline = None;
  words = view.words;
}

-- a client whose time limit is over answers the error, and does nothing else
abbrev pub stop : {Packet Message State Exchange : Type 0} → Input Packet → View State Exchange →
    PollEffect Packet Message State Exchange
stop input view = record {
  view = record view { phase = Stopped };
  handed = None;
  left = input;
  change = None;
  failed = true;
}

module _ {PublicState Packet Message State Exchange Answer Lease : Type 0}
    (p : Protocol PublicState Packet Message State Exchange Answer Lease) where
  -- 1. What a poll finds.

  -- whether the wait of an open attempt is over
  abbrev pub is_wait_over : ℕ → View State Exchange → Bool
  is_wait_over now view = has_open_attempt view.phase && has_come now view.deadline

  -- the exchange of the next attempt, where one is made now
  abbrev pub exchange_at : ℕ → View State Exchange → Exchange
  exchange_at now view = after_wait_if p (is_wait_over now view) view.exchange

  -- whether the state ends: its moment has come, or the wait of its last attempt is over
  abbrev pub has_ended : ℕ → View State Exchange → Bool
  has_ended now view =
      has_come now (p.ending_moment view.state) ||
      (is_wait_over now view && p.is_last_attempt view.state view.exchange)

  -- whether the time limit is over; it counts from the first poll in a state on
  abbrev pub limit_is_over_in : Phase → ℕ → View State Exchange → Bool
  limit_is_over_in Unpolled now view = false
  limit_is_over_in _ now view =
      has_come now (limit_moment p view.timeout_sec view.entered view.state)

  abbrev pub limit_is_over : ℕ → View State Exchange → Bool
  limit_is_over now view = limit_is_over_in view.phase now view

  -- 2. What a poll does.

  -- a state at its end gives way to the next one
  abbrev pub end_state : ℕ → Input Packet → View State Exchange →
      PollEffect Packet Message State Exchange
  end_state now input view =
      let next = p.after_end view.state (exchange_at now view) in
      record {
        view = enter next view;
        handed = None;
        left = input;
        change = Some next.state;
        failed = false;
      }

  -- the first poll in a state draws its pause
  abbrev pub begin_in : Phase → ℕ → View State Exchange → View State Exchange
  begin_in Unpolled now view =
      let pause = pause_of p view.state view.exchange view.words in
      record view {
        phase = Pausing;
        entered = now;
        deadline = first_due p view.state (now + pause.value);
        words = pause.left;
      }
  begin_in _ now view = view

  abbrev pub begin_stay : ℕ → View State Exchange → View State Exchange
  begin_stay now view = begin_in view.phase now view

  -- the attempt that is made now, and the client after it
  abbrev pub attempt_now : ℕ → View State Exchange → Drawn (NewAttempt Exchange Message)
  attempt_now now view =
      p.attempt view.state (exchange_at now view)
      (record { is_first = is_pausing view.phase; entered = view.entered; now = now }) view.words

  abbrev pub transmit : ℕ → Bool → View State Exchange → View State Exchange
  transmit now refuse view =
      let attempt = attempt_now now view in
      record view {
        phase = phase_by refuse;
        deadline = Some (now + attempt.value.wait);
        exchange = attempt.value.exchange;
        words = attempt.left;
      }

  -- the client has taken the input, which answers this or nothing
  abbrev pub take_answer : ℕ → Option Message → View State Exchange → Option Answer → List ℕ →
      PollEffect Packet Message State Exchange
  take_answer now handed view None words = record {
    view = record view { words = words };
    handed = handed;
    left = Nothing;
    change = None;
    failed = false;
  }
  take_answer now handed view (Some answer) words =
      let next = p.after_answer view.state answer now view.exchange in
      record {
        view = record (enter next view) { words = words };
        handed = handed;
        left = Nothing;
        change = Some next.state;
        failed = false;
      }

  -- the client takes the input where it listens, after it handed this message or none to the link
  abbrev pub receive : ℕ → Input Packet → Option Message → View State Exchange →
      PollEffect Packet Message State Exchange
  receive now input handed view =
      if has_open_attempt view.phase
      then (let read = reading_of p view.state view.exchange view.words input in
      take_answer now handed view read.value read.left)
      else record { view = view; handed = handed; left = input; change = None; failed = false }

  -- an attempt is made where one is due, and then the packet is taken
  abbrev pub transmit_and_receive : ℕ → Bool → Input Packet → View State Exchange →
      PollEffect Packet Message State Exchange
  transmit_and_receive now refuse input view =
      if has_come now view.deadline
      then receive now input (Some (attempt_now now view).value.message) (transmit now refuse view)
      else receive now input None view

  -- One poll at a moment, over a link that refuses what is sent or does not: a kept error, the time
  -- limit, the end of the state, the pause, an attempt, the packet.
  abbrev pub poll : ℕ → Bool → Input Packet → View State Exchange →
      PollEffect Packet Message State Exchange
  poll now refuse input view =
      if is_stopped view.phase then stop input view
      else (if limit_is_over now view then stop input view
      else (if has_ended now view then end_state now input view
      else transmit_and_receive now refuse input (begin_stay now view)))

  -- 3. The polls and the call of an event.

  -- after a poll that answers a change the client is polled again
  abbrev pub after_poll :
      (NumberedEvent Packet → View State Exchange →
      EventEffect PublicState Message State Exchange) →
      NumberedEvent Packet → Option State → PollEffect Packet Message State Exchange →
      EventEffect PublicState Message State Exchange
  after_poll again event None once = record {
    outputs = handed_output event.number event.refuse once.handed ++
        failed_output event.number once.failed;
    view = once.view;
  }
  after_poll again event (Some next) once =
      let more = again (record event { input = once.left }) once.view in
      record {
        outputs = handed_output event.number event.refuse once.handed ++
            (record { event = event.number; report = Changed (p.public_state next) } ∷
            more.outputs);
        view = more.view;
      }

  -- the polls of an event until one answers no change, at most `fuel` of them
  abbrev pub polls : ℕ → NumberedEvent Packet → View State Exchange →
      EventEffect PublicState Message State Exchange
  polls zero event view = record { outputs = []; view = view }
  polls (suc fuel) event view =
      let once = poll event.moment event.refuse event.input view in
      after_poll (polls fuel) event once.change once

  -- a clean-up: no lease, no attempt, no error
  abbrev pub clean_up : View State Exchange → View State Exchange
  clean_up view = enter (p.after_clean_up view.exchange) view

  -- a release of the lease that is held, if there is one; a clean-up follows where the link took it
  abbrev pub release_of : Option Lease → NumberedEvent Packet → View State Exchange →
      EventEffect PublicState Message State Exchange
  release_of None event view = record { outputs = []; view = view }
  release_of (Some lease) event view =
      let message = p.release_message lease view.exchange in
      if event.refuse
      then record {
        outputs = record { event = event.number; report = Refused message } ∷
            record { event = event.number; report = Failed SendRefused } ∷ [];
        view = view;
      }
      else record {
        outputs = record { event = event.number; report = Handed message } ∷ [];
        view = clean_up view;
      }

  -- the call that an event asks for: a release, a clean-up, or none
  abbrev pub call_by : Input Packet → NumberedEvent Packet → View State Exchange →
      EventEffect PublicState Message State Exchange
  call_by Nothing event view = record { outputs = []; view = view }
  call_by (Arrival packet) event view = record { outputs = []; view = view }
  call_by Release event view = release_of (p.held_lease view.state) event view
  call_by CleanUp event view = record { outputs = []; view = clean_up view }

  abbrev pub call : NumberedEvent Packet → View State Exchange →
      EventEffect PublicState Message State Exchange
  call event view = call_by event.input event view

  -- 4. A script.

  -- what is reported from a client on: at each event its call is made, and then it is polled at
  -- most seven times
  abbrev pub replay_from : View State Exchange → List (NumberedEvent Packet) →
      List (NumberedReport PublicState Message)
  replay_from view [] = []
  replay_from view (event ∷ events) =
      let called = call event view in
      let polled = polls 7 (after_call event) called.view in
      called.outputs ++ (polled.outputs ++ replay_from polled.view events)

  abbrev pub replay : Script Packet State Exchange → List (NumberedReport PublicState Message)
  replay script = replay_from (first_view script) script.events
