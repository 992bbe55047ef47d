-- The history of a script: the list of whole stays, each with all its attempts. A stay is the time
-- that a client spends in one state.
pub use Rattle.dhcp_history.specs.Window.{is_at_or_past, before, from, after_packet, number_of, moment_of, is_release}
pub use Rattle.dhcp_history.specs.Stay.{Attempt, Act, Attempted, ReleaseRefused, LimitOver, Closing, Lasts, Cut, Answered, Ended, Setting, Stay, LastAttempt, NoneYet, Open, Unsent, is_open, is_none_yet, last_by, Progress, Outcome, Unanswered, AnsweredBy, RanOut, Heard, Finish, Course, Entry, Transition, answer_or, with_acts, entry_of_next, setting_at}
pub use Rattle.dhcp_history.specs.Reports.{act_outputs, closing_outputs, stay_outputs, outputs}
use Rattle.std.specs.Prelude.{ℕ, suc, zero, ◌+◌, ◌*◌, Bool, true, false, not, ◌&&◌, ◌||◌, List, [], ◌∷◌, ◌++◌, length, flat_map, Option, Some, None, is_some, option_map, if◌then◌else◌}
use Rattle.dhcp_history.specs.declared.rules.NewAttempt.{NewAttempt}
use Rattle.dhcp_clock.specs.Words.{Drawn}
use Rattle.dhcp_history.specs.Protocol.{Protocol, pause_of}
use Rattle.dhcp_history.specs.Script.{Input, Nothing, Arrival, Release, CleanUp, NumberedEvent, Script, after_call}

-- whether an event with this input cuts a stay: a clean-up does, and so does a release that the
-- link takes while a lease is held
abbrev pub cuts_by : {Packet : Type 0} → Input Packet → Bool → Bool → Bool
cuts_by Nothing refuse holding = false
cuts_by (Arrival packet) refuse holding = false
cuts_by Release refuse holding = holding && not refuse
cuts_by CleanUp refuse holding = true

-- the moment at which the time limit is over in a state that was entered at this moment
abbrev pub limit_after : Bool → ℕ → ℕ → Option ℕ
limit_after false timeout_sec entered = None
limit_after true zero entered = None
limit_after true (suc timeout_sec) entered = Some (entered + 1000 * suc timeout_sec)

module _ {PublicState Packet Message State Exchange Answer Lease : Type 0}
    (p : Protocol PublicState Packet Message State Exchange Answer Lease) where
  -- 1. What closes a stay.

  -- whether the event cuts the stay
  abbrev pub cuts : Setting State → NumberedEvent Packet → Bool
  cuts setting event = cuts_by event.input event.refuse (is_some (p.held_lease setting.state))

  -- the moment at which the time limit is over
  abbrev pub limit_moment : ℕ → ℕ → State → Option ℕ
  limit_moment timeout_sec entered state = limit_after (p.has_attempts state) timeout_sec entered

  -- whether the time limit is over at the event
  abbrev pub overruns : Setting State → NumberedEvent Packet → Bool
  overruns setting event =
      is_at_or_past (limit_moment setting.timeout_sec setting.entered setting.state) event

  -- whether the state's ending moment has come at the event
  abbrev pub ends : Setting State → NumberedEvent Packet → Bool
  ends setting event = is_at_or_past (p.ending_moment setting.state) event

  -- the events before the first that closes the stay in one of these ways are its window
  abbrev pub closes : Setting State → NumberedEvent Packet → Bool
  closes setting event = cuts setting event || (overruns setting event || ends setting event)

  -- 2. What is heard between two attempts.

  -- the release that the link refuses at an event, where a lease is held
  abbrev pub refused_release_of : Option Lease → Exchange → NumberedEvent Packet →
      List (Act Message)
  refused_release_of None exchange event = []
  refused_release_of (Some lease) exchange event =
      if is_release event.input && event.refuse
      then ReleaseRefused event.number (p.release_message lease exchange) ∷ []
      else []

  abbrev pub refused_release : Setting State → Exchange → NumberedEvent Packet → List (Act Message)
  refused_release setting exchange event =
      refused_release_of (p.held_lease setting.state) exchange event

  -- only a packet answers, and draws words
  abbrev pub reading_of : State → Exchange → List ℕ → Input Packet → Drawn (Option Answer)
  reading_of state exchange words (Arrival packet) = p.reading state exchange packet words
  reading_of state exchange words Nothing = record { value = None; left = words }
  reading_of state exchange words Release = record { value = None; left = words }
  reading_of state exchange words CleanUp = record { value = None; left = words }

  -- an open attempt reads the packet, a refused one or none does not
  abbrev pub reading_if : Bool → Setting State → Exchange → List ℕ → Input Packet →
      Drawn (Option Answer)
  reading_if true setting exchange words input = reading_of setting.state exchange words input
  reading_if false setting exchange words input = record { value = None; left = words }

  -- what the packets of these events answer to the last attempt, which is open or not
  abbrev pub hear : Setting State → Exchange → Bool → List ℕ → List (NumberedEvent Packet) →
      Heard Packet Message Answer
  hear setting exchange listens words [] =
      record { answer = None; rest = []; words = words; acts = [] }
  hear setting exchange listens words (event ∷ events) =
      let read = reading_if listens setting exchange words event.input in
      answer_or read.value read.left (refused_release setting exchange event) (event ∷ events)
      (hear setting exchange listens read.left events)

  -- 3. The attempts of a stay.

  -- the exchange after an attempt whose wait is over, where the link took it
  abbrev pub after_wait_if : Bool → Exchange → Exchange
  after_wait_if true exchange = p.after_wait exchange
  after_wait_if false exchange = exchange

  abbrev pub exchange_after : Progress Exchange → Exchange
  exchange_after progress = after_wait_if (is_open progress.last) progress.exchange

  -- whether the state ends once the wait of the last attempt is over
  abbrev pub runs_out : Setting State → Progress Exchange → Bool
  runs_out setting progress =
      is_open progress.last && p.is_last_attempt setting.state progress.exchange

  -- the attempt that is made at this moment
  abbrev pub new_attempt_at : Setting State → Progress Exchange → ℕ →
      Drawn (NewAttempt Exchange Message)
  new_attempt_at setting progress moment =
      p.attempt setting.state (exchange_after progress)
      (record { is_first = is_none_yet progress.last; entered = setting.entered; now = moment })
      progress.words

  -- the attempt that is made at this event, and where the stay stands then
  abbrev pub attempt_at : Setting State → Progress Exchange → NumberedEvent Packet → Attempt Message
  attempt_at setting progress event = record {
    event = event.number;
    moment = event.moment;
    wait = (new_attempt_at setting progress event.moment).value.wait;
    refused = event.refuse;
    message = (new_attempt_at setting progress event.moment).value.message;
  }

  abbrev pub progress_after : Setting State → Progress Exchange → NumberedEvent Packet →
      Progress Exchange
  progress_after setting progress event = record {
    last = last_by event.refuse;
    due = Some (event.moment + (new_attempt_at setting progress event.moment).value.wait);
    exchange = (new_attempt_at setting progress event.moment).value.exchange;
    words = (new_attempt_at setting progress event.moment).left;
  }

  -- At the first event at or past the due moment the stay ends, where its last attempt was the last
  -- one that its state allows; else the next attempt is made. A release that is refused comes
  -- first.
  abbrev pub attempt_or_end : Bool →
      (Progress Exchange → List (NumberedEvent Packet) → Course Packet Message Exchange Answer) →
      Setting State → Progress Exchange → List (Act Message) → NumberedEvent Packet →
      List (NumberedEvent Packet) →
      Course Packet Message Exchange Answer
  attempt_or_end true goes_on setting progress acts event later = record {
    acts = acts ++ refused_release setting progress.exchange event;
    finish = record {
      outcome = RanOut;
      rest = after_call event ∷ later;
      exchange = progress.exchange;
      after_wait = exchange_after progress;
      words = progress.words;
    };
  }
  attempt_or_end false goes_on setting progress acts event later =
      with_acts
      (acts ++ (refused_release setting progress.exchange event ++
      Attempted (attempt_at setting progress event) ∷ []))
      (goes_on (progress_after setting progress event) (after_call event ∷ later))

  -- What follows where so much was heard before the due moment, and these are the events from then
  -- on: an answer closes the stay; with no event left there is no attempt any more.
  abbrev pub next_attempt :
      (Progress Exchange → List (NumberedEvent Packet) → Course Packet Message Exchange Answer) →
      Setting State → Progress Exchange → Option Answer → Heard Packet Message Answer →
      List (NumberedEvent Packet) → Course Packet Message Exchange Answer
  next_attempt goes_on setting progress (Some answer) heard events = record {
    acts = heard.acts;
    finish = record {
      outcome = AnsweredBy answer;
      rest = heard.rest ++ events;
      exchange = progress.exchange;
      after_wait = progress.exchange;
      words = progress.words;
    };
  }
  next_attempt goes_on setting progress None heard [] = record {
    acts = heard.acts;
    finish = record {
      outcome = Unanswered;
      rest = [];
      exchange = progress.exchange;
      after_wait = exchange_after progress;
      words = progress.words;
    };
  }
  next_attempt goes_on setting progress None heard (event ∷ later) =
      attempt_or_end (runs_out setting progress) goes_on setting progress heard.acts event later

  -- The course of a stay over the events of its window, from where it stands: the packets before
  -- the due moment are heard, and at the first event from then on the next attempt is made. `fuel`
  -- is above the number of events, of which each has one attempt at most.
  abbrev pub course : ℕ → Setting State → Progress Exchange → List (NumberedEvent Packet) →
      Course Packet Message Exchange Answer
  course zero setting progress events = record {
    acts = [];
    finish = record {
      outcome = Unanswered;
      rest = [];
      exchange = progress.exchange;
      after_wait = exchange_after progress;
      words = progress.words;
    };
  }
  course (suc fuel) setting progress events =
      let due = is_at_or_past progress.due in
      let heard =
      hear setting progress.exchange (is_open progress.last) progress.words (before due events) in
      next_attempt (course fuel setting) setting (record progress { words = heard.words })
      heard.answer heard (from due events)

  -- 4. How a stay gives way to the next one.

  -- the message of the release that cuts a stay; a clean-up has none
  abbrev pub cut_message : Setting State → Exchange → Input Packet → Option Message
  cut_message setting exchange Release =
      option_map (λ lease. p.release_message lease exchange) (p.held_lease setting.state)
  cut_message setting exchange Nothing = None
  cut_message setting exchange (Arrival packet) = None
  cut_message setting exchange CleanUp = None

  -- a stay is cut at the first of these events, if there is one
  abbrev pub cut : Setting State → Finish Packet Exchange Answer → List (NumberedEvent Packet) →
      Transition Packet Message State Exchange
  cut setting finish [] = record {
    acts = [];
    closing = Lasts;
    entry = record { state = setting.state; exchange = finish.exchange; words = finish.words };
    events = [];
  }
  cut setting finish (event ∷ later) = record {
    acts = [];
    closing = Cut event.number (cut_message setting finish.exchange event.input);
    entry = entry_of_next (p.after_clean_up finish.exchange) finish.words;
    events = after_call event ∷ later;
  }

  -- a stay ends at the first of these events
  abbrev pub end_at : Setting State → Finish Packet Exchange Answer → List (NumberedEvent Packet) →
      Transition Packet Message State Exchange
  end_at setting finish [] = cut setting finish []
  end_at setting finish (event ∷ later) =
      let next = p.after_end setting.state finish.after_wait in
      record {
        acts = refused_release setting finish.exchange event;
        closing = Ended event.number next.state;
        entry = entry_of_next next finish.words;
        events = after_call event ∷ later;
      }

  -- what the client does at an event once its time limit is over
  abbrev pub limit_acts : Setting State → Exchange → NumberedEvent Packet → List (Act Message)
  limit_acts setting exchange event =
      refused_release setting exchange event ++ LimitOver event.number ∷ []

  -- A stay closes at this event: it is cut; or its time limit is over, and only a later cut closes
  -- it; or it ends.
  abbrev pub close : Bool → Bool → Setting State → Finish Packet Exchange Answer →
      NumberedEvent Packet →
      List (NumberedEvent Packet) → Transition Packet Message State Exchange
  close true over setting finish event later = cut setting finish (event ∷ later)
  close false true setting finish event later =
      let stopped = before (cuts setting) (event ∷ later) in
      record (cut setting finish (from (cuts setting) (event ∷ later))) {
        acts = flat_map (limit_acts setting finish.exchange) stopped;
      }
  close false false setting finish event later = end_at setting finish (event ∷ later)

  -- how a stay gives way whose attempts end so, where these are the events from the end of its
  -- window on
  abbrev pub transition_by : Outcome Answer → Setting State → Finish Packet Exchange Answer →
      List (NumberedEvent Packet) → Transition Packet Message State Exchange
  transition_by (AnsweredBy answer) setting finish late =
      let events = finish.rest ++ late in
      let next = p.after_answer setting.state answer (moment_of events) finish.exchange in
      record {
        acts = [];
        closing = Answered (number_of events) next.state;
        entry = entry_of_next next finish.words;
        events = after_packet events;
      }
  transition_by RanOut setting finish late = end_at setting finish (finish.rest ++ late)
  transition_by Unanswered setting finish [] = cut setting finish []
  transition_by Unanswered setting finish (event ∷ later) =
      close (cuts setting event) (overruns setting event) setting finish event later

  abbrev pub transition : Setting State → Finish Packet Exchange Answer →
      List (NumberedEvent Packet) →
      Transition Packet Message State Exchange
  transition setting finish late = transition_by finish.outcome setting finish late

  -- 5. The stays of a script.

  -- when the first attempt is due: never in a state without attempts
  abbrev pub first_due : State → ℕ → Option ℕ
  first_due state moment = if p.has_attempts state then Some moment else None

  -- where a stay stands that is entered at this moment: its first attempt is due after its pause
  abbrev pub first_progress : Entry State Exchange → ℕ → Progress Exchange
  first_progress entry moment =
      let pause = pause_of p entry.state entry.exchange entry.words in
      record {
        last = NoneYet;
        due = first_due entry.state (moment + pause.value);
        exchange = entry.exchange;
        words = pause.left;
      }

  -- a stay that is cut at its entry draws nothing
  abbrev pub entry_progress : Setting State → Entry State Exchange → NumberedEvent Packet →
      Progress Exchange
  entry_progress setting entry event =
      if cuts setting event
      then record { last = NoneYet; due = None; exchange = entry.exchange; words = entry.words }
      else first_progress entry event.moment

  abbrev pub entry_pause : Setting State → Entry State Exchange → NumberedEvent Packet → ℕ
  entry_pause setting entry event =
      if cuts setting event then 0 else (pause_of p entry.state entry.exchange entry.words).value

  -- the stays from an entry on, the first of them entered at the first of these events; `fuel` is
  -- above the number of stays
  abbrev pub stays : ℕ → ℕ → Entry State Exchange → List (NumberedEvent Packet) →
      List (Stay State Message)
  stays fuel timeout_sec entry [] = []
  stays zero timeout_sec entry (first ∷ later) = []
  stays (suc fuel) timeout_sec entry (first ∷ later) =
      let setting = setting_at timeout_sec entry first.moment in
      let progress = entry_progress setting entry first in
      let window = before (closes setting) (first ∷ later) in
      let run = course (suc (length (first ∷ later))) setting progress window in
      let next = transition setting run.finish (from (closes setting) (first ∷ later)) in
      record {
        setting = setting;
        entry = first.number;
        pause = entry_pause setting entry first;
        acts = run.acts ++ next.acts;
        closing = next.closing;
      }
      ∷ stays fuel timeout_sec next.entry next.events

  -- The history of a script. At one event seven stays are entered at most, and one more after a
  -- cut.
  abbrev pub history : Script Packet State Exchange → List (Stay State Message)
  history script =
      stays (8 * (length script.events + 1)) script.timeout_sec
      (record { state = script.state; exchange = script.exchange; words = script.words })
      script.events
