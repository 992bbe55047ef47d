-- A stay, the time that a client spends in one state, with all its attempts; and where it stands
-- while it lasts.
use Rattle.std.specs.Prelude.{ℕ, Bool, true, false, List, ◌++◌, Option, Some, None}
use Rattle.dhcp_history.specs.Protocol.{NextState}
use Rattle.dhcp_history.specs.Script.{NumberedEvent}

-- a message that was sent: at which event, at which moment, how long an answer is awaited, and
-- whether the link refused it
pub record Attempt (Message : Type 0) : Type 0 where
  pub event : ℕ
  pub moment : ℕ
  pub wait : ℕ
  pub refused : Bool
  pub message : Message

-- what a client does in a stay: an attempt, a release that the link refuses, or the answer that its
-- time limit is over
pub data Act (Message : Type 0) : Type 0 where
  Attempted : Attempt Message → Act Message
  ReleaseRefused : ℕ → Message → Act Message
  LimitOver : ℕ → Act Message

-- How a stay closes, and at which event: it is cut by a clean-up or by a release, whose message
-- this is; it is answered, or it ends, and this is the state that comes next. The last stay lasts.
pub data Closing (State Message : Type 0) : Type 0 where
  Lasts : Closing State Message
  Cut : ℕ → Option Message → Closing State Message
  Answered : ℕ → State → Closing State Message
  Ended : ℕ → State → Closing State Message

-- what stays the same in a stay: its state, the moment at which it was entered, and the client's
-- time limit in seconds, 0 where there is none
pub record Setting (State : Type 0) : Type 0 where
  pub state : State
  pub entered : ℕ
  pub timeout_sec : ℕ

-- a stay: its setting, the event at which it was entered, its pause, what the client does in it,
-- and how it closes
pub record Stay (State Message : Type 0) : Type 0 where
  pub setting : Setting State
  pub entry : ℕ
  pub pause : ℕ
  pub acts : List (Act Message)
  pub closing : Closing State Message

-- the last attempt of a stay so far: there is none, the link took it, or the link refused it
pub data LastAttempt : Type 0 where
  NoneYet : LastAttempt
  Open : LastAttempt
  Unsent : LastAttempt

abbrev pub is_open : LastAttempt → Bool
is_open NoneYet = false
is_open Open = true
is_open Unsent = false

abbrev pub is_none_yet : LastAttempt → Bool
is_none_yet NoneYet = true
is_none_yet Open = false
is_none_yet Unsent = false

-- the last attempt, by whether the link refused it
abbrev pub last_by : Bool → LastAttempt
last_by true = Unsent
last_by false = Open

-- where a stay stands: its last attempt, the moment from which the next one is due, the exchange as
-- the last one left it, and the random words that are left
pub record Progress (Exchange : Type 0) : Type 0 where
  pub last : LastAttempt
  pub due : Option ℕ
  pub exchange : Exchange
  pub words : List ℕ

-- how the attempts of a stay come to an end: within the stay's window there is no answer, this
-- answer came to the last of them, or the last of them was the last one that its state allows
pub data Outcome (Answer : Type 0) : Type 0 where
  Unanswered : Outcome Answer
  AnsweredBy : Answer → Outcome Answer
  RanOut : Outcome Answer

-- what the packets of some events answer, read one after another; the events from the answering one
-- on; the words left; what the client does meanwhile
pub record Heard (Packet Message Answer : Type 0) : Type 0 where
  pub answer : Option Answer
  pub rest : List (NumberedEvent Packet)
  pub words : List ℕ
  pub acts : List (Act Message)

-- how the attempts of a stay end; the events from the answering or ending one on; the exchange as
-- the last attempt left it, and as it is once its wait is over; the words left
pub record Finish (Packet Exchange Answer : Type 0) : Type 0 where
  pub outcome : Outcome Answer
  pub rest : List (NumberedEvent Packet)
  pub exchange : Exchange
  pub after_wait : Exchange
  pub words : List ℕ

-- what the client does in the rest of a stay, and how its attempts end
pub record Course (Packet Message Exchange Answer : Type 0) : Type 0 where
  pub acts : List (Act Message)
  pub finish : Finish Packet Exchange Answer

-- what a stay begins with
pub record Entry (State Exchange : Type 0) : Type 0 where
  pub state : State
  pub exchange : Exchange
  pub words : List ℕ

-- how a stay gives way to the next one: what the client does after its attempts, how it closes, and
-- what the next stay begins with and its events, of which there are none where the stay lasts
pub record Transition (Packet Message State Exchange : Type 0) : Type 0 where
  pub acts : List (Act Message)
  pub closing : Closing State Message
  pub entry : Entry State Exchange
  pub events : List (NumberedEvent Packet)

-- an answer at the first of these events, or else what is heard later
abbrev pub answer_or : {Packet Message Answer : Type 0} → Option Answer → List ℕ →
    List (Act Message) → List (NumberedEvent Packet) → Heard Packet Message Answer →
    Heard Packet Message Answer
answer_or None words acts events later = record later { acts = acts ++ later.acts }
answer_or (Some answer) words acts events later =
    record { answer = Some answer; rest = events; words = words; acts = acts }

-- a course that begins with these acts
abbrev pub with_acts : {Packet Message Exchange Answer : Type 0} → List (Act Message) →
    Course Packet Message Exchange Answer → Course Packet Message Exchange Answer
with_acts acts course = record course { acts = acts ++ course.acts }

-- what the next stay begins with, with these words left
abbrev pub entry_of_next : {State Exchange : Type 0} → NextState State Exchange → List ℕ →
    Entry State Exchange
entry_of_next next words = record { state = next.state; exchange = next.exchange; words = words }

-- the setting of a stay that is entered at this moment
abbrev pub setting_at : {State Exchange : Type 0} → ℕ → Entry State Exchange → ℕ → Setting State
setting_at timeout_sec entry moment =
    record { state = entry.state; entered = moment; timeout_sec = timeout_sec }
