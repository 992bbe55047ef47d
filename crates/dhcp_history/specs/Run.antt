-- What the calls of a client leave: its answer, the client, the words and the link.
use Rattle.std.specs.Prelude.{◌≡◌, ◌⊎◌, ◌+◌, ℕ, Bool, true, false, not, ◌||◌, List, [], ◌∷◌, ◌++◌, Option, Some, None, if◌then◌else◌, option_map, Result, Ok, Err, IfSome, IsSomeAnd}
use Rattle.dhcp_clock.specs.declared.link.Packet.{Packet}
use Rattle.dhcp_clock.specs.declared.link.Handed.{Handed}
use Rattle.dhcp_clock.specs.declared.link.Sent.{Sent}
use Rattle.dhcp_clock.specs.declared.link.Sent.TheVariants.{Taken, Refused}
use Rattle.dhcp_clock.specs.Link.{Shown, with_message}
use Rattle.dhcp_history.specs.declared.machine.RunError.{RunError}
use Rattle.dhcp_history.specs.declared.machine.RunError.TheVariants as run
use Rattle.dhcp_history.specs.declared.client.Client.{Client}
use Rattle.dhcp_history.specs.declared.client.Standing.{Standing}
use Rattle.dhcp_clock.specs.Words.{Drawn}
use Rattle.dhcp_history.specs.Protocol.{Protocol, has_come}
use Rattle.dhcp_history.specs.Script.{Input, Nothing, Arrival, Release, CleanUp}
use Rattle.dhcp_history.specs.History.{first_due}
use Rattle.dhcp_history.specs.Client.{view_of}
use Rattle.dhcp_history.specs.Seen.{Seen}
use Rattle.dhcp_history.specs.Machine.{View, PollEffect, stop, begin_stay, end_state, attempt_now, transmit, is_unpolled, has_open_attempt, is_stopped, limit_is_over, has_ended}

-- 1. The link.

-- a packet that waits, or none, as the input of an event
abbrev pub input_of : {Packet : Type 0} → Option Packet → Input Packet
input_of None = Nothing
input_of (Some packet) = Arrival packet

-- and back
abbrev pub waiting_of : {Packet : Type 0} → Input Packet → Option Packet
waiting_of Nothing = None
waiting_of (Arrival packet) = Some packet
waiting_of Release = None
waiting_of CleanUp = None

-- what becomes of a message, by whether the link refuses
abbrev pub sent_by : Bool → Sent
sent_by true = Refused
sent_by false = Taken

-- the messages handed to a link, after this one or none
abbrev pub handed_by : Bool → Option Handed → List (Handed × Sent) → List (Handed × Sent)
handed_by refuse None handed = handed
handed_by refuse (Some message) handed = handed ++ (message, sent_by refuse) ∷ []

-- what a link shows after a poll
abbrev pub shown_after : {State Exchange : Type 0} → Shown →
    PollEffect Packet Handed State Exchange → Shown
shown_after before once = record {
  refuses = before.refuses;
  waiting = waiting_of once.left;
  handed = handed_by before.refuses once.handed before.handed;
}

-- one message was handed to the link, which took it or refused it
abbrev pub HasHanded : Sent → Shown → Shown → Type 0
HasHanded mark before after =
    (message : Handed) × (after.handed ≡ before.handed ++ (message, mark) ∷ [])

-- A poll hands the link one message at most. It takes the packet only for an attempt that was open
-- before, or that the link has just taken.
pub record UsesLink (listens : Bool) (before after : Shown) : Type 0 where
  pub refuses : after.refuses ≡ before.refuses
  pub handed : (after.handed ≡ before.handed) ⊎ HasHanded (sent_by before.refuses) before after
  pub waiting : (after.waiting ≡ before.waiting) ⊎
      ((after.waiting ≡ None) × ((listens ≡ true) ⊎ HasHanded Taken before after))

-- a fact for the words that are left and what a link shows, where they are known
abbrev pub WhereKnown : Option (List ℕ) → Option Shown → (List ℕ → Shown → Type 0) → Type 0
WhereKnown words shown P = IfSome words (λ available. IfSome shown (λ before. P available before))

-- 2. A poll.

-- a fact for each answer but out of memory
abbrev pub UnlessNoMemory : {A : Type 0} → Result A RunError → Type 0 → Type 0
UnlessNoMemory (Ok a) P = P
UnlessNoMemory (Err run.TimedOut) P = P
UnlessNoMemory (Err run.OutOfMemory) P = Unit {0}

-- a fact for the answer out of memory
abbrev pub OnNoMemory : {A : Type 0} → Result A RunError → Type 0 → Type 0
OnNoMemory (Ok a) P = Unit {0}
OnNoMemory (Err run.TimedOut) P = Unit {0}
OnNoMemory (Err run.OutOfMemory) P = P

-- a fact for the answer that the time limit is over
abbrev pub OnTimeout : {A : Type 0} → Result A RunError → Type 0 → Type 0
OnTimeout (Ok a) P = Unit {0}
OnTimeout (Err run.TimedOut) P = P
OnTimeout (Err run.OutOfMemory) P = Unit {0}

module _ {PublicState State Exchange Answer Lease : Type 0}
    (p : Protocol PublicState Packet Handed State Exchange Answer Lease) where
  -- the answer of a poll
  abbrev pub answer_by : Option State → Bool → Result (Option PublicState) RunError
  answer_by (Some next) failed = Ok (Some (p.public_state next))
  answer_by None true = Err run.TimedOut
  answer_by None false = Ok None

  abbrev pub answer_of : PollEffect Packet Handed State Exchange →
      Result (Option PublicState) RunError
  answer_of once = answer_by once.change once.failed

  -- A client that neither sends nor listens: it was not polled in a state in which it does not
  -- send; or its pause, or the wait of a refused attempt, is not over.
  abbrev pub is_waiting : ℕ → View State Exchange → Bool
  is_waiting now view =
      if is_unpolled view.phase then not (p.has_attempts view.state)
      else not (has_open_attempt view.phase || has_come now view.deadline)

  -- what a poll does that uses neither words nor link: the client has stopped or stops now, its
  -- state ends, or it waits
  abbrev pub quiet_poll : ℕ → View State Exchange → Option (PollEffect Packet Handed State Exchange)
  quiet_poll now view =
      if is_stopped view.phase || limit_is_over p now view then Some (stop Nothing view)
      else (if has_ended p now view then Some (end_state p now Nothing view)
      else (if is_waiting now view then Some (record {
        view = begin_stay p now view;
        handed = None;
        left = Nothing;
        change = None;
        failed = false;
      })
      else None))

  -- what such a poll leaves: its answer and the client, with these words left; words and link are
  -- as they were
  pub record HasPolledQuietly (once : PollEffect Packet Handed State Exchange)
      (result : Result (Option PublicState) RunError) (available : List ℕ)
      (old new : Seen (Client State Exchange)) : Type 0 where
    pub answer : result ≡ answer_of once
    pub client : view_of new.client available ≡ once.view
    pub words : new.words ≡ old.words
    pub link : new.shown ≡ old.shown
    pub faults : new.faults ≡ old.faults

  -- what a poll leaves: its answer, the client, the words and the link
  pub record HasPolled (once : PollEffect Packet Handed State Exchange)
      (result : Result (Option PublicState) RunError) (view : List ℕ → View State Exchange)
      (left : Option (List ℕ)) (before : Shown) (after : Option Shown) : Type 0 where
    pub answer : result ≡ answer_of once
    pub client : view once.view.words ≡ once.view
    pub words : left ≡ Some once.view.words
    pub link : after ≡ Some (shown_after before once)

  -- what the pause of a state leaves: the moment from which its first attempt is due, and the words
  pub record HasDue (now : ℕ) (state : State) (pause : Drawn ℕ) (result : Option ℕ)
      (left : Option (List ℕ)) : Type 0 where
    pub due : result ≡ first_due p state (now + pause.value)
    pub words : left ≡ Some pause.left

  -- what the packet leaves: the change, the client, the words and the link
  pub record HasReceived (once : PollEffect Packet Handed State Exchange)
      (result : Option PublicState) (view : List ℕ → View State Exchange)
      (left : Option (List ℕ)) (before : Shown) (after : Option Shown) : Type 0 where
    pub change : result ≡ option_map p.public_state once.change
    pub client : view once.view.words ≡ once.view
    pub words : left ≡ Some once.view.words
    pub link : after ≡ Some (shown_after before once)

  -- what an attempt leaves: the client, the words and the link
  pub record HasTransmitted (now : ℕ) (first : View State Exchange)
      (view : List ℕ → View State Exchange) (left : Option (List ℕ)) (before : Shown)
      (after : Option Shown) : Type 0 where
    pub client : view (transmit p now before.refuses first).words ≡
        transmit p now before.refuses first
    pub words : left ≡ Some (transmit p now before.refuses first).words
    pub link : after ≡
        Some (with_message (attempt_now p now first).value.message (sent_by before.refuses) before)

  -- Out of memory came right after the attempt of a client that was `first`: the link took the
  -- message, and the client listens.
  pub record IsSent (now : ℕ) (first : List ℕ → View State Exchange)
      (client : Client State Exchange) (available : Option (List ℕ))
      (before after : Option Shown) : Type 0 where
    pub listens : has_open_attempt client.standing.phase ≡ true
    pub moment : client.last_moment ≡ now
    pub view : IfSome available (λ words. IfSome before (λ shown.
        view_of client (transmit p now shown.refuses (first words)).words ≡
        transmit p now shown.refuses (first words)))
    pub link : IfSome before (λ shown. IsSomeAnd after (λ later. HasHanded Taken shown later))

-- the client is as this view, with these words left
pub record HasDrawn {State Exchange : Type 0} (is : View State Exchange)
    (view : List ℕ → View State Exchange) (left : Option (List ℕ)) : Type 0 where
  pub client : view is.words ≡ is
  pub words : left ≡ Some is.words

-- A client that does not listen takes no packet: it stands so, and words and link are as they were.
pub record IsShut {A E State Exchange : Type 0} (result : Result (Option A) E)
    (begun : Standing Exchange) (old new : Seen (Client State Exchange)) : Type 0 where
  pub answer : result ≡ Ok None
  pub state : new.client.state ≡ old.client.state
  pub standing : new.client.standing ≡ begun
  pub words : new.words ≡ old.words
  pub link : new.shown ≡ old.shown
  pub faults : new.faults ≡ old.faults

-- Out of memory came before the link took or refused a message: the client stands as it stood, and
-- the link lists no more.
pub record IsUnsent {State Exchange : Type 0} (old new : Client State Exchange)
    (before after : Option Shown) : Type 0 where
  pub standing : new.standing ≡ old.standing
  pub moment : new.last_moment ≡ old.last_moment
  pub link : IfSome before (λ shown. IsSomeAnd after (λ later. later.handed ≡ shown.handed))

-- An attempt is open, and a packet waits that may answer it.
pub record PacketMayAnswer {State Exchange : Type 0} (may_answer : State → Exchange → Packet → Bool)
    (client : Client State Exchange) (shown : Option Shown) : Type 0 where
  pub listens : has_open_attempt client.standing.phase ≡ true
  pub packet : IfSome shown (λ before. IsSomeAnd before.waiting (λ packet.
      may_answer client.state client.standing.exchange packet ≡ true))
