-- What one poll and one release do with their link, over every link, and where a poll that runs out
-- of memory leaves its client.
use Rattle.std.specs.Prelude.{◌≡◌, ◌⊎◌, ℕ, Bool, true, false, List, [], ◌∷◌, ◌++◌, Option, Some, None, is_some, Result, Ok}
use Rattle.dhcp_clock.specs.declared.link.Packet.{Packet}
use Rattle.dhcp_clock.specs.declared.link.Handed.{Handed}
use Rattle.dhcp_clock.specs.declared.link.Sent.{Sent}
use Rattle.dhcp_clock.specs.declared.link.Sent.TheVariants.{Taken, NoMemory}
use Rattle.dhcp_clock.specs.Leads.{Leads}
use Rattle.dhcp_clock.specs.Link.{Turn, Hands, Gives}
use Rattle.dhcp_history.specs.declared.client.Client.{Client}
use Rattle.dhcp_history.specs.declared.release.ReleaseError.{ReleaseError}
use Rattle.dhcp_history.specs.Protocol.{Protocol}
use Rattle.dhcp_history.specs.Client.{view_of}
use Rattle.dhcp_history.specs.Machine.{View, has_open_attempt}
use Rattle.dhcp_history.specs.Errors.{sent_when}
use Rattle.dhcp_history.specs.Release.{OnOutOfMemory, UnlessOutOfMemory}
use Rattle.dhcp_history.specs.Traced.{IsPollBy, IsWorkBy}

-- 1. A poll.

-- The turns of one poll: it hands one message at most, and after that asks for one packet at most.
-- It asks only where an attempt is open: one that was open when the poll began, or the one whose
-- message the link has just taken.
abbrev pub AreOfOnePoll : Bool → List Turn → Type 0
AreOfOnePoll listens [] = Unit {0}
AreOfOnePoll listens (Hands message sent ∷ []) = Unit {0}
AreOfOnePoll listens (Gives packet ∷ []) = listens ≡ true
AreOfOnePoll listens (Hands message sent ∷ Gives packet ∷ []) = sent ≡ Taken
AreOfOnePoll listens (Hands message sent ∷ Hands other later ∷ turns) = ⊥
AreOfOnePoll listens (Hands message sent ∷ Gives packet ∷ turn ∷ turns) = ⊥
AreOfOnePoll listens (Gives packet ∷ turn ∷ turns) = ⊥

-- a link was used as one poll uses it, by a client that listened before it or did not
pub record TakesTurns {Link : Type 0} (moves : Turn → Link → Link → Type 0) (listens : Bool)
    (old new : Link) : Type 0 where
  pub turns : List Turn
  pub moved : Leads moves old turns new
  pub one_poll : AreOfOnePoll listens turns

-- 2. A poll that is out of memory.

-- the client is as it was
pub record IsAsBefore {State Exchange : Type 0} (old new : Client State Exchange) : Type 0 where
  pub state : new.state ≡ old.state
  pub standing : new.standing ≡ old.standing
  pub timeout : new.timeout_sec ≡ old.timeout_sec
  pub moment : new.last_moment ≡ old.last_moment

-- Where the client stands, by the turns of the poll. It is as it was: no message was made; or the
-- link had no memory for it; or a packet was taken by an open attempt, and lost. Or `Sent` is said
-- of the message that the link took, and the packet that it gave then is lost.
abbrev pub StandsAfter : {State Exchange : Type 0} → (Handed → Type 0) →
    Client State Exchange → Client State Exchange → List Turn → Type 0
StandsAfter Sent old new [] = IsAsBefore old new
StandsAfter Sent old new (Hands message sent ∷ []) = (sent ≡ NoMemory) × IsAsBefore old new
StandsAfter Sent old new (Gives packet ∷ []) =
    (is_some packet ≡ true) × ((has_open_attempt old.standing.phase ≡ true) × IsAsBefore old new)
StandsAfter Sent old new (Hands message sent ∷ Gives packet ∷ []) =
    (sent ≡ Taken) × ((is_some packet ≡ true) × Sent message)
StandsAfter Sent old new (Hands message sent ∷ Hands other later ∷ turns) = ⊥
StandsAfter Sent old new (Hands message sent ∷ Gives packet ∷ turn ∷ turns) = ⊥
StandsAfter Sent old new (Gives packet ∷ turn ∷ turns) = ⊥

pub record RunsOut {State Exchange Link : Type 0} (moves : Turn → Link → Link → Type 0)
    (Sent : Handed → Type 0) (old new : Client State Exchange) (link link' : Link) : Type 0 where
  pub turns : List Turn
  pub moved : Leads moves link turns link'
  pub stands : StandsAfter Sent old new turns

-- the turns of a poll that hands this message to a link which takes it and has no packet
abbrev pub sent_alone : Handed → List Turn
sent_alone message = Hands message Taken ∷ Gives None ∷ []

module _ {PublicState State Exchange Answer Lease : Type 0}
    (p : Protocol PublicState Packet Handed State Exchange Answer Lease) where
  -- The client is as a poll leaves it that hands this message and is given no packet, with the
  -- words that the source gave for it.
  pub record PollsUnheard {Source : Type 0} (gives : ℕ → Source → Source → Type 0) (now : ℕ)
      (message : Handed) (old new : Client State Exchange) (words : Source) : Type 0 where
    pub taken : List ℕ
    pub source : Source
    pub drawn : Leads gives words taken source
    pub polled : (rest : List ℕ) → IsPollBy p now false None (sent_alone message) (Ok None)
        (view_of old (taken ++ rest)) (view_of new rest)

  -- the same of the attempt of a client that was polled
  pub record WorksUnheard {Source : Type 0} (gives : ℕ → Source → Source → Type 0) (now : ℕ)
      (message : Handed) (first last : List ℕ → View State Exchange) (words : Source) :
      Type 0 where
    pub taken : List ℕ
    pub source : Source
    pub drawn : Leads gives words taken source
    pub worked : (rest : List ℕ) → IsWorkBy p now false None (sent_alone message) (Ok None)
        (first (taken ++ rest)) (last rest)

-- 3. A release.

-- the turns of a release: none where no lease is held, else its message is handed
abbrev pub release_turns : Option Handed → Sent → List Turn
release_turns None sent = []
release_turns (Some message) sent = Hands message sent ∷ []

-- A release with this answer, whose message this is, over every link.
pub record TracesRelease {Returned Link : Type 0} (moves : Turn → Link → Link → Type 0)
    (message : Option Handed) (answer : Result Returned ReleaseError) (link link' : Link) :
    Type 0 where
  pub moved : UnlessOutOfMemory answer
      (Leads moves link (release_turns message (sent_when answer)) link')
  -- out of memory: no message was made, or the link had no memory for it
  pub unsent : OnOutOfMemory answer
      ((link' ≡ link) ⊎ Leads moves link (release_turns message NoMemory) link')
