-- An open attempt, and what it means that a packet answers it.
use Rattle.std.specs.Prelude.{◌≡◌, ℕ, Bool, true, false, not, ◌&&◌, ◌||◌, List, [], is_some}
use Rattle.dhcp_history.specs.declared.client.Client.{Client}
use Rattle.dhcp_history.specs.Client.{view_of}
use Rattle.dhcp_history.specs.Machine.{has_ended, has_open_attempt, limit_is_over, poll}
use Rattle.dhcp_history.specs.Protocol.{Protocol, has_come}
use Rattle.dhcp_history.specs.declared.script.Input.TheVariants.{Arrival}

module _ {PublicState Packet Message State Exchange Answer Lease : Type 0}
    (p : Protocol PublicState Packet Message State Exchange Answer Lease) where
  -- Whether an attempt is open at a moment: the link took the last message of the client, and a
  -- poll at this moment neither finds the time limit over nor ends the state. No random word
  -- matters.
  abbrev pub is_open : ℕ → Client State Exchange → Bool
  is_open now client =
      has_open_attempt client.standing.phase &&
      not (limit_is_over p now (view_of client []) || has_ended p now (view_of client []))

  -- whether a packet answers the attempt of a client, if these random words are the next ones
  abbrev pub answers_with : Client State Exchange → Packet → List ℕ → Bool
  answers_with client packet words =
      is_some (p.reading client.state client.standing.exchange packet words).value

  -- whether a poll at a moment changes the state of a client, if this packet waits and these random
  -- words are the next ones
  abbrev pub changes_with : ℕ → Bool → Client State Exchange → Packet → List ℕ → Bool
  changes_with now refuse client packet words =
      is_some (poll p now refuse (Arrival packet) (view_of client words)).change

  -- What it means that a packet is, or is not, the answer that a client awaits at a moment.
  pub record IsAnswerTest (now : ℕ) (packet : Packet) (is_answer : Bool)
      (client : Client State Exchange) : Type 0 where
    -- an answer comes to an open attempt, and answers it whatever random words are the next ones
    pub listens : is_answer ≡ true → is_open now client ≡ true
    pub answers : is_answer ≡ true → (words : List ℕ) → answers_with client packet words ≡ true
    -- to any other packet an attempt is not open, or there are random words with which the packet
    -- answers nothing
    pub dropped : is_answer ≡ false → is_open now client ≡ true →
        (words : List ℕ) × (answers_with client packet words ≡ false)
    -- a poll that sends nothing changes the state if the packet that waits is an answer, and with
    -- those words leaves it if it is another one
    pub changes : is_answer ≡ true → has_come now client.standing.deadline ≡ false →
        (refuse : Bool) (words : List ℕ) → changes_with now refuse client packet words ≡ true
    pub stays : is_open now client ≡ true → has_come now client.standing.deadline ≡ false →
        (refuse : Bool) (words : List ℕ) → answers_with client packet words ≡ false →
        changes_with now refuse client packet words ≡ false
