-- What a poll does over every link and every source of words: it is the poll of the protocol by the
-- turns that the link made and the words that the source gave.
use Rattle.std.specs.Prelude.{◌≡◌, ◌+◌, ℕ, Bool, true, false, not, ◌&&◌, ◌||◌, List, [], ◌∷◌, ◌++◌, Option, Some, None, option_map, Result}
use Rattle.dhcp_clock.specs.declared.link.Packet.{Packet}
use Rattle.dhcp_clock.specs.declared.link.Handed.{Handed}
use Rattle.dhcp_clock.specs.Leads.{Leads}
use Rattle.dhcp_clock.specs.Link.{Turn, Hands, Gives}
use Rattle.dhcp_clock.specs.Words.{Drawn}
use Rattle.dhcp_history.specs.declared.client.Client.{Client}
use Rattle.dhcp_history.specs.declared.machine.RunError.{RunError}
use Rattle.dhcp_history.specs.Protocol.{Protocol, has_come, pause_of}
use Rattle.dhcp_history.specs.Script.{Nothing}
use Rattle.dhcp_history.specs.History.{first_due}
use Rattle.dhcp_history.specs.Client.{view_of}
use Rattle.dhcp_history.specs.Machine.{View, attempt_now, begin_stay, has_ended, has_open_attempt, is_stopped, limit_is_over, poll, receive, transmit, transmit_and_receive}
use Rattle.dhcp_history.specs.Run.{answer_of, input_of, sent_by}

-- the turn of a link that is handed this message or none, and refuses it or not
abbrev pub made : Bool → Option Handed → List Turn
made refuse None = []
made refuse (Some message) = Hands message (sent_by refuse) ∷ []

-- the turn of a link that is asked for a packet or not, and gives this one or none
abbrev pub asked : Bool → Option Packet → List Turn
asked true packet = Gives packet ∷ []
asked false packet = []

-- Some words that the source gave bring the client from the one view to the other, by this step.
abbrev pub StepsBy : {Source State Exchange : Type 0} → (ℕ → Source → Source → Type 0) →
    (View State Exchange → View State Exchange) → (List ℕ → View State Exchange) →
    (List ℕ → View State Exchange) → Source → Source → Type 0
StepsBy gives step first second old new =
    (taken : List ℕ) × (Leads gives old taken new ×
    ((rest : List ℕ) → second rest ≡ step (first (taken ++ rest))))

module _ {PublicState State Exchange Answer Lease : Type 0}
    (p : Protocol PublicState Packet Handed State Exchange Answer Lease) where
  -- the moment from which the first attempt of a state is due, drawn
  abbrev pub due_of : ℕ → State → Exchange → List ℕ → Drawn (Option ℕ)
  due_of now state exchange words =
      let pause = pause_of p state exchange words in
      record { value = first_due p state (now + pause.value); left = pause.left }

  -- whether a client that stands so, once it was polled, asks its link for a packet: it listens,
  -- or its attempt is due and is taken
  abbrev pub asks_in : ℕ → Bool → View State Exchange → Bool
  asks_in now refuse view =
      (has_come now view.deadline && not refuse) ||
      (not (has_come now view.deadline) && has_open_attempt view.phase)

  -- whether a poll asks the link for a packet
  abbrev pub asks : ℕ → Bool → View State Exchange → Bool
  asks now refuse view =
      not (is_stopped view.phase || (limit_is_over p now view || has_ended p now view)) &&
      asks_in now refuse (begin_stay p now view)

  -- What a poll does by these turns: its answer, and the client after it.
  pub record IsPollBy (now : ℕ) (refuse : Bool) (packet : Option Packet) (done : List Turn)
      (result : Result (Option PublicState) RunError) (old new : View State Exchange) :
      Type 0 where
    pub answer : result ≡ answer_of p (poll p now refuse (input_of packet) old)
    pub client : new ≡ (poll p now refuse (input_of packet) old).view
    -- a message is handed as the protocol says, and then the packet is asked for
    pub turns : done ≡ made refuse (poll p now refuse (input_of packet) old).handed ++
        asked (asks now refuse old) packet
    -- the client took what the link gave: where none is asked for, there is none
    pub took : (poll p now refuse (input_of packet) old).left ≡ Nothing

  -- the same of the attempt and the packet of a client that was polled
  pub record IsWorkBy (now : ℕ) (refuse : Bool) (packet : Option Packet) (done : List Turn)
      (result : Result (Option PublicState) RunError) (old new : View State Exchange) :
      Type 0 where
    pub answer : result ≡ answer_of p (transmit_and_receive p now refuse (input_of packet) old)
    pub client : new ≡ (transmit_and_receive p now refuse (input_of packet) old).view
    pub turns : done ≡ made refuse (transmit_and_receive p now refuse (input_of packet) old).handed
        ++ asked (asks_in now refuse old) packet
    pub took : (transmit_and_receive p now refuse (input_of packet) old).left ≡ Nothing

  module _ {Source Link : Type 0} (gives : ℕ → Source → Source → Type 0)
      (moves : Turn → Link → Link → Type 0) where
    -- A poll over any link and any source: with the words that the source gave, and by the turns
    -- that the link made, it is the poll of the protocol.
    pub record Traces (now : ℕ) (result : Result (Option PublicState) RunError)
        (old new : Client State Exchange) (words words' : Source) (link link' : Link) :
        Type 0 where
      pub taken : List ℕ
      pub turns : List Turn
      pub refuse : Bool
      pub packet : Option Packet
      pub drawn : Leads gives words taken words'
      pub moved : Leads moves link turns link'
      pub polled : (rest : List ℕ) → IsPollBy now refuse packet turns result
          (view_of old (taken ++ rest)) (view_of new rest)

    -- the same of the attempt and the packet of a client that was polled
    pub record Works (now : ℕ) (result : Result (Option PublicState) RunError)
        (first last : List ℕ → View State Exchange) (words words' : Source) (link link' : Link) :
        Type 0 where
      pub taken : List ℕ
      pub turns : List Turn
      pub refuse : Bool
      pub packet : Option Packet
      pub drawn : Leads gives words taken words'
      pub moved : Leads moves link turns link'
      pub worked : (rest : List ℕ) → IsWorkBy now refuse packet turns result
          (first (taken ++ rest)) (last rest)

    -- an attempt
    pub record Transmits (now : ℕ) (first last : List ℕ → View State Exchange)
        (words words' : Source) (link link' : Link) : Type 0 where
      pub taken : List ℕ
      pub refuse : Bool
      pub message : Handed
      pub drawn : Leads gives words taken words'
      pub moved : moves (Hands message (sent_by refuse)) link link'
      pub client : (rest : List ℕ) → last rest ≡ transmit p now refuse (first (taken ++ rest))
      pub says : (rest : List ℕ) →
          message ≡ (attempt_now p now (first (taken ++ rest))).value.message

    -- the packet of a client, which listens or not
    pub record Hears (listens : Bool) (now : ℕ) (reported : Option PublicState)
        (first last : List ℕ → View State Exchange) (words words' : Source) (link link' : Link) :
        Type 0 where
      pub taken : List ℕ
      pub packet : Option Packet
      pub drawn : Leads gives words taken words'
      pub moved : Leads moves link (asked listens packet) link'
      pub unasked : listens ≡ false → packet ≡ None
      pub change : (rest : List ℕ) → reported ≡ option_map p.public_state
          (receive p now (input_of packet) None (first (taken ++ rest))).change
      pub client : (rest : List ℕ) → last rest ≡
          (receive p now (input_of packet) None (first (taken ++ rest))).view
