-- Where a change that a poll reports comes from, over every link: from a packet that this very poll
-- was given, or from the end of the state; and what the packet that the link gave last grants.
use Rattle.std.specs.Prelude.{ℕ, ◌≡◌, ◌⊎◌, Bool, true, List, [], ◌∷◌, ◌++◌, Option, Some}
use Rattle.dhcp_clock.specs.declared.link.Packet.{Packet}
use Rattle.dhcp_clock.specs.declared.link.Handed.{Handed}
use Rattle.dhcp_clock.specs.Leads.{Leads}
use Rattle.dhcp_clock.specs.Link.{Turn, Gives}
use Rattle.dhcp_history.specs.declared.client.Client.{Client}
use Rattle.dhcp_history.specs.Client.{view_of}
use Rattle.dhcp_history.specs.Protocol.{Protocol}
use Rattle.dhcp_history.specs.Machine.{View, attempt_now, begin_stay, exchange_at}
use Rattle.dhcp_history.specs.Traced.{asks}

module _ {PublicState State Exchange Answer Lease : Type 0}
    (p : Protocol PublicState Packet Handed State Exchange Answer Lease) where
  -- The poll asked its link for a packet, and was given this one. It answers, by the protocol, the
  -- attempt that was open at the poll, or that the poll made; and the client went to the state
  -- after that answer.
  pub record IsHeard (now : ℕ) (refuse : Bool) (packet : Option Packet)
      (old new : View State Exchange) : Type 0 where
    pub heard : Packet
    pub answer : Answer
    pub exchange : Exchange
    pub words : List ℕ
    pub asked : asks p now refuse old ≡ true
    pub given : packet ≡ Some heard
    pub open_attempt : (exchange ≡ old.exchange) ⊎
        (exchange ≡ (attempt_now p now (begin_stay p now old)).value.exchange)
    pub read : (p.reading old.state exchange heard words).value ≡ Some answer
    pub next : new.state ≡ (p.after_answer old.state answer now exchange).state

  -- the state ended
  abbrev pub IsEnded : ℕ → View State Exchange → View State Exchange → Type 0
  IsEnded now old new = new.state ≡ (p.after_end old.state (exchange_at p now old)).state

-- The last turn of the link gave this packet, and it grants what a poll reports, by whether the
-- link refused a message and by the client before the poll, whatever words come after those that
-- the source gave.
pub record IsGrantedLast {State Exchange Source Link : Type 0}
    (gives : ℕ → Source → Source → Type 0)
    (moves : Turn → Link → Link → Type 0)
    (Grants : Bool → Option Packet → View State Exchange → Type 0) (old : Client State Exchange)
    (words words' : Source) (link link' : Link) : Type 0 where
  pub heard : Packet
  pub earlier : List Turn
  pub taken : List ℕ
  pub refuse : Bool
  pub drawn : Leads gives words taken words'
  pub moved : Leads moves link (earlier ++ Gives (Some heard) ∷ []) link'
  pub granted : (rest : List ℕ) → Grants refuse (Some heard) (view_of old (taken ++ rest))
