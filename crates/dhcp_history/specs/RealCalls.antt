-- The calls of a manager over any link and any source of words, one after the other: the run that
-- they are.
use Rattle.std.specs.Prelude.{ℕ, ◌≡◌, List, [], ◌∷◌, ◌++◌, Option, Some, None, Result, Ok, Err}
use Rattle.dhcp_clock.specs.declared.link.Packet.{Packet}
use Rattle.dhcp_clock.specs.declared.link.Handed.{Handed}
use Rattle.dhcp_clock.specs.Leads.{Leads}
use Rattle.dhcp_clock.specs.Link.{Turn}
use Rattle.dhcp_history.specs.declared.client.Client.{Client}
use Rattle.dhcp_history.specs.declared.machine.RunError.{RunError}
use Rattle.dhcp_history.specs.Protocol.{Protocol}
use Rattle.dhcp_history.specs.Script.{Nothing, Script}
use Rattle.dhcp_history.specs.History.{history, outputs}
use Rattle.dhcp_history.specs.Machine.{View}
use Rattle.dhcp_history.specs.Client.{view_of}
use Rattle.dhcp_history.specs.Run.{answer_of}
use Rattle.dhcp_history.specs.Traced.{Traces, asked, asks, made}
use Rattle.dhcp_history.specs.RealRun.{Polled, events_of, once_of, run_from}

-- a call: the moment that it was given, and its answer
pub record Call (PublicState : Type 0) : Type 0 where
  pub moment : ℕ
  pub answer : Result (Option PublicState) RunError

module _ {PublicState State Exchange Answer Lease : Type 0}
    (p : Protocol PublicState Packet Handed State Exchange Answer Lease) where
  -- These polls are those of the calls: at their moments, with their answers; the link made these
  -- turns for them, in this order; and they bring the client from the one view to the other.
  abbrev pub AreCalls : List (Call PublicState) → List Polled → List Turn →
      View State Exchange → View State Exchange → Type 0
  AreCalls [] [] turns old new = (turns ≡ []) × (new ≡ old)
  AreCalls [] (q ∷ qs) turns old new = ⊥
  AreCalls (call ∷ calls) [] turns old new = ⊥
  AreCalls (call ∷ calls) (q ∷ qs) turns old new =
      (q.moment ≡ call.moment) × ((call.answer ≡ answer_of p (once_of p q old)) ×
      (((once_of p q old).left ≡ Nothing) × ((later : List Turn) ×
      ((turns ≡ (made q.refuse (once_of p q old).handed ++
      asked (asks p q.moment q.refuse old) q.packet) ++ later) ×
      AreCalls calls qs later (once_of p q old).view new))))

  module _ {Source Link : Type 0} (gives : ℕ → Source → Source → Type 0)
      (moves : Turn → Link → Link → Type 0) where
    -- calls that follow one another
    abbrev pub CallsLead : List (Call PublicState) → Client State Exchange → Source → Link →
        Client State Exchange → Source → Link → Type 0
    CallsLead [] old words link new words' link' =
        (new ≡ old) × ((words' ≡ words) × (link' ≡ link))
    CallsLead (call ∷ calls) old words link new words' link' =
        (client : Client State Exchange) × ((source : Source) × ((there : Link) ×
        (Traces p gives moves call.moment call.answer old client words source link there ×
        CallsLead calls client source there new words' link')))

    -- They are the polls of a run: with the words that the source gave, by the turns that the link
    -- made.
    pub record AreRun (calls : List (Call PublicState)) (old : Client State Exchange)
        (words : Source) (link : Link) (new : Client State Exchange) (words' : Source)
        (link' : Link) : Type 0 where
      pub taken : List ℕ
      pub turns : List Turn
      pub polls : List Polled
      pub drawn : Leads gives words taken words'
      pub moved : Leads moves link turns link'
      pub run : (rest : List ℕ) →
          AreCalls calls polls turns (view_of old (taken ++ rest)) (view_of new rest)

-- a call at this moment comes next
abbrev pub NextCallAt : {PublicState : Type 0} → ℕ → List (Call PublicState) → Type 0
NextCallAt moment [] = ⊥
NextCallAt moment (call ∷ calls) = call.moment ≡ moment

-- after a change the client is polled again at the same moment
abbrev pub AgainAt : {PublicState : Type 0} → Result (Option PublicState) RunError → ℕ →
    List (Call PublicState) → Type 0
AgainAt (Ok None) moment calls = Unit {0}
AgainAt (Ok (Some state)) moment calls = NextCallAt moment calls
AgainAt (Err error) moment calls = Unit {0}

-- after each change of these calls it is
abbrev pub Disciplined : {PublicState : Type 0} → List (Call PublicState) → Type 0
Disciplined [] = Unit {0}
Disciplined (call ∷ calls) = AgainAt call.answer call.moment calls × Disciplined calls

module _ {PublicState State Exchange Answer Lease : Type 0}
    (p : Protocol PublicState Packet Handed State Exchange Answer Lease) where
  -- the script of a client that begins so, with these words, and is polled so
  abbrev pub script_of : Client State Exchange → List ℕ → List Polled →
      Script Packet State Exchange
  script_of client words polls = record {
    timeout_sec = client.timeout_sec;
    state = client.state;
    exchange = client.standing.exchange;
    words = words;
    events = events_of p (view_of client words) polls;
  }

  module _ {Source Link : Type 0} (gives : ℕ → Source → Source → Type 0)
      (moves : Turn → Link → Link → Type 0) where
    -- The calls are a run, and what that reports is what the history of its script reports.
    pub record AreScript (calls : List (Call PublicState)) (old : Client State Exchange)
        (words : Source) (link : Link) (new : Client State Exchange) (words' : Source)
        (link' : Link) : Type 0 where
      pub are : AreRun p gives moves calls old words link new words' link'
      pub reports : (rest : List ℕ) →
          (run_from p (view_of old (are.taken ++ rest)) are.polls).outputs ≡
          outputs p (history p (script_of old (are.taken ++ rest) are.polls))
