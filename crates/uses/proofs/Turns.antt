-- One more poll of a turn.
use Rattle.std.proofs.Common.{◌≡◌, ℕ, ◌+◌, List, [], ◌∷◌, ◌++◌, length, map, arith, ap, refl, subst}
use Rattle.std.specs.Prelude.{Bool, Option, Some, None, option_map, Result, Ok}
use Rattle.dhcp_wire.specs.Error.{ErrorParts}
use Rattle.dhcp_clock.specs.declared.link.Handed.{Handed}
use Rattle.dhcp_clock.specs.declared.link.Packet.{Packet}
use Rattle.dhcp_clock.specs.Link.{Shown, Turn}
use Rattle.dhcp_clock.proofs.Taken.{leads_both, leads_one}
use Rattle.dhcp_history.specs.declared.client.Client.{Client}
use Rattle.dhcp_history.specs.Errors.{run_answer}
use Rattle.dhcp_history.specs.Protocol.{Protocol}
use Rattle.dhcp_history.specs.RealCalls.{CallsLead}
use Rattle.dhcp_history.specs.Run.{UnlessNoMemory}
use Rattle.dhcp_history.specs.Traced.{Traces}
use Rattle.uses.specs.Manager.{Follows, Linked, Polled, calls_at}

-- a poll by an equal table, which the same packets may answer
pub polled_by : {PublicState State Exchange Answer Lease Source Link : Type 0} (one p : Protocol PublicState Packet Handed State Exchange Answer Lease)
    (gives : ℕ → Source → Source → Type 0) (moves : Turn → Link → Link → Type 0) {Reported : Type 0} (view : Reported → PublicState) (own may_answer : State → Exchange → Packet → Bool)
    (left : Source → Option (List ℕ)) (shown : Link → Option Shown) (faults : Link → ℕ) (now : ℕ) (result : Result (Option Reported) ErrorParts) (old new : Linked State Exchange Source Link) →
    one ≡ p → own ≡ may_answer → Polled one gives moves view own left shown faults now result old new → Polled p gives moves view may_answer left shown faults now result old new
polled_by {State = State} {Exchange = Exchange} one p gives moves view own may_answer left shown faults now result old new same answers polled =
    subst (λ (p : Protocol _ Packet Handed _ _ _ _). Polled p gives moves view may_answer left shown faults now result old new) same
    (subst (λ (own : State → Exchange → Packet → Bool). Polled one gives moves view own left shown faults now result old new) answers polled)

module _ {PublicState State Exchange Answer Lease Source Link : Type 0} (p : Protocol PublicState Packet Handed State Exchange Answer Lease)
    (gives : ℕ → Source → Source → Type 0) (moves : Turn → Link → Link → Type 0) {Reported : Type 0} (view : Reported → PublicState) where
  -- what a poll with this answer did
  pub traced_of : (may_answer : State → Exchange → Packet → Bool) (left : Source → Option (List ℕ)) (shown : Link → Option Shown) (faults : Link → ℕ) (now : ℕ)
      (result : Result (Option Reported) ErrorParts) (change : Option Reported) (old new : Linked State Exchange Source Link) → result ≡ Ok change →
      Polled p gives moves view may_answer left shown faults now result old new →
      Traces p gives moves now (Ok (option_map view change)) old.client new.client old.words new.words old.link new.link
  traced_of may_answer left shown faults now result change old new is polled =
      subst (λ (result : Result (Option Reported) ErrorParts). UnlessNoMemory (run_answer view result) (Traces p gives moves now (run_answer view result) old.client new.client old.words new.words old.link new.link))
      is polled.traced

  abbrev changes : List Reported → List (Option PublicState)
  changes states = map (λ state. Some (view state)) states

  abbrev LeadsAt : ℕ → List (Option PublicState) → Linked State Exchange Source Link → Linked State Exchange Source Link → Type 0
  LeadsAt now list old new = CallsLead p gives moves (calls_at now list) old.client old.words old.link new.client new.words new.link

  -- polls that report these states, and one more with this change
  ran_then : (now : ℕ) (states : List Reported) (change : Option PublicState) (old between new : Linked State Exchange Source Link) → LeadsAt now (changes states ++ []) old between →
      Traces p gives moves now (Ok change) between.client new.client between.words new.words between.link new.link → LeadsAt now (changes states ++ change ∷ []) old new
  ran_then now [] change old between new lead one =
      let by_client = subst (λ (c : Client State Exchange). Traces p gives moves now (Ok change) c new.client between.words new.words between.link new.link) lead.0 one in
      let by_words = subst (λ (s : Source). Traces p gives moves now (Ok change) old.client new.client s new.words between.link new.link) lead.1.0 by_client in
      let by_link = subst (λ (l : Link). Traces p gives moves now (Ok change) old.client new.client old.words new.words l new.link) lead.1.1 by_words in
      (new.client, (new.words, (new.link, (by_link, (refl, (refl, refl))))))
  ran_then now (state ∷ states) change old between new lead one =
      (lead.0, (lead.1.0, (lead.1.1.0, (lead.1.1.1.0, ran_then now states change (record { client = lead.0; words = lead.1.0; link = lead.1.1.0 }) between new lead.1.1.1.1 one))))

  reported_then : (states : List Reported) (state : Reported) → changes states ++ Some (view state) ∷ [] ≡ changes (states ++ state ∷ []) ++ []
  reported_then [] state = refl
  reported_then (first ∷ states) state = ap (λ list. Some (view first) ∷ list) (reported_then states state)

  counted_then : (states : List Reported) (state : Reported) → length (states ++ state ∷ []) ≡ length states + 1
  counted_then [] state = refl
  counted_then (first ∷ states) state = omega (arith, counted_then states state)

  module _ {Interface : Type 0} (follows : Reported → Interface → Interface → Type 0) (now : ℕ) where
    -- no poll yet
    pub follows_none : (old : Linked State Exchange Source Link) (before : Interface) → Follows p gives moves view follows now [] 0 old before old before
    follows_none old before = record { states = []; counted = refl; followed = refl; ran = (refl, (refl, refl)) }

    -- one more that reports a state
    pub follows_more : (count : ℕ) (state : Reported) (old between new : Linked State Exchange Source Link) (before followed after : Interface) →
        Follows p gives moves view follows now [] count old before between followed →
        Traces p gives moves now (Ok (Some (view state))) between.client new.client between.words new.words between.link new.link →
        follows state followed after → Follows p gives moves view follows now [] (count + 1) old before new after
    follows_more count state old between new before followed after turned one following = record {
      states = turned.states ++ state ∷ [];
      counted = omega (arith, counted_then turned.states state, turned.counted);
      followed = leads_both follows turned.states (state ∷ []) before followed after turned.followed (leads_one follows state followed after following);
      ran = subst (λ (list : List (Option PublicState)). LeadsAt now list old new) (reported_then turned.states state) (ran_then now turned.states (Some (view state)) old between new turned.ran one);
    }

    -- and the last, which reports none
    pub follows_last : (count : ℕ) (old between new : Linked State Exchange Source Link) (before after : Interface) →
        Follows p gives moves view follows now [] count old before between after →
        Traces p gives moves now (Ok None) between.client new.client between.words new.words between.link new.link →
        Follows p gives moves view follows now (None ∷ []) count old before new after
    follows_last count old between new before after turned one = record {
      states = turned.states;
      counted = turned.counted;
      followed = turned.followed;
      ran = ran_then now turned.states None old between new turned.ran one;
    }
