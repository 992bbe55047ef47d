-- How the stays of a history follow one another: each begins where the one before it leads to.
use Rattle.std.proofs.Common.{◌≡◌, ℕ, suc, zero, ◌+◌, ◌*◌, List, [], ◌∷◌, ◌++◌, length, refl, Bool, true, false}
use Rattle.dhcp_history.specs.Protocol.{Protocol}
use Rattle.dhcp_history.specs.declared.script.NumberedEvent.{NumberedEvent}
use Rattle.dhcp_history.specs.Script.{Script}
use Rattle.dhcp_history.specs.History.{Closing, Course, Entry, Finish, Outcome, AnsweredBy, RanOut, Unanswered, Setting, Stay, Transition, before, close, closes, course, cut, cuts, end_at, entry_pause, entry_progress, from, history, overruns, setting_at, stays, transition, transition_by}
use Rattle.dhcp_history.specs.Points.{FollowOn, LeadsTo}

module _ {PublicState Packet Message State Exchange Answer Lease : Type 0} (p : Protocol PublicState Packet Message State Exchange Answer Lease) where
  -- a stay begins at the first of these events, if there is one
  abbrev LeadsInto : Closing State Message → List (NumberedEvent Packet) → State → Type 0
  LeadsInto closing [] state = Unit {0}
  LeadsInto closing (v ∷ vs) state = LeadsTo p closing v.number state

  abbrev Leads : Transition Packet Message State Exchange → Type 0
  Leads turn = LeadsInto turn.closing turn.events turn.entry.state

  turn_leads : (setting : Setting State) (finish : Finish Packet Exchange Answer) (late : List (NumberedEvent Packet)) → Leads (transition p setting finish late)
  turn_leads setting finish late = go finish.outcome late
    where
      by_cut : (events : List (NumberedEvent Packet)) → Leads (cut p setting finish events)
      by_cut [] = tt
      by_cut (v ∷ vs) = (refl, (finish.exchange, refl))

      by_ending : (events : List (NumberedEvent Packet)) → Leads (end_at p setting finish events)
      by_ending [] = tt
      by_ending (v ∷ vs) = (refl, refl)

      by_close : (v : NumberedEvent Packet) (vs : List (NumberedEvent Packet)) (cut_now over : Bool) → Leads (close p cut_now over setting finish v vs)
      by_close v vs true over = by_cut (v ∷ vs)
      by_close v vs false true = by_cut (from (cuts p setting) (v ∷ vs))
      by_close v vs false false = by_ending (v ∷ vs)

      by_answer : (answer : Answer) (events : List (NumberedEvent Packet)) (all : List (NumberedEvent Packet)) → finish.rest ++ events ≡ all → Leads (transition_by p (AnsweredBy answer) setting finish events)
      by_answer answer events [] is = rw is tt
      by_answer answer events (v ∷ vs) is = rw is (refl, refl)

      go : (outcome : Outcome Answer) (events : List (NumberedEvent Packet)) → Leads (transition_by p outcome setting finish events)
      go (AnsweredBy answer) events = by_answer answer events (finish.rest ++ events) refl
      go RanOut events = by_ending (finish.rest ++ events)
      go Unanswered [] = by_cut []
      go Unanswered (v ∷ vs) = by_close v vs (cuts p setting v) (overruns p setting v)

  -- before the stays that begin at these events
  before_stays : (stay : Stay State Message) (fuel timeout_sec : ℕ) (entry : Entry State Exchange) (events : List (NumberedEvent Packet)) → LeadsInto stay.closing events entry.state → FollowOn p (stays p fuel timeout_sec entry events) →
      FollowOn p (stay ∷ stays p fuel timeout_sec entry events)
  before_stays stay fuel timeout_sec entry [] leads follow = tt
  before_stays stay zero timeout_sec entry (v ∷ vs) leads follow = tt
  before_stays stay (suc fuel) timeout_sec entry (v ∷ vs) leads follow = (leads, follow)

  stays_follow : (fuel timeout_sec : ℕ) (entry : Entry State Exchange) (events : List (NumberedEvent Packet)) → FollowOn p (stays p fuel timeout_sec entry events)
  stays_follow fuel timeout_sec entry [] = tt
  stays_follow zero timeout_sec entry (v ∷ vs) = tt
  stays_follow (suc fuel) timeout_sec entry (v ∷ vs) =
      let setting : Setting State = setting_at timeout_sec entry v.moment in
      let run : Course Packet Message Exchange Answer = course p (suc (length (v ∷ vs))) setting (entry_progress p setting entry v) (before (closes p setting) (v ∷ vs)) in
      let late : List (NumberedEvent Packet) = from (closes p setting) (v ∷ vs) in
      let next : Transition Packet Message State Exchange = transition p setting run.finish late in
      before_stays (record { setting = setting; entry = v.number; pause = entry_pause p setting entry v; acts = run.acts ++ next.acts; closing = next.closing }) fuel timeout_sec next.entry next.events (turn_leads setting run.finish late) (stays_follow fuel timeout_sec next.entry next.events)

  -- The stays of a history follow one another.
  pub stays_follow_on : (script : Script Packet State Exchange) → FollowOn p (history p script)
  stays_follow_on script = stays_follow (8 * (length script.events + 1)) script.timeout_sec (record { state = script.state; exchange = script.exchange; words = script.words }) script.events
