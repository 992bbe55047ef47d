-- What holds of the events of a script holds of those that are left after a stay, if it holds of the events behind the first one, and if the call of the first one leaves it.
use Rattle.std.proofs.Common.{subst, ◌≡◌, ℕ, suc, zero, List, [], ◌∷◌, ◌++◌, refl, ap, Bool, true, false, ◌∙◌, sym, append_assoc}
use Rattle.std.specs.Prelude.{Option, Some, None}
use Rattle.dhcp_history.specs.Protocol.{Protocol}
use Rattle.dhcp_history.specs.declared.script.NumberedEvent.{NumberedEvent}
use Rattle.dhcp_history.specs.Script.{after_call}
use Rattle.dhcp_history.specs.History.{AnsweredBy, Finish, Heard, Outcome, Progress, RanOut, Setting, Unanswered, after_packet, attempt_or_end, before, close, course, cut, cuts, end_at, from, hear, is_at_or_past, is_open, next_attempt, overruns, progress_after, reading_if, runs_out, transition, transition_by}
use Rattle.dhcp_history.proofs.Steps.{before-from}

module _ {Packet : Type 0} (Holds : List (NumberedEvent Packet) → Type 0)
    (tail : (v : NumberedEvent Packet) (vs : List (NumberedEvent Packet)) → Holds (v ∷ vs) → Holds vs)
    (call : (v : NumberedEvent Packet) (vs : List (NumberedEvent Packet)) → Holds (v ∷ vs) → Holds (after_call v ∷ vs)) where
  pub late_holds : (ws late : List (NumberedEvent Packet)) → Holds (ws ++ late) → Holds late
  late_holds [] late holds = holds
  late_holds (v ∷ vs) late holds = late_holds vs late (tail v (vs ++ late) holds)

  pub from_holds : (test : NumberedEvent Packet → Bool) (events : List (NumberedEvent Packet)) → Holds events → Holds (from test events)
  from_holds test events holds = late_holds (before test events) (from test events) (subst Holds (sym (before-from test events)) holds)

  pub parts_hold : (test : NumberedEvent Packet → Bool) (events late : List (NumberedEvent Packet)) → Holds (events ++ late) → Holds (before test events ++ (from test events ++ late))
  parts_hold test events late holds =
      subst Holds (ap (λ (xs : List (NumberedEvent Packet)). xs ++ late) (sym (before-from test events)) ∙ append_assoc (before test events) (from test events) late) holds

  module _ {PublicState Message State Exchange Answer Lease : Type 0} (p : Protocol PublicState Packet Message State Exchange Answer Lease) (setting : Setting State) where
    hear_rest : (exchange : Exchange) (listens : Bool) (words : List ℕ) (events late : List (NumberedEvent Packet)) → Holds (events ++ late) → Holds ((hear p setting exchange listens words events).rest ++ late)
    hear_rest exchange listens words [] late holds = holds
    hear_rest exchange listens words (v ∷ vs) late holds =
        go (reading_if p listens setting exchange words v.input).value refl (hear_rest exchange listens (reading_if p listens setting exchange words v.input).left vs late (tail v (vs ++ late) holds))
      where
        go : (answer : Option Answer) → (reading_if p listens setting exchange words v.input).value ≡ answer → Holds ((hear p setting exchange listens (reading_if p listens setting exchange words v.input).left vs).rest ++ late) →
            Holds ((hear p setting exchange listens words (v ∷ vs)).rest ++ late)
        go (Some answer) is ih = rw is holds
        go None is ih = rw is ih

    -- where the attempts of a stay end
    pub course_rest : (fuel : ℕ) (progress : Progress Exchange) (events late : List (NumberedEvent Packet)) → Holds (events ++ late) → Holds ((course p fuel setting progress events).finish.rest ++ late)
    course_rest zero progress events late holds = late_holds events late holds
    course_rest (suc fuel) progress events late holds =
        go last.answer (from (is_at_or_past progress.due) events) heard (late_holds (before (is_at_or_past progress.due) events) (from (is_at_or_past progress.due) events ++ late) parts)
        (λ next xs h. course_rest fuel next xs late h)
      where
        last : Heard Packet Message Answer
        last = hear p setting progress.exchange (is_open progress.last) progress.words (before (is_at_or_past progress.due) events)

        now : Progress Exchange
        now = record progress { words = last.words }

        parts : Holds (before (is_at_or_past progress.due) events ++ (from (is_at_or_past progress.due) events ++ late))
        parts = parts_hold (is_at_or_past progress.due) events late holds

        heard : Holds (last.rest ++ (from (is_at_or_past progress.due) events ++ late))
        heard = hear_rest progress.exchange (is_open progress.last) progress.words (before (is_at_or_past progress.due) events) (from (is_at_or_past progress.due) events ++ late) parts

        by_end : (b : Bool) (v : NumberedEvent Packet) (vs : List (NumberedEvent Packet)) → Holds (v ∷ (vs ++ late)) →
            ((next : Progress Exchange) (xs : List (NumberedEvent Packet)) → Holds (xs ++ late) → Holds ((course p fuel setting next xs).finish.rest ++ late)) →
            Holds ((attempt_or_end p b (course p fuel setting) setting now last.acts v vs).finish.rest ++ late)
        by_end true v vs there ih = call v (vs ++ late) there
        by_end false v vs there ih = ih (progress_after p setting now v) (after_call v ∷ vs) (call v (vs ++ late) there)

        go : (answer : Option Answer) (xs : List (NumberedEvent Packet)) → Holds (last.rest ++ (xs ++ late)) → Holds (xs ++ late) →
            ((next : Progress Exchange) (xs : List (NumberedEvent Packet)) → Holds (xs ++ late) → Holds ((course p fuel setting next xs).finish.rest ++ late)) →
            Holds ((next_attempt p (course p fuel setting) setting now answer last xs).finish.rest ++ late)
        go (Some answer) xs rest there ih = subst Holds (sym (append_assoc last.rest xs late)) rest
        go None [] rest there ih = there
        go None (v ∷ vs) rest there ih = by_end (runs_out p setting now) v vs there ih

    -- where the next stay begins, if it holds where an answer has used up the first event
    pub turn_holds : (finish : Finish Packet Exchange Answer) (late : List (NumberedEvent Packet)) → Holds [] → Holds (finish.rest ++ late) → Holds late →
        ((answer : Answer) → finish.outcome ≡ AnsweredBy answer → Holds (finish.rest ++ late) → Holds (after_packet (finish.rest ++ late))) → Holds (transition p setting finish late).events
    turn_holds finish late none all there used = go finish.outcome refl late all there used
      where
        by_cut : (events : List (NumberedEvent Packet)) → Holds events → Holds (cut p setting finish events).events
        by_cut [] holds = none
        by_cut (v ∷ vs) holds = call v vs holds

        by_ending : (events : List (NumberedEvent Packet)) → Holds events → Holds (end_at p setting finish events).events
        by_ending [] holds = none
        by_ending (v ∷ vs) holds = call v vs holds

        by_close : (v : NumberedEvent Packet) (vs : List (NumberedEvent Packet)) (cut_now over : Bool) → Holds (v ∷ vs) → Holds (close p cut_now over setting finish v vs).events
        by_close v vs true over holds = by_cut (v ∷ vs) holds
        by_close v vs false true holds = by_cut (from (cuts p setting) (v ∷ vs)) (from_holds (cuts p setting) (v ∷ vs) holds)
        by_close v vs false false holds = by_ending (v ∷ vs) holds

        go : (outcome : Outcome Answer) → finish.outcome ≡ outcome → (events : List (NumberedEvent Packet)) → Holds (finish.rest ++ events) → Holds events →
            ((answer : Answer) → finish.outcome ≡ AnsweredBy answer → Holds (finish.rest ++ events) → Holds (after_packet (finish.rest ++ events))) → Holds (transition_by p outcome setting finish events).events
        go (AnsweredBy answer) is events all' there' used' = used' answer is all'
        go RanOut is events all' there' used' = by_ending (finish.rest ++ events) all'
        go Unanswered is [] all' there' used' = by_cut [] there'
        go Unanswered is (v ∷ vs) all' there' used' = by_close v vs (cuts p setting v) (overruns p setting v) there'
