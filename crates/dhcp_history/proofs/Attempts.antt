-- The attempts of a stay: how far apart they are, how many they are, and how much rarer they get.
use Rattle.std.proofs.Common.{subst, ◌≡◌, ℕ, suc, zero, ◌+◌, ◌-◌, ◌*◌, ◌^◌, ◌≤◌, ◌<◌, max, List, [], ◌∷◌, ◌++◌, length, refl, ap, Bool, true, false, arith, ◌∙◌, sym, append-nil, ◌⊎◌, inl, inr}
use Rattle.std.specs.Prelude.{Option, Some, None, not, ◌&&◌, flat_map, if◌then◌else◌, nat_le}
use Rattle.std.specs.List.{AllByRecursion}
use Rattle.std.proofs.lemmas.Bool.{leb-false, leb-true, le-leb}
use Rattle.std.proofs.Math.Nat.{pow-le-pow_right}
use Rattle.dhcp_history.specs.declared.rules.AttemptStart.{AttemptStart}
use Rattle.dhcp_history.specs.Protocol.{Protocol, has_come}
use Rattle.dhcp_history.specs.Script.{NumberedEvent, Script}
use Rattle.dhcp_history.specs.History.{Stay, before, from, is_at_or_past, cuts, overruns, ends, closes, is_release, moment_of, LastAttempt, NoneYet, Open, Unsent, is_open, is_none_yet, last_by, Progress, exchange_after, runs_out, Heard, hear, reading_if, answer_or, refused_release, refused_release_of, new_attempt_at, Attempt, attempt_at, progress_after, Course, course, next_attempt, attempt_or_end, Finish, Outcome, Unanswered, AnsweredBy, RanOut, Act, Attempted, ReleaseRefused, LimitOver, Setting, Entry, Transition, transition, transition_by, close, cut, end_at, limit_acts, setting_at, entry_progress, stays, history}
use Rattle.dhcp_history.specs.Script.{after_call}
use Rattle.dhcp_clock.specs.Wait.{half_wait}
use Rattle.dhcp_history.specs.Bounds.{attempts_of, taken_count, Apart, IsApart, FarApart, Halves, EndsAfter, Halved, IsKept, Distant, IsDistant, IsTakenDistant, taken_of, with_taken}
use Rattle.dhcp_history.proofs.Stays.{from_passes}

pow-suc : (n : ℕ) → 2 ^ suc n ≡ 2 * 2 ^ n
pow-suc n = grind arith

last_two : (end due a b : ℕ) → due ≤ a → a < end → a + half_wait (end - a) ≤ b → b < end → 60000 < end - due
last_two end due a b h h' h'' h''' = omega arith

one_more : (end due a power : ℕ) → due ≤ a → power < end - (a + half_wait (end - a)) → 2 * power < end - due
one_more end due a power h h' = omega arith

module _ {Message : Type 0} where
  pub attempts-append : (xs ys : List (Act Message)) → attempts_of (xs ++ ys) ≡ attempts_of xs ++ attempts_of ys
  attempts-append [] ys = refl
  attempts-append (Attempted attempt ∷ xs) ys = ap (λ (more : List (Attempt Message)). attempt ∷ more) (attempts-append xs ys)
  attempts-append (ReleaseRefused event message ∷ xs) ys = attempts-append xs ys
  attempts-append (LimitOver event ∷ xs) ys = attempts-append xs ys

  taken_few : (attempts : List (Attempt Message)) → taken_count attempts ≤ length attempts
  taken_few [] = omega arith
  taken_few (attempt ∷ attempts) = go attempt.refused refl (taken_few attempts)
    where
      go : (b : Bool) → attempt.refused ≡ b → taken_count attempts ≤ length attempts → taken_count (attempt ∷ attempts) ≤ suc (length attempts)
      go true e ih = rw e (omega (arith, ih))
      go false e ih = rw e (omega (arith, ih))

  -- each attempt stands before the end and at or past the due moment of the one before, where waits are half of the rest
  abbrev Spaced : ℕ → ℕ → List (Attempt Message) → Type 0
  Spaced end due [] = Unit {0}
  Spaced end due (attempt ∷ attempts) = (due ≤ attempt.moment) × (attempt.moment < end) × Spaced end (attempt.moment + half_wait (end - attempt.moment)) attempts

  -- k attempts need a rest of a minute, doubled k - 2 times
  halving : (end due k : ℕ) (attempts : List (Attempt Message)) → Spaced end due attempts → length attempts ≡ suc (suc k) → 60000 * 2 ^ k < end - due
  halving end due k [] spaced e = absurd (omega arith)
  halving end due k (a ∷ []) spaced e = absurd (omega arith)
  halving end due zero (a ∷ b ∷ attempts) spaced e = last_two end due a.moment b.moment spaced.0 spaced.1 spaced.2.0 spaced.2.1
  halving end due (suc k) (a ∷ b ∷ attempts) spaced e =
      let later : 60000 * 2 ^ k < end - (a.moment + half_wait (end - a.moment)) = halving end (a.moment + half_wait (end - a.moment)) k (b ∷ attempts) spaced.2 (omega arith) in
      let twice : 2 * (60000 * 2 ^ k) < end - due = one_more end due a.moment (60000 * 2 ^ k) spaced.0 later in
      omega (arith, pow-suc k)

  counts_halve : (end due : ℕ) (attempts : List (Attempt Message)) → Spaced end due attempts → Halves (taken_count attempts) (end - due)
  counts_halve end due attempts spaced two = go (length attempts) refl
    where
      go : (n : ℕ) → length attempts ≡ n → 60000 * 2 ^ (taken_count attempts - 2) < end - due
      go zero f = absurd (omega (arith, taken_few attempts, two, f))
      go (suc zero) f = absurd (omega (arith, taken_few attempts, two, f))
      go (suc (suc k)) f =
          let bound : 60000 * 2 ^ k < end - due = halving end due k attempts spaced f in
          let less : taken_count attempts - 2 ≤ k = omega (arith, taken_few attempts, f) in
          let fewer : 2 ^ (taken_count attempts - 2) ≤ 2 ^ k = pow-le-pow_right {n = 2} (omega arith) less in
          omega arith

module _ {Packet : Type 0} where
  -- events that stand before a moment
  abbrev AllBefore : ℕ → List (NumberedEvent Packet) → Type 0
  AllBefore end events = AllByRecursion (λ event. event.moment < end) events

  from_before : (end : ℕ) (test : NumberedEvent Packet → Bool) (events : List (NumberedEvent Packet)) → AllBefore end events → AllBefore end (from test events)
  from_before end test [] all = tt
  from_before end test (v ∷ vs) all = go (from_before end test vs all.1) (test v) refl
    where
      go : AllBefore end (from test vs) → (b : Bool) → test v ≡ b → AllBefore end (from test (v ∷ vs))
      go ih true e = rw e all
      go ih false e = rw e ih

module _ {PublicState Packet Message State Exchange Answer Lease : Type 0} (p : Protocol PublicState Packet Message State Exchange Answer Lease) where
  -- no attempt is among what is refused, what is heard, and what is overdue
  pub none_denied : (setting : Setting State) (exchange : Exchange) (v : NumberedEvent Packet) → attempts_of (refused_release p setting exchange v) ≡ []
  none_denied setting exchange v = go (p.held_lease setting.state)
    where
      go : (held : Option Lease) → attempts_of (refused_release_of p held exchange v) ≡ []
      go None = refl
      go (Some lease) = by_test (is_release v.input && v.refuse) refl
        where
          by_test : (b : Bool) → (is_release v.input && v.refuse) ≡ b → attempts_of (refused_release_of p (Some lease) exchange v) ≡ []
          by_test true e = rw e
          by_test false e = rw e

  pub none_heard : (setting : Setting State) (exchange : Exchange) (listens : Bool) (words : List ℕ) (events : List (NumberedEvent Packet)) → attempts_of (hear p setting exchange listens words events).acts ≡ []
  none_heard setting exchange listens words [] = refl
  none_heard setting exchange listens words (v ∷ vs) =
      go (reading_if p listens setting exchange words v.input).value (none_heard setting exchange listens (reading_if p listens setting exchange words v.input).left vs)
    where
      later : Heard Packet Message Answer
      later = hear p setting exchange listens (reading_if p listens setting exchange words v.input).left vs

      go : (answer : Option Answer) → attempts_of later.acts ≡ [] →
          attempts_of (answer_or answer (reading_if p listens setting exchange words v.input).left (refused_release p setting exchange v) (v ∷ vs) later).acts ≡ []
      go None ih = rw (attempts-append (refused_release p setting exchange v) later.acts, none_denied setting exchange v, ih)
      go (Some answer) ih = none_denied setting exchange v

  none_overdue : (setting : Setting State) (exchange : Exchange) (events : List (NumberedEvent Packet)) → attempts_of (flat_map (limit_acts p setting exchange) events) ≡ []
  none_overdue setting exchange [] = refl
  none_overdue setting exchange (v ∷ vs) =
      rw (attempts-append (limit_acts p setting exchange v) (flat_map (limit_acts p setting exchange) vs), attempts-append (refused_release p setting exchange v) (LimitOver v.number ∷ []), none_denied setting exchange v)
      (none_overdue setting exchange vs)

  pub none_turned : (setting : Setting State) (finish : Finish Packet Exchange Answer) (late : List (NumberedEvent Packet)) → attempts_of (transition p setting finish late).acts ≡ []
  none_turned setting finish late = go finish.outcome late
    where
      by_end : (events : List (NumberedEvent Packet)) → attempts_of (end_at p setting finish events).acts ≡ []
      by_end [] = refl
      by_end (v ∷ vs) = none_denied setting finish.exchange v

      by_cut : (events : List (NumberedEvent Packet)) → attempts_of (cut p setting finish events).acts ≡ []
      by_cut [] = refl
      by_cut (v ∷ vs) = refl

      by_close : (v : NumberedEvent Packet) (vs : List (NumberedEvent Packet)) (cuts over : Bool) → attempts_of (close p cuts over setting finish v vs).acts ≡ []
      by_close v vs true over = by_cut (v ∷ vs)
      by_close v vs false true = none_overdue setting finish.exchange (before (cuts p setting) (v ∷ vs))
      by_close v vs false false = by_end (v ∷ vs)

      go : (outcome : Outcome Answer) (late : List (NumberedEvent Packet)) → attempts_of (transition_by p outcome setting finish late).acts ≡ []
      go (AnsweredBy answer) late = refl
      go RanOut late = by_end (finish.rest ++ late)
      go Unanswered [] = by_cut []
      go Unanswered (v ∷ vs) = by_close v vs (cuts p setting v) (overruns p setting v)

  -- What holds of the attempts from a place on, where it holds of none, and of one attempt and those after it.
  module _ (setting : Setting State) (Fits : Progress Exchange → List (NumberedEvent Packet) → Type 0) (Holds : Progress Exchange → List (Attempt Message) → Type 0)
      (by_none : (progress : Progress Exchange) → Holds progress [])
      (by_words : (progress : Progress Exchange) (words : List ℕ) (attempts : List (Attempt Message)) → Holds (record progress { words = words }) attempts → Holds progress attempts)
      (fits_next : (progress : Progress Exchange) (words : List ℕ) (events : List (NumberedEvent Packet)) (v : NumberedEvent Packet) (vs : List (NumberedEvent Packet)) → Fits progress events → from (is_at_or_past progress.due) events ≡ v ∷ vs →
      Fits (progress_after p setting (record progress { words = words }) v) (after_call v ∷ vs))
      (by_one : (progress : Progress Exchange) (events : List (NumberedEvent Packet)) (v : NumberedEvent Packet) (vs : List (NumberedEvent Packet)) (attempts : List (Attempt Message)) → Fits progress events → from (is_at_or_past progress.due) events ≡ v ∷ vs → runs_out p setting progress ≡ false →
      (words : List ℕ) → Holds (progress_after p setting (record progress { words = words }) v) attempts → Holds (record progress { words = words }) (attempt_at p setting (record progress { words = words }) v ∷ attempts)) where
    pub course_holds : (fuel : ℕ) (progress : Progress Exchange) (events : List (NumberedEvent Packet)) → Fits progress events → Holds progress (attempts_of (course p fuel setting progress events).acts)
    course_holds zero progress events fits = by_none progress
    course_holds (suc fuel) progress events fits = go last.answer (from (is_at_or_past progress.due) events) refl (λ next vs h. course_holds fuel next vs h)
      where
        last : Heard Packet Message Answer
        last = hear p setting progress.exchange (is_open progress.last) progress.words (before (is_at_or_past progress.due) events)

        now : Progress Exchange
        now = record progress { words = last.words }

        quiet : attempts_of last.acts ≡ []
        quiet = none_heard setting progress.exchange (is_open progress.last) progress.words (before (is_at_or_past progress.due) events)

        by_end : (b : Bool) → runs_out p setting now ≡ b → (v : NumberedEvent Packet) (vs : List (NumberedEvent Packet)) → from (is_at_or_past progress.due) events ≡ v ∷ vs →
            ((next : Progress Exchange) (xs : List (NumberedEvent Packet)) → Fits next xs → Holds next (attempts_of (course p fuel setting next xs).acts)) →
            Holds progress (attempts_of (attempt_or_end p b (course p fuel setting) setting now last.acts v vs).acts)
        by_end true r v vs e ih = rw (attempts-append last.acts (refused_release p setting progress.exchange v), quiet, none_denied setting progress.exchange v) (by_none progress)
        by_end false r v vs e ih =
            let next : Progress Exchange = progress_after p setting now v in
            let rest : List (Act Message) = (course p fuel setting next (after_call v ∷ vs)).acts in
            rw (
              attempts-append (last.acts ++ (refused_release p setting progress.exchange v ++ Attempted (attempt_at p setting now v) ∷ [])) rest,
              attempts-append last.acts (refused_release p setting progress.exchange v ++ Attempted (attempt_at p setting now v) ∷ []),
              quiet,
              attempts-append (refused_release p setting progress.exchange v) (Attempted (attempt_at p setting now v) ∷ []),
              none_denied setting progress.exchange v,
            )
            (by_words progress last.words (attempt_at p setting now v ∷ attempts_of rest)
            (by_one progress events v vs (attempts_of rest) fits e r last.words (ih next (after_call v ∷ vs) (fits_next progress last.words events v vs fits e))))

        go : (answer : Option Answer) (late : List (NumberedEvent Packet)) → from (is_at_or_past progress.due) events ≡ late →
            ((next : Progress Exchange) (xs : List (NumberedEvent Packet)) → Fits next xs → Holds next (attempts_of (course p fuel setting next xs).acts)) →
            Holds progress (attempts_of (next_attempt p (course p fuel setting) setting now answer last late).acts)
        go (Some answer) late e ih = rw quiet (by_none progress)
        go None [] e ih = rw quiet (by_none progress)
        go None (v ∷ vs) e ih = by_end (runs_out p setting now) refl v vs e ih

  -- from this moment on the next attempt may stand
  abbrev DueBy : ℕ → Progress Exchange → Type 0
  DueBy due progress = (now : ℕ) → has_come now progress.due ≡ true → due ≤ now

  due_at : (due : ℕ) (progress : Progress Exchange) (events : List (NumberedEvent Packet)) (v : NumberedEvent Packet) (vs : List (NumberedEvent Packet)) → DueBy due progress → from (is_at_or_past progress.due) events ≡ v ∷ vs → due ≤ v.moment
  due_at due progress events v vs by e = by v.moment (from_passes (is_at_or_past progress.due) events v vs e)

  -- the attempts of a stay are at least their waits apart
  module _ (setting : Setting State) where
    course_apart : (fuel : ℕ) (progress : Progress Exchange) (events : List (NumberedEvent Packet)) (due : ℕ) → DueBy due progress → Apart due (attempts_of (course p fuel setting progress events).acts)
    course_apart fuel progress events =
        course_holds setting (λ place' events'. Unit {0}) (λ place' attempts. (due : ℕ) → DueBy due place' → Apart due attempts)
        (λ place' due by. tt)
        (λ place' words attempts h due by. h due by)
        (λ place' words events' v vs fits e. tt)
        (λ place' events' v vs attempts fits e more words h due by. (
          due_at due place' events' v vs by e,
          h (v.moment + (new_attempt_at p setting (record place' { words = words }) v.moment).value.wait)
              (λ now come. leb-true (v.moment + (new_attempt_at p setting (record place' { words = words }) v.moment).value.wait) now come),
        ))
        fuel progress events tt

  -- the attempts of a stay whose waits are halves are spaced so
  module _ (setting : Setting State) (end : ℕ) (halved : Halved p setting.state end) where
    course_spaced : (fuel : ℕ) (progress : Progress Exchange) (events : List (NumberedEvent Packet)) → AllBefore end events → (due : ℕ) → DueBy due progress → Spaced end due (attempts_of (course p fuel setting progress events).acts)
    course_spaced fuel progress events all =
        course_holds setting (λ place' events'. AllBefore end events') (λ place' attempts. (due : ℕ) → DueBy due place' → Spaced end due attempts)
        (λ place' due by. tt)
        (λ place' words attempts h due by. h due by)
        (λ place' words events' v vs fits e. later events' v vs place' fits e)
        (λ place' events' v vs attempts fits e more words h due by. one place' events' v vs attempts fits e words h due by)
        fuel progress events all
      where
        later : (events' : List (NumberedEvent Packet)) (v : NumberedEvent Packet) (vs : List (NumberedEvent Packet)) (place' : Progress Exchange) → AllBefore end events' → from (is_at_or_past place'.due) events' ≡ v ∷ vs → AllBefore end (v ∷ vs)
        later events' v vs place' fits e = subst (λ (xs : List (NumberedEvent Packet)). AllBefore end xs) e (from_before end (is_at_or_past place'.due) events' fits)

        one : (place' : Progress Exchange) (events' : List (NumberedEvent Packet)) (v : NumberedEvent Packet) (vs : List (NumberedEvent Packet)) (attempts : List (Attempt Message)) → AllBefore end events' → from (is_at_or_past place'.due) events' ≡ v ∷ vs →
            (words : List ℕ) → ((due : ℕ) → DueBy due (progress_after p setting (record place' { words = words }) v) → Spaced end due attempts) → (due : ℕ) → DueBy due place' →
            Spaced end due (attempt_at p setting (record place' { words = words }) v ∷ attempts)
        one place' events' v vs attempts fits e words h due by =
            let waited : ℕ = (new_attempt_at p setting (record place' { words = words }) v.moment).value.wait in
            let start : AttemptStart = record { is_first = is_none_yet place'.last; entered = setting.entered; now = v.moment } in
            let half : waited ≡ half_wait (end - v.moment) = halved.waits (exchange_after p (record place' { words = words })) start words in
            let spaced : Spaced end (v.moment + waited) attempts = h (v.moment + waited) (λ now come. leb-true (v.moment + waited) now come) in
            (due_at due place' events' v vs by e, (later events' v vs place' fits e).0, subst (λ (w : ℕ). Spaced end (v.moment + w) attempts) half spaced)

  -- the attempts that were taken in a state that ends after n of them
  module _ (setting : Setting State) (n : ℕ) (ends_after : EndsAfter p setting.state n) where
    -- so many more can be taken, by whether the last one is open, and by its count
    abbrev most : Bool → ℕ → ℕ
    most true count = n - suc count
    most false count = max 1 (n - count)

    one_taken : (refused : Bool) (before counts after : ℕ) → before ≤ counts → counts ≤ after → (more : ℕ) → more ≤ most (is_open (last_by refused)) after →
        (if not refused then 1 else 0) + more ≤ max 1 (n - before)
    one_taken true before counts after h g more few = omega (arith, few)
    one_taken false before counts after h g more few = omega (arith, few, ends_after.some)

    next_taken : (refused : Bool) (before counts after : ℕ) → suc before < n → suc before ≤ counts → counts ≤ after → (more : ℕ) → more ≤ most (is_open (last_by refused)) after →
        (if not refused then 1 else 0) + more ≤ n - suc before
    next_taken true before counts after l h g more few = omega (arith, few)
    next_taken false before counts after l h g more few = omega (arith, few)

    abbrev count : Exchange → ℕ
    count exchange = ends_after.count exchange

    course_few : (fuel : ℕ) (progress : Progress Exchange) (events : List (NumberedEvent Packet)) → taken_count (attempts_of (course p fuel setting progress events).acts) ≤ most (is_open progress.last) (count progress.exchange)
    course_few fuel progress events =
        course_holds setting (λ place' events'. Unit {0}) (λ place' attempts. taken_count attempts ≤ most (is_open place'.last) (count place'.exchange))
        (λ place'. omega arith)
        (λ place' words attempts h. h)
        (λ place' words events' v vs fits e. tt)
        (λ place' events' v vs attempts fits e more words h. one place' v attempts more words h)
        fuel progress events tt
      where
        lasts : (exchange : Exchange) → p.is_last_attempt setting.state exchange ≡ false → suc (count exchange) < n
        lasts exchange more = go (nat_le n (suc (count exchange))) refl
          where
            go : (b : Bool) → nat_le n (suc (count exchange)) ≡ b → suc (count exchange) < n
            go true e = absurd (cc (ends_after.last exchange (leb-true n (suc (count exchange)) e), more))
            go false e = leb-false n (suc (count exchange)) e

        by_last : (last : LastAttempt) (due : Option ℕ) (exchange : Exchange) (words : List ℕ) (v : NumberedEvent Packet) (attempts : List (Attempt Message)) → runs_out p setting (record { last = last; due = due; exchange = exchange; words = words }) ≡ false →
            taken_count attempts ≤ most (is_open (last_by v.refuse)) (count (new_attempt_at p setting (record { last = last; due = due; exchange = exchange; words = words }) v.moment).value.exchange) →
            (if not v.refuse then 1 else 0) + taken_count attempts ≤ most (is_open last) (count exchange)
        by_last NoneYet due exchange words v attempts more h =
            one_taken v.refuse (count exchange) (count exchange) (count (new_attempt_at p setting (record { last = NoneYet; due = due; exchange = exchange; words = words }) v.moment).value.exchange) (omega arith)
            (ends_after.keeps exchange (record { is_first = true; entered = setting.entered; now = v.moment }) words) (taken_count attempts) h
        by_last Unsent due exchange words v attempts more h =
            one_taken v.refuse (count exchange) (count exchange) (count (new_attempt_at p setting (record { last = Unsent; due = due; exchange = exchange; words = words }) v.moment).value.exchange) (omega arith)
            (ends_after.keeps exchange (record { is_first = false; entered = setting.entered; now = v.moment }) words) (taken_count attempts) h
        by_last Open due exchange words v attempts more h =
            let fewer : suc (count exchange) < n = lasts exchange more in
            next_taken v.refuse (count exchange) (count (p.after_wait exchange)) (count (new_attempt_at p setting (record { last = Open; due = due; exchange = exchange; words = words }) v.moment).value.exchange) fewer (ends_after.rises exchange fewer)
            (ends_after.keeps (p.after_wait exchange) (record { is_first = false; entered = setting.entered; now = v.moment }) words) (taken_count attempts) h

        one : (place' : Progress Exchange) (v : NumberedEvent Packet) (attempts : List (Attempt Message)) → runs_out p setting place' ≡ false → (words : List ℕ) →
            taken_count attempts ≤ most (is_open (last_by v.refuse)) (count (new_attempt_at p setting (record place' { words = words }) v.moment).value.exchange) →
            taken_count (attempt_at p setting (record place' { words = words }) v ∷ attempts) ≤ most (is_open place'.last) (count place'.exchange)
        one place' v attempts more words h = by_last place'.last place'.due place'.exchange words v attempts more h

  -- no attempt of a stay stands before its entry
  entry_due : (setting : Setting State) (entry : Entry State Exchange) (v : NumberedEvent Packet) → DueBy v.moment (entry_progress p setting entry v)
  entry_due setting entry v now h = go (cuts p setting v) refl (p.has_attempts entry.state) refl
    where
      go : (b : Bool) → cuts p setting v ≡ b → (c : Bool) → p.has_attempts entry.state ≡ c → v.moment ≤ now
      go true e c f = absurd (cc (rw e at h))
      go false e false f = absurd (cc (rw (e, f) at h))
      go false e true f =
          let come : v.moment + (p.pause entry.state entry.exchange entry.words).value ≤ now = leb-true (v.moment + (p.pause entry.state entry.exchange entry.words).value) now (rw (e, f) at h) in
          omega arith

  -- the events of a window stand before the moment that ends the state
  window_before : (setting : Setting State) (end : ℕ) → p.ending_moment setting.state ≡ Some end → (events : List (NumberedEvent Packet)) → AllBefore end (before (closes p setting) events)
  window_before setting end e [] = tt
  window_before setting end e (v ∷ vs) = go (window_before setting end e vs) (cuts p setting v) refl (overruns p setting v) refl (ends p setting v) refl
    where
      go : AllBefore end (before (closes p setting) vs) → (a : Bool) → cuts p setting v ≡ a → (b : Bool) → overruns p setting v ≡ b → (c : Bool) → ends p setting v ≡ c → AllBefore end (before (closes p setting) (v ∷ vs))
      go ih true h b f c g = let over : closes p setting v ≡ true = rw h in rw over tt
      go ih false h true f c g = let over : closes p setting v ≡ true = rw (h, f) in rw over tt
      go ih false h false f true g = let over : closes p setting v ≡ true = rw (h, f, g) in rw over tt
      go ih false h false f false g = let lasts : closes p setting v ≡ false = rw (h, f, g) in rw lasts (leb-false end v.moment (rw e at g), ih)

  -- what holds of the attempts of each stay, by its setting, holds of all stays
  module _ (Holds : Setting State → List (Attempt Message) → Type 0)
      (each : (fuel : ℕ) (setting : Setting State) (entry : Entry State Exchange) (v : NumberedEvent Packet) (vs : List (NumberedEvent Packet)) → setting.state ≡ entry.state → setting.entered ≡ v.moment →
      Holds setting (attempts_of (course p fuel setting (entry_progress p setting entry v) (before (closes p setting) (v ∷ vs))).acts)) where
    stays_have : (fuel timeout_sec : ℕ) (entry : Entry State Exchange) (events : List (NumberedEvent Packet)) → AllByRecursion (λ stay. Holds stay.setting (attempts_of stay.acts)) (stays p fuel timeout_sec entry events)
    stays_have fuel timeout_sec entry [] = tt
    stays_have zero timeout_sec entry (v ∷ vs) = tt
    stays_have (suc fuel) timeout_sec entry (v ∷ vs) =
        let setting : Setting State = setting_at timeout_sec entry v.moment in
        let run : Course Packet Message Exchange Answer = course p (suc (length (v ∷ vs))) setting (entry_progress p setting entry v) (before (closes p setting) (v ∷ vs)) in
        let next : Transition Packet Message State Exchange = transition p setting run.finish (from (closes p setting) (v ∷ vs)) in
        let same : attempts_of (run.acts ++ next.acts) ≡ attempts_of run.acts =
        attempts-append run.acts next.acts ∙ (ap (λ (more : List (Attempt Message)). attempts_of run.acts ++ more) (none_turned setting run.finish (from (closes p setting) (v ∷ vs))) ∙ append-nil (attempts_of run.acts)) in (
          subst (λ (attempts : List (Attempt Message)). Holds setting attempts) (sym same) (each (suc (length (v ∷ vs))) setting entry v vs refl refl),
          stays_have fuel timeout_sec next.entry next.events,
        )

    history_has : (script : Script Packet State Exchange) → AllByRecursion (λ stay. Holds stay.setting (attempts_of stay.acts)) (history p script)
    history_has script = stays_have (8 * (length script.events + 1)) script.timeout_sec (record { state = script.state; exchange = script.exchange; words = script.words }) script.events

  -- the attempts of each stay are at least their waits apart
  pub history_apart : (script : Script Packet State Exchange) → AllByRecursion IsApart (history p script)
  history_apart script =
      history_has (λ setting attempts. Apart setting.entered attempts)
      (λ fuel setting entry v vs s e. subst (λ (due : ℕ). Apart due (attempts_of (course p fuel setting (entry_progress p setting entry v) (before (closes p setting) (v ∷ vs))).acts)) (sym e) (course_apart setting fuel (entry_progress p setting entry v) (before (closes p setting) (v ∷ vs)) v.moment (entry_due setting entry v)))
      script

  -- a state that ends after n taken attempts has at most n
  pub history_few : (script : Script Packet State Exchange) → AllByRecursion (λ stay. (n : ℕ) → EndsAfter p stay.setting.state n → taken_count (attempts_of stay.acts) ≤ n) (history p script)
  history_few script =
      history_has (λ setting attempts. (n : ℕ) → EndsAfter p setting.state n → taken_count attempts ≤ n)
      (λ fuel setting entry v vs s e n ends_after. few setting n ends_after entry v (attempts_of (course p fuel setting (entry_progress p setting entry v) (before (closes p setting) (v ∷ vs))).acts)
      (course_few setting n ends_after fuel (entry_progress p setting entry v) (before (closes p setting) (v ∷ vs))))
      script
    where
      shut : (setting : Setting State) (entry : Entry State Exchange) (v : NumberedEvent Packet) → is_open (entry_progress p setting entry v).last ≡ false
      shut setting entry v = go (cuts p setting v) refl
        where
          go : (b : Bool) → cuts p setting v ≡ b → is_open (entry_progress p setting entry v).last ≡ false
          go true e = rw e
          go false e = rw e

      few : (setting : Setting State) (n : ℕ) (ends_after : EndsAfter p setting.state n) (entry : Entry State Exchange) (v : NumberedEvent Packet) (attempts : List (Attempt Message)) →
          taken_count attempts ≤ most setting n ends_after (is_open (entry_progress p setting entry v).last) (ends_after.count (entry_progress p setting entry v).exchange) → taken_count attempts ≤ n
      few setting n ends_after entry v attempts h = go (ends_after.count (entry_progress p setting entry v).exchange) (rw (shut setting entry v) at h)
        where
          go : (c : ℕ) → taken_count attempts ≤ max 1 (n - c) → taken_count attempts ≤ n
          go c h' = omega (arith, h', ends_after.some)

  -- where the waits of a state are half of the rest, its messages get rarer by half
  pub history_halves : (script : Script Packet State Exchange) → AllByRecursion (λ stay. (end : ℕ) → Halved p stay.setting.state end → Halves (taken_count (attempts_of stay.acts)) (end - stay.setting.entered)) (history p script)
  history_halves script =
      history_has (λ setting attempts. (end : ℕ) → Halved p setting.state end → Halves (taken_count attempts) (end - setting.entered))
      (λ fuel setting entry v vs s e end halved. halves fuel setting entry v vs e end halved)
      script
    where
      halves : (fuel : ℕ) (setting : Setting State) (entry : Entry State Exchange) (v : NumberedEvent Packet) (vs : List (NumberedEvent Packet)) → setting.entered ≡ v.moment → (end : ℕ) → Halved p setting.state end →
          Halves (taken_count (attempts_of (course p fuel setting (entry_progress p setting entry v) (before (closes p setting) (v ∷ vs))).acts)) (end - setting.entered)
      halves fuel setting entry v vs e end halved =
          subst (λ (entered : ℕ). Halves (taken_count (attempts_of (course p fuel setting (entry_progress p setting entry v) (before (closes p setting) (v ∷ vs))).acts)) (end - entered)) (sym e)
          (counts_halve end v.moment (attempts_of (course p fuel setting (entry_progress p setting entry v) (before (closes p setting) (v ∷ vs))).acts)
          (course_spaced setting end halved fuel (entry_progress p setting entry v) (before (closes p setting) (v ∷ vs)) (window_before setting end halved.ends (v ∷ vs)) v.moment (entry_due setting entry v)))

  -- successive attempts of a stay are so far apart as the waits of its state
  module _ (good : Exchange → Bool) (is_kept : IsKept p good) (setting : Setting State) (distance : ℕ) (distant : Distant p good setting.state distance) where
    -- from this moment on the next attempt may stand, and then the exchange passes the test
    abbrev Next : ℕ → Progress Exchange → Type 0
    Next due progress = (now : ℕ) → has_come now (p.ending_moment setting.state) ≡ false → has_come now progress.due ≡ true → (due ≤ now) × (good progress.exchange ≡ true)

    abbrev Lasting : List (NumberedEvent Packet) → Type 0
    Lasting events = AllByRecursion (λ event. ends p setting event ≡ false) events

    lasting_from : (test : NumberedEvent Packet → Bool) (events : List (NumberedEvent Packet)) → Lasting events → Lasting (from test events)
    lasting_from test [] all = tt
    lasting_from test (v ∷ vs) all = go (lasting_from test vs all.1) (test v) refl
      where
        go : Lasting (from test vs) → (b : Bool) → test v ≡ b → Lasting (from test (v ∷ vs))
        go ih true e = rw e all
        go ih false e = rw e ih

    good_counted : (last : LastAttempt) (due : Option ℕ) (exchange : Exchange) (words : List ℕ) → good exchange ≡ true → good (exchange_after p (record { last = last; due = due; exchange = exchange; words = words })) ≡ true
    good_counted NoneYet due exchange words h = h
    good_counted Open due exchange words h = is_kept.after_wait exchange h
    good_counted Unsent due exchange words h = h

    -- a moment that is past the end stays so
    come_later : (end : Option ℕ) (soon late : ℕ) → soon ≤ late → has_come soon end ≡ true → has_come late end ≡ true
    come_later None soon late h e = e
    come_later (Some moment) soon late h e = le-leb moment late (omega (arith, h, leb-true moment soon e))

    next_far : (progress : Progress Exchange) (v : NumberedEvent Packet) → good progress.exchange ≡ true → has_come v.moment (p.ending_moment setting.state) ≡ false → Next (v.moment + distance) (progress_after p setting progress v)
    next_far progress v g lasts now open_ended come = go (distant.far (exchange_after p progress) start progress.words (good_counted progress.last progress.due progress.exchange progress.words g) lasts)
      where
        start : AttemptStart
        start = record { is_first = is_none_yet progress.last; entered = setting.entered; now = v.moment }

        waited : ℕ
        waited = (new_attempt_at p setting progress v.moment).value.wait

        over : v.moment + waited ≤ now
        over = leb-true (v.moment + waited) now come

        go : ((distance ≤ waited) × (good (new_attempt_at p setting progress v.moment).value.exchange ≡ true)) ⊎ (has_come (v.moment + waited) (p.ending_moment setting.state) ≡ true) →
            (v.moment + distance ≤ now) × (good (new_attempt_at p setting progress v.moment).value.exchange ≡ true)
        go (inl far) = (omega (arith, far.0, over), far.1)
        go (inr past) = absurd (cc (come_later (p.ending_moment setting.state) (v.moment + waited) now over past, open_ended))

    course_far : (fuel : ℕ) (progress : Progress Exchange) (events : List (NumberedEvent Packet)) → Lasting events → (due : ℕ) → Next due progress → FarApart distance due (attempts_of (course p fuel setting progress events).acts)
    course_far fuel progress events all =
        course_holds setting (λ place' events'. Lasting events') (λ place' attempts. (due : ℕ) → Next due place' → FarApart distance due attempts)
        (λ place' due next. tt)
        (λ place' words attempts h due next. h due next)
        (λ place' words events' v vs fits e. later events' v vs place' fits e)
        (λ place' events' v vs attempts fits e more words h due next. one place' events' v vs attempts fits e words h due next)
        fuel progress events all
      where
        later : (events' : List (NumberedEvent Packet)) (v : NumberedEvent Packet) (vs : List (NumberedEvent Packet)) (place' : Progress Exchange) → Lasting events' → from (is_at_or_past place'.due) events' ≡ v ∷ vs → Lasting (v ∷ vs)
        later events' v vs place' fits e = subst (λ (xs : List (NumberedEvent Packet)). Lasting xs) e (lasting_from (is_at_or_past place'.due) events' fits)

        one : (place' : Progress Exchange) (events' : List (NumberedEvent Packet)) (v : NumberedEvent Packet) (vs : List (NumberedEvent Packet)) (attempts : List (Attempt Message)) → Lasting events' → from (is_at_or_past place'.due) events' ≡ v ∷ vs →
            (words : List ℕ) → ((due : ℕ) → Next due (progress_after p setting (record place' { words = words }) v) → FarApart distance due attempts) → (due : ℕ) → Next due place' →
            FarApart distance due (attempt_at p setting (record place' { words = words }) v ∷ attempts)
        one place' events' v vs attempts fits e words h due next =
            let lasts : ends p setting v ≡ false = (later events' v vs place' fits e).0 in
            let now : (due ≤ v.moment) × (good place'.exchange ≡ true) = next v.moment lasts (from_passes (is_at_or_past place'.due) events' v vs e) in
            (now.0, h (v.moment + distance) (next_far (record place' { words = words }) v now.1 lasts))

    window_lasts : (events : List (NumberedEvent Packet)) → Lasting (before (closes p setting) events)
    window_lasts [] = tt
    window_lasts (v ∷ vs) = go (window_lasts vs) (cuts p setting v) refl (overruns p setting v) refl (ends p setting v) refl
      where
        go : Lasting (before (closes p setting) vs) → (a : Bool) → cuts p setting v ≡ a → (b : Bool) → overruns p setting v ≡ b → (c : Bool) → ends p setting v ≡ c → Lasting (before (closes p setting) (v ∷ vs))
        go ih true h b f c g = let over : closes p setting v ≡ true = rw h in rw over tt
        go ih false h true f c g = let over : closes p setting v ≡ true = rw (h, f) in rw over tt
        go ih false h false f true g = let over : closes p setting v ≡ true = rw (h, f, g) in rw over tt
        go ih false h false f false g = let lasts : closes p setting v ≡ false = rw (h, f, g) in rw lasts (g, ih)

  module _ (good : Exchange → Bool) (is_kept : IsKept p good) where
    abbrev GoodFirst : Transition Packet Message State Exchange → Type 0
    GoodFirst next = (next.events ≡ []) ⊎ (good next.entry.exchange ≡ true)

    turn_good : (setting : Setting State) (finish : Finish Packet Exchange Answer) (late : List (NumberedEvent Packet)) → GoodFirst (transition p setting finish late)
    turn_good setting finish late = go finish.outcome late
      where
        by_end : (events : List (NumberedEvent Packet)) → GoodFirst (end_at p setting finish events)
        by_end [] = inl refl
        by_end (v ∷ vs) = inr (is_kept.ended setting.state finish.after_wait)

        by_cut : (events : List (NumberedEvent Packet)) → GoodFirst (cut p setting finish events)
        by_cut [] = inl refl
        by_cut (v ∷ vs) = inr (is_kept.cleaned finish.exchange)

        by_close : (v : NumberedEvent Packet) (vs : List (NumberedEvent Packet)) (cuts over : Bool) → GoodFirst (close p cuts over setting finish v vs)
        by_close v vs true over = by_cut (v ∷ vs)
        by_close v vs false true = by_cut (from (cuts p setting) (v ∷ vs))
        by_close v vs false false = by_end (v ∷ vs)

        go : (outcome : Outcome Answer) (late : List (NumberedEvent Packet)) → GoodFirst (transition_by p outcome setting finish late)
        go (AnsweredBy answer) late = inr (is_kept.answered setting.state answer (moment_of (finish.rest ++ late)) finish.exchange)
        go RanOut late = by_end (finish.rest ++ late)
        go Unanswered [] = inl refl
        go Unanswered (v ∷ vs) = by_close v vs (cuts p setting v) (overruns p setting v)

    entry_next : (setting : Setting State) (distance : ℕ) (distant : Distant p good setting.state distance) (entry : Entry State Exchange) (v : NumberedEvent Packet) → good entry.exchange ≡ true →
        Next good is_kept setting distance distant v.moment (entry_progress p setting entry v)
    entry_next setting distance distant entry v g now open_ended come = (entry_due setting entry v now come, go (cuts p setting v) refl)
      where
        go : (b : Bool) → cuts p setting v ≡ b → good (entry_progress p setting entry v).exchange ≡ true
        go true e = rw e g
        go false e = rw e g

    stays_far : (fuel timeout_sec : ℕ) (entry : Entry State Exchange) (events : List (NumberedEvent Packet)) → (events ≡ []) ⊎ (good entry.exchange ≡ true) → AllByRecursion (IsDistant p good) (stays p fuel timeout_sec entry events)
    stays_far fuel timeout_sec entry [] g = tt
    stays_far zero timeout_sec entry (v ∷ vs) g = tt
    stays_far (suc fuel) timeout_sec entry (v ∷ vs) (inl none) = absurd (cc none)
    stays_far (suc fuel) timeout_sec entry (v ∷ vs) (inr g) =
        let setting : Setting State = setting_at timeout_sec entry v.moment in
        let progress : Progress Exchange = entry_progress p setting entry v in
        let run : Course Packet Message Exchange Answer = course p (suc (length (v ∷ vs))) setting progress (before (closes p setting) (v ∷ vs)) in
        let next : Transition Packet Message State Exchange = transition p setting run.finish (from (closes p setting) (v ∷ vs)) in
        let same : attempts_of (run.acts ++ next.acts) ≡ attempts_of run.acts =
        attempts-append run.acts next.acts ∙ (ap (λ (more : List (Attempt Message)). attempts_of run.acts ++ more) (none_turned setting run.finish (from (closes p setting) (v ∷ vs))) ∙ append-nil (attempts_of run.acts)) in (
          (λ distance distant. subst (λ (attempts : List (Attempt Message)). FarApart distance v.moment attempts) (sym same)
              (course_far good is_kept setting distance distant (suc (length (v ∷ vs))) progress (before (closes p setting) (v ∷ vs)) (window_lasts good is_kept setting distance distant (v ∷ vs)) v.moment
              (entry_next setting distance distant entry v g))),
          stays_far fuel timeout_sec next.entry next.events (turn_good setting run.finish (from (closes p setting) (v ∷ vs))),
        )

    pub history_far : (script : Script Packet State Exchange) → good script.exchange ≡ true → AllByRecursion (IsDistant p good) (history p script)
    history_far script g = stays_far (8 * (length script.events + 1)) script.timeout_sec (record { state = script.state; exchange = script.exchange; words = script.words }) script.events (inr g)

  -- and so are the messages that the link took
  far_sooner : (distance least more : ℕ) (attempts : List (Attempt Message)) → least ≤ more → FarApart distance more attempts → FarApart distance least attempts
  far_sooner distance least more [] h far = tt
  far_sooner distance least more (attempt ∷ attempts) h far = (omega (arith, h, far.0), far.1)

  taken_far : (distance due : ℕ) (attempts : List (Attempt Message)) → FarApart distance due attempts → FarApart distance due (taken_of attempts)
  taken_far distance due [] far = tt
  taken_far distance due (attempt ∷ attempts) far = go attempt.refused (taken_far distance (attempt.moment + distance) attempts far.1)
    where
      go : (refused : Bool) → FarApart distance (attempt.moment + distance) (taken_of attempts) → FarApart distance due (with_taken refused attempt (taken_of attempts))
      go true later = far_sooner distance due (attempt.moment + distance) (taken_of attempts) (omega (arith, far.0)) later
      go false later = (far.0, later)

  taken_stays : (good : Exchange → Bool) (stays' : List (Stay State Message)) → AllByRecursion (IsDistant p good) stays' → AllByRecursion (IsTakenDistant p good) stays'
  taken_stays good [] all = tt
  taken_stays good (stay ∷ more) all = ((λ distance distant. taken_far distance stay.setting.entered (attempts_of stay.acts) (all.0 distance distant)), taken_stays good more all.1)

  pub history_taken_far : (good : Exchange → Bool) → IsKept p good → (script : Script Packet State Exchange) → good script.exchange ≡ true → AllByRecursion (IsTakenDistant p good) (history p script)
  history_taken_far good is_kept script g = taken_stays good (history p script) (history_far good is_kept script g)
