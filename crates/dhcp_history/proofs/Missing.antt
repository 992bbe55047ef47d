-- That no packet which answers is missed: an event is followed through the stays of a history.
use Rattle.std.proofs.Common.{subst, ◌≡◌, ℕ, suc, zero, ◌+◌, ◌*◌, ◌≤◌, ◌<◌, List, [], ◌∷◌, ◌++◌, length, refl, ap, Bool, true, false, arith, ◌∙◌, sym, append-nil, ◌⊎◌, inl, inr}
use Rattle.std.specs.Prelude.{Option, Some, None, ◌||◌, ◌==◌, nat_le, slice_index_or}
use Rattle.std.specs.List.{AllByRecursion, Contains}
use Rattle.std.proofs.lemmas.Bool.{leb-true, le-leb}
use Rattle.std.proofs.lemmas.List.Elements.{All-from_recursion, recursion_from_All}
use Rattle.dhcp_clock.specs.Words.{Drawn}
use Rattle.dhcp_history.specs.Protocol.{Protocol, Lawful, has_come}
use Rattle.dhcp_history.specs.declared.script.NumberedEvent.{NumberedEvent}
use Rattle.dhcp_history.specs.declared.script.Input.{Input}
use Rattle.dhcp_history.specs.declared.script.Input.TheVariants.{Nothing, Arrival, Release, CleanUp}
use Rattle.dhcp_history.specs.Script.{Script, after_call}
use Rattle.dhcp_history.specs.History.{Attempt, Attempted, Course, Entry, Finish, Heard, Outcome, AnsweredBy, RanOut, Unanswered, Progress, Setting, Stay, Transition, after_packet, attempt_at, attempt_or_end, before, closes, course, cut, cuts, end_at, ends, entry_progress, exchange_after, from, hear, history, is_at_or_past, is_none_yet, is_open, last_by, limit_moment, next_attempt, number_of, overruns, progress_after, reading_of, refused_release, runs_out, setting_at, stays, transition, transition_by}
use Rattle.dhcp_history.specs.Bounds.{attempts_of}
use Rattle.dhcp_history.proofs.Attempts.{attempts-append, course_holds, none_denied, none_heard, none_turned}
use Rattle.dhcp_history.proofs.Steps.{before-from, before_hit, before_miss, from_hit, from_miss}
use Rattle.dhcp_history.proofs.Stays.{from_passes}
use Rattle.dhcp_history.proofs.Remaining.{course_rest, from_holds, turn_holds}
use Rattle.dhcp_history.specs.Points.{HearsNoAnswer, IsAttemptIn, IsNoAnswer, LastsPast, MissesNoAnswer, Rises, is_answered_at}

true_false : {A : Type 0} (b : Bool) → b ≡ true → b ≡ false → A
true_false b e f = absurd cc

own_number : (n : ℕ) → (n == n) ≡ true
own_number n = grind arith

head_of : {A : Type 0} (x y : A) (xs ys : List A) → x ∷ xs ≡ y ∷ ys → x ≡ y
head_of x y xs ys h = cc

tail_of : {A : Type 0} (x y : A) (xs ys : List A) → x ∷ xs ≡ y ∷ ys → xs ≡ ys
tail_of x y xs ys h = cc

-- what holds of all of a list holds of one among them
one_of : {A : Type 0} (P : A → Type 0) (xs : List A) (x : A) (ys : List A) → AllByRecursion P (xs ++ x ∷ ys) → P x
one_of P [] x ys all = all.0
one_of P (z ∷ xs) x ys all = one_of P xs x ys all.1

come_later : (earlier later : ℕ) (moment : Option ℕ) → earlier ≤ later → has_come earlier moment ≡ true → has_come later moment ≡ true
come_later earlier later None le h = absurd (cc h)
come_later earlier later (Some moment) le h =
    let come : moment ≤ earlier = leb-true moment earlier h in
    le-leb moment later (omega (arith, come, le))

-- 1. An event that is followed, and the events that are left.

module _ {Packet : Type 0} (e : NumberedEvent Packet) (packet : Packet) (brings : e.input ≡ Arrival packet) where
  -- all of these events come after it
  abbrev pub Past : List (NumberedEvent Packet) → Type 0
  Past events = AllByRecursion (λ (event : NumberedEvent Packet). e.number < event.number) events

  -- it is among these events, behind those before it
  abbrev pub Ahead : List (NumberedEvent Packet) → Type 0
  Ahead [] = ⊥
  Ahead (v ∷ vs) = ((v ≡ e) × Past vs) ⊎ ((v.number < e.number) × (v.moment ≤ e.moment) × Ahead vs)

  abbrev pub Stands : List (NumberedEvent Packet) → Type 0
  Stands events = Ahead events ⊎ Past events

  called : (v : NumberedEvent Packet) → v ≡ e → after_call v ≡ e
  called v same = ap (λ (x : NumberedEvent Packet). after_call x) same ∙ go e.input refl brings
    where
      go : (input : Input Packet) → e.input ≡ input → input ≡ Arrival packet → after_call e ≡ e
      go (Arrival other) is same = rw is refl
      go Nothing is same = absurd cc
      go Release is same = absurd cc
      go CleanUp is same = absurd cc

  stands_tail : (v : NumberedEvent Packet) (vs : List (NumberedEvent Packet)) → Stands (v ∷ vs) → Stands vs
  stands_tail v vs (inl (inl here)) = inr here.1
  stands_tail v vs (inl (inr later)) = inl later.2
  stands_tail v vs (inr past) = inr past.1

  ahead_called : (v : NumberedEvent Packet) (vs : List (NumberedEvent Packet)) → Ahead (v ∷ vs) → Ahead (after_call v ∷ vs)
  ahead_called v vs (inl here) = inl (called v here.0, here.1)
  ahead_called v vs (inr later) = inr later

  stands_called : (v : NumberedEvent Packet) (vs : List (NumberedEvent Packet)) → Stands (v ∷ vs) → Stands (after_call v ∷ vs)
  stands_called v vs (inl ahead) = inl (ahead_called v vs ahead)
  stands_called v vs (inr past) = inr past

  -- events that rise stand so, if it is among them
  rises_past : (number moment : ℕ) (events : List (NumberedEvent Packet)) → e.number ≤ number → Rises number moment events → Past events
  rises_past number moment [] le rises = tt
  rises_past number moment (v ∷ vs) le rises = (omega (arith, le, rises.0), rises_past v.number v.moment vs (omega (arith, le, rises.0)) rises.2)

  rises_bound : (number moment k : ℕ) (events : List (NumberedEvent Packet)) → Rises number moment events → k < length events → slice_index_or events k e ≡ e → (number < e.number) × (moment ≤ e.moment)
  rises_bound number moment k [] rises lt is = absurd (omega (arith, lt))
  rises_bound number moment zero (v ∷ vs) rises lt is = (subst (λ (x : NumberedEvent Packet). number < x.number) is rises.0, subst (λ (x : NumberedEvent Packet). moment ≤ x.moment) is rises.1)
  rises_bound number moment (suc k) (v ∷ vs) rises lt is =
      let more : (v.number < e.number) × (v.moment ≤ e.moment) = rises_bound v.number v.moment k vs rises.2 (omega (arith, lt)) is in
      (omega (arith, rises.0, more.0), omega (arith, rises.1, more.1))

  rises_ahead : (number moment k : ℕ) (events : List (NumberedEvent Packet)) → Rises number moment events → k < length events → slice_index_or events k e ≡ e → Ahead events
  rises_ahead number moment k [] rises lt is = absurd (omega (arith, lt))
  rises_ahead number moment zero (v ∷ vs) rises lt is = inl (is, rises_past v.number v.moment vs (subst (λ (x : NumberedEvent Packet). e.number ≤ x.number) (sym is) (omega arith)) rises.2)
  rises_ahead number moment (suc k) (v ∷ vs) rises lt is =
      let more : (v.number < e.number) × (v.moment ≤ e.moment) = rises_bound v.number v.moment k vs rises.2 (omega (arith, lt)) is in
      inr (more.0, more.1, rises_ahead v.number v.moment k vs rises.2 (omega (arith, lt)) is)

  pub among_stands : (events : List (NumberedEvent Packet)) → Rises 0 0 events → Contains events e → Stands events
  among_stands events rises among = inl (rises_ahead 0 0 among.0 events rises among.1 among.2)

  past_before : (test : NumberedEvent Packet → Bool) (events : List (NumberedEvent Packet)) → Past events → Past (before test events)
  past_before test [] past = tt
  past_before test (v ∷ vs) past = go (test v) refl (past_before test vs past.1)
    where
      go : (b : Bool) → test v ≡ b → Past (before test vs) → Past (before test (v ∷ vs))
      go true h ih = rw (before_hit test v vs h) tt
      go false h ih = rw (before_miss test v vs h) (past.0, ih)

  past_late : (ws late : List (NumberedEvent Packet)) → Past (ws ++ late) → Past late
  past_late [] late past = past
  past_late (v ∷ vs) late past = past_late vs late past.1

  past_from : (test : NumberedEvent Packet → Bool) (events : List (NumberedEvent Packet)) → Past events → Past (from test events)
  past_from test events past = past_late (before test events) (from test events) (subst Past (sym (before-from test events)) past)

  -- it is before the first event that passes a test which it does not pass, nor any event before it
  ahead_before : (test : NumberedEvent Packet → Bool) → ((v : NumberedEvent Packet) → v.moment ≤ e.moment → test v ≡ true → test e ≡ true) → test e ≡ false → (events : List (NumberedEvent Packet)) → Ahead events → Ahead (before test events)
  ahead_before test up fails [] ahead = ahead
  ahead_before test up fails (v ∷ vs) ahead = go (test v) refl ahead (λ h. ahead_before test up fails vs h)
    where
      go : (b : Bool) → test v ≡ b → Ahead (v ∷ vs) → (Ahead vs → Ahead (before test vs)) → Ahead (before test (v ∷ vs))
      go true h (inl here) ih = true_false (test e) (subst (λ (x : NumberedEvent Packet). test x ≡ true) here.0 h) fails
      go true h (inr later) ih = true_false (test e) (up v later.1 h) fails
      go false h (inl here) ih = rw (before_miss test v vs h) (inl (here.0, past_before test vs here.1))
      go false h (inr later) ih = rw (before_miss test v vs h) (inr (later.0, later.1, ih later.2))

  -- it is before the first event that passes a test which it does not pass, or that event is before it
  record After (test : NumberedEvent Packet → Bool) (events : List (NumberedEvent Packet)) : Type 0 where
    first : NumberedEvent Packet
    rest : List (NumberedEvent Packet)
    is : from test events ≡ first ∷ rest
    number : first.number < e.number
    moment : first.moment ≤ e.moment

  ahead_split : (test : NumberedEvent Packet → Bool) → test e ≡ false → (events : List (NumberedEvent Packet)) → Ahead events → Ahead (before test events) ⊎ After test events
  ahead_split test fails [] ahead = absurd ahead
  ahead_split test fails (v ∷ vs) ahead = go (test v) refl ahead (λ h. ahead_split test fails vs h)
    where
      by_rest : test v ≡ false → (v.number < e.number) × (v.moment ≤ e.moment) → Ahead (before test vs) ⊎ After test vs → Ahead (before test (v ∷ vs)) ⊎ After test (v ∷ vs)
      by_rest h bounds (inl there) = inl (rw (before_miss test v vs h) (inr (bounds.0, bounds.1, there)))
      by_rest h bounds (inr found) = inr (record { first = found.first; rest = found.rest; is = from_miss test v vs h ∙ found.is; number = found.number; moment = found.moment })

      go : (b : Bool) → test v ≡ b → Ahead (v ∷ vs) → (Ahead vs → Ahead (before test vs) ⊎ After test vs) → Ahead (before test (v ∷ vs)) ⊎ After test (v ∷ vs)
      go true h (inl here) ih = true_false (test e) (subst (λ (x : NumberedEvent Packet). test x ≡ true) here.0 h) fails
      go true h (inr later) ih = inr (record { first = v; rest = vs; is = from_hit test v vs h; number = later.0; moment = later.1 })
      go false h (inl here) ih = inl (rw (before_miss test v vs h) (inl (here.0, past_before test vs here.1)))
      go false h (inr later) ih = by_rest h (later.0, later.1) (ih later.2)

  -- the first event of a list in which it stands ahead has no greater number
  first_number : (v : NumberedEvent Packet) (vs : List (NumberedEvent Packet)) → Ahead (v ∷ vs) → v.number ≤ e.number
  first_number v vs (inl here) = subst (λ (x : NumberedEvent Packet). v.number ≤ x.number) here.0 (omega arith)
  first_number v vs (inr later) = omega (arith, later.0)

-- 2. What is heard.

module _ {PublicState Packet Message State Exchange Answer Lease : Type 0} (p : Protocol PublicState Packet Message State Exchange Answer Lease) (e : NumberedEvent Packet) (packet : Packet) (brings : e.input ≡ Arrival packet) where
  stands_from : (test : NumberedEvent Packet → Bool) (events : List (NumberedEvent Packet)) → Stands e packet brings events → Stands e packet brings (from test events)
  stands_from = from_holds (Stands e packet brings) (stands_tail e packet brings) (stands_called e packet brings)

  -- with these words the packet is read as no answer
  abbrev Unread : State → Exchange → Type 0
  Unread state exchange = (words : List ℕ) × ((p.reading state exchange packet words).value ≡ None)

  -- an answer at the event, or at one before it
  record Early (heard : Heard Packet Message Answer) : Type 0 where
    answer : Answer
    is : heard.answer ≡ Some answer
    first : NumberedEvent Packet
    later : List (NumberedEvent Packet)
    rest : heard.rest ≡ first ∷ later
    by : first.number ≤ e.number

  hears : (setting : Setting State) (exchange : Exchange) (words : List ℕ) (events : List (NumberedEvent Packet)) → Ahead e packet brings events → Unread setting.state exchange ⊎ Early (hear p setting exchange true words events)
  hears setting exchange words [] ahead = absurd ahead
  hears setting exchange words (v ∷ vs) ahead = go read.value refl ahead (λ h. hears setting exchange read.left vs h)
    where
      read : Drawn (Option Answer)
      read = reading_of p setting.state exchange words v.input

      go : (answer : Option Answer) → read.value ≡ answer → Ahead e packet brings (v ∷ vs) → (Ahead e packet brings vs → Unread setting.state exchange ⊎ Early (hear p setting exchange true read.left vs)) →
          Unread setting.state exchange ⊎ Early (hear p setting exchange true words (v ∷ vs))
      go (Some answer) is ahead' ih = inr (record { answer = answer; is = rw is refl; first = v; later = vs; rest = rw is refl; by = first_number e packet brings v vs ahead' })
      go None is (inl here) ih = inl (words, subst (λ (input : Input Packet). (reading_of p setting.state exchange words input).value ≡ None) (ap (λ (x : NumberedEvent Packet). x.input) here.0 ∙ brings) is)
      go None is (inr later) ih = by_rest (ih later.2)
        where
          by_rest : Unread setting.state exchange ⊎ Early (hear p setting exchange true read.left vs) → Unread setting.state exchange ⊎ Early (hear p setting exchange true words (v ∷ vs))
          by_rest (inl unread) = inl unread
          by_rest (inr early) = inr (record { answer = early.answer; is = rw is early.is; first = early.first; later = early.later; rest = rw is early.rest; by = early.by })

  -- the first of these events, if there is one, comes after it
  abbrev FirstPast : List (NumberedEvent Packet) → Type 0
  FirstPast [] = Unit {0}
  FirstPast (v ∷ vs) = e.number < v.number

  -- the stay lasts beyond it, as its attempts end
  abbrev EndsPast : Outcome Answer → List (NumberedEvent Packet) → Type 0
  EndsPast Unanswered events = Unit {0}
  EndsPast (AnsweredBy answer) events = FirstPast events
  EndsPast RanOut events = FirstPast events

  -- the attempts that are made at events which come after it
  abbrev Later : List (Attempt Message) → Type 0
  Later attempts = AllByRecursion (λ (attempt : Attempt Message). e.number < attempt.event) attempts

  -- while the last attempt is open, its packet is read, if it comes before the next one is due
  hears_last : (fuel : ℕ) (setting : Setting State) (progress : Progress Exchange) (events late : List (NumberedEvent Packet)) (due : ℕ) → is_open progress.last ≡ true → progress.due ≡ Some due → e.moment < due → Ahead e packet brings events →
      EndsPast (course p (suc fuel) setting progress events).finish.outcome ((course p (suc fuel) setting progress events).finish.rest ++ late) → Unread setting.state progress.exchange
  hears_last fuel setting progress events late due listens is_due in_time ahead past =
      by_heard (subst (λ (b : Bool). Unread setting.state progress.exchange ⊎ Early (hear p setting progress.exchange b progress.words (before (is_at_or_past progress.due) events))) (sym listens)
      (hears setting progress.exchange progress.words (before (is_at_or_past progress.due) events)
      (ahead_before e packet brings (is_at_or_past progress.due) (λ v le h. come_later v.moment e.moment progress.due le h) early events ahead)))
    where
      early : is_at_or_past progress.due e ≡ false
      early = go (nat_le due e.moment) refl
        where
          go : (b : Bool) → nat_le due e.moment ≡ b → is_at_or_past progress.due e ≡ false
          go false h = rw is_due h
          go true h = let le : due ≤ e.moment = leb-true due e.moment h in absurd (omega (arith, le, in_time))

      last : Heard Packet Message Answer
      last = hear p setting progress.exchange (is_open progress.last) progress.words (before (is_at_or_past progress.due) events)

      by_heard : Unread setting.state progress.exchange ⊎ Early last → Unread setting.state progress.exchange
      by_heard (inl unread) = unread
      by_heard (inr found) = absurd (omega (arith, found.by, too_late (rw found.is at past)))
        where
          too_late : FirstPast ((last.rest ++ from (is_at_or_past progress.due) events) ++ late) → e.number < found.first.number
          too_late h = rw found.rest at h

  hears_next : (fuel : ℕ) (setting : Setting State) (progress : Progress Exchange) (events late : List (NumberedEvent Packet)) (due : ℕ) → 0 < fuel → is_open progress.last ≡ true → progress.due ≡ Some due → e.moment < due → Ahead e packet brings events →
      EndsPast (course p fuel setting progress events).finish.outcome ((course p fuel setting progress events).finish.rest ++ late) → Unread setting.state progress.exchange
  hears_next zero setting progress events late due enough = absurd (omega (arith, enough))
  hears_next (suc fuel) setting progress events late due enough = hears_last fuel setting progress events late due

  -- the attempts of a stay whose events come after it are made after it
  attempts_later : (setting : Setting State) (fuel : ℕ) (progress : Progress Exchange) (events : List (NumberedEvent Packet)) → Past e packet brings events → Later (attempts_of (course p fuel setting progress events).acts)
  attempts_later setting fuel progress events past =
      course_holds p setting (λ place' events'. Past e packet brings events') (λ place' attempts. Later attempts)
      (λ place'. tt)
      (λ place' words attempts h. h)
      (λ place' words events' v vs fits is. subst (λ (xs : List (NumberedEvent Packet)). Past e packet brings xs) is (past_from e packet brings (is_at_or_past place'.due) events' fits))
      (λ place' events' v vs attempts fits is more words h. ((subst (λ (xs : List (NumberedEvent Packet)). Past e packet brings xs) is (past_from e packet brings (is_at_or_past place'.due) events' fits)).0, h))
      fuel progress events past

  no_attempt : {A : Type 0} (xs : List (Attempt Message)) (x : Attempt Message) (ys : List (Attempt Message)) → [] ≡ xs ++ x ∷ ys → A
  no_attempt [] x ys h = absurd cc
  no_attempt (z ∷ xs) x ys h = absurd cc

  -- Of an attempt of these that is open at it: its packet is read as no answer.
  abbrev Unanswering : Setting State → Course Packet Message Exchange Answer → List (NumberedEvent Packet) → Type 0
  Unanswering setting run late = (earlier later : List (Attempt Message)) (attempt : Attempt Message) →
      attempts_of run.acts ≡ earlier ++ attempt ∷ later → attempt.event ≤ e.number → attempt.refused ≡ false → e.moment < attempt.moment + attempt.wait →
      EndsPast run.finish.outcome (run.finish.rest ++ late) → IsNoAnswer p packet setting.state attempt

  module _ (lawful : Lawful p) (setting : Setting State) where
    -- no event of a window is past the end of the state
    abbrev Within : List (NumberedEvent Packet) → Type 0
    Within events = AllByRecursion (λ (event : NumberedEvent Packet). ends p setting event ≡ false) events

    within_from : (test : NumberedEvent Packet → Bool) (events : List (NumberedEvent Packet)) → Within events → Within (from test events)
    within_from test [] all = tt
    within_from test (v ∷ vs) all = go (test v) refl (within_from test vs all.1)
      where
        go : (b : Bool) → test v ≡ b → Within (from test vs) → Within (from test (v ∷ vs))
        go true h ih = rw (from_hit test v vs h) all
        go false h ih = rw (from_miss test v vs h) ih

    fewer : (test : NumberedEvent Packet → Bool) (events : List (NumberedEvent Packet)) → length (from test events) ≤ length events
    fewer test [] = omega arith
    fewer test (v ∷ vs) = go (test v) refl (fewer test vs)
      where
        go : (b : Bool) → test v ≡ b → length (from test vs) ≤ length vs → length (from test (v ∷ vs)) ≤ length (v ∷ vs)
        go true h ih = rw (from_hit test v vs h) (omega arith)
        go false h ih = rw (from_miss test v vs h) (omega (arith, ih))

    -- after an attempt at an event that event is not due again
    fewer_due : (progress : Progress Exchange) (v : NumberedEvent Packet) (vs : List (NumberedEvent Packet)) → ends p setting v ≡ false →
        length (from (is_at_or_past (progress_after p setting progress v).due) (after_call v ∷ vs)) ≤ length vs
    fewer_due progress v vs lasts =
        let waits : 0 < (progress_wait) = lawful.wait_positive setting.state (exchange_after p progress) (record { is_first = is_none_yet progress.last; entered = setting.entered; now = v.moment }) progress.words lasts in
        go (nat_le (v.moment + progress_wait) v.moment) refl waits
      where
        progress_wait : ℕ
        progress_wait = (p.attempt setting.state (exchange_after p progress) (record { is_first = is_none_yet progress.last; entered = setting.entered; now = v.moment }) progress.words).value.wait

        go : (b : Bool) → nat_le (v.moment + progress_wait) v.moment ≡ b → 0 < progress_wait → length (from (is_at_or_past (progress_after p setting progress v).due) (after_call v ∷ vs)) ≤ length vs
        go true h waits = let le : v.moment + progress_wait ≤ v.moment = leb-true (v.moment + progress_wait) v.moment h in absurd (omega (arith, le, waits))
        go false h waits = rw (from_miss (is_at_or_past (progress_after p setting progress v).due) (after_call v) vs h) (fewer (is_at_or_past (progress_after p setting progress v).due) vs)

    course_unanswering : (fuel : ℕ) (progress : Progress Exchange) (events late : List (NumberedEvent Packet)) → length (from (is_at_or_past progress.due) events) < fuel → Within events → Ahead e packet brings events →
        Unanswering setting (course p fuel setting progress events) late
    course_unanswering zero progress events late enough within ahead = absurd (omega (arith, enough))
    course_unanswering (suc fuel) progress events late enough within ahead =
        go last.answer (from (is_at_or_past progress.due) events) refl (λ next v vs. course_unanswering fuel next (v ∷ vs) late)
      where
        last : Heard Packet Message Answer
        last = hear p setting progress.exchange (is_open progress.last) progress.words (before (is_at_or_past progress.due) events)

        now : Progress Exchange
        now = record progress { words = last.words }

        quiet : attempts_of last.acts ≡ []
        quiet = none_heard p setting progress.exchange (is_open progress.last) progress.words (before (is_at_or_past progress.due) events)

        by_end : (b : Bool) (v : NumberedEvent Packet) (vs : List (NumberedEvent Packet)) → from (is_at_or_past progress.due) events ≡ v ∷ vs →
            ((next : Progress Exchange) (x : NumberedEvent Packet) (xs : List (NumberedEvent Packet)) → length (from (is_at_or_past next.due) (x ∷ xs)) < fuel → Within (x ∷ xs) → Ahead e packet brings (x ∷ xs) → Unanswering setting (course p fuel setting next (x ∷ xs)) late) →
            Unanswering setting (attempt_or_end p b (course p fuel setting) setting now last.acts v vs) late
        by_end true v vs is ih earlier later attempt split by taken awaited past =
            no_attempt earlier attempt later (sym (attempts-append last.acts (refused_release p setting progress.exchange v) ∙ rw (quiet, none_denied p setting progress.exchange v) refl) ∙ split)
        by_end false v vs is ih earlier later attempt split by taken awaited past = by_place earlier (sym all ∙ split) there
          where
            next : Progress Exchange
            next = progress_after p setting now v

            run : Course Packet Message Exchange Answer
            run = course p fuel setting next (after_call v ∷ vs)

            all : attempts_of (last.acts ++ (refused_release p setting progress.exchange v ++ Attempted (attempt_at p setting now v) ∷ []) ++ run.acts) ≡ attempt_at p setting now v ∷ attempts_of run.acts
            all = rw (
              attempts-append (last.acts ++ (refused_release p setting progress.exchange v ++ Attempted (attempt_at p setting now v) ∷ [])) run.acts,
              attempts-append last.acts (refused_release p setting progress.exchange v ++ Attempted (attempt_at p setting now v) ∷ []),
              quiet,
              attempts-append (refused_release p setting progress.exchange v) (Attempted (attempt_at p setting now v) ∷ []),
              none_denied p setting progress.exchange v,
            ) refl

            there : Stands e packet brings (v ∷ vs)
            there = subst (λ (xs : List (NumberedEvent Packet)). Stands e packet brings xs) is (stands_from (is_at_or_past progress.due) events (inl ahead))

            inside : Within (v ∷ vs)
            inside = subst (λ (xs : List (NumberedEvent Packet)). Within xs) is (within_from (is_at_or_past progress.due) events within)

            few : length (from (is_at_or_past next.due) (after_call v ∷ vs)) < fuel
            few =
                let less : length (from (is_at_or_past next.due) (after_call v ∷ vs)) ≤ length vs = fewer_due now v vs inside.0 in
                let was : length (v ∷ vs) < suc fuel = subst (λ (xs : List (NumberedEvent Packet)). length xs < suc fuel) is enough in
                omega (arith, less, was)

            first : attempt_at p setting now v ≡ attempt → Ahead e packet brings (v ∷ vs) → IsNoAnswer p packet setting.state attempt
            first same here = record {
              exchange = next.exchange;
              own = subst (λ (a : Attempt Message). IsAttemptIn p setting.state a next.exchange) same (record {
                before = exchange_after p now;
                start = record { is_first = is_none_yet now.last; entered = setting.entered; now = v.moment };
                words = now.words;
                at_its_moment = refl;
                made = refl;
              });
              words = unread.0;
              reads = unread.1;
            }
              where
                refused : v.refuse ≡ false
                refused = ap (λ (a : Attempt Message). a.refused) same ∙ taken

                unread : Unread setting.state next.exchange
                unread = hears_next fuel setting next (after_call v ∷ vs) late (v.moment + (attempt_at p setting now v).wait) (omega (arith, few)) (ap (λ (b : Bool). is_open (last_by b)) refused) refl
                    (subst (λ (a : Attempt Message). e.moment < a.moment + a.wait) (sym same) awaited) (ahead_called e packet brings v vs here) past

            by_place : (xs : List (Attempt Message)) → attempt_at p setting now v ∷ attempts_of run.acts ≡ xs ++ attempt ∷ later → Stands e packet brings (v ∷ vs) → IsNoAnswer p packet setting.state attempt
            by_place [] h (inl here) = first (head_of (attempt_at p setting now v) attempt (attempts_of run.acts) later h) here
            by_place [] h (inr gone) =
                let same : v.number ≡ attempt.event = ap (λ (a : Attempt Message). a.event) (head_of (attempt_at p setting now v) attempt (attempts_of run.acts) later h) in
                absurd (omega (arith, gone.0, by, same))
            by_place (x ∷ xs) h (inl here) =
                ih next (after_call v) vs few inside (ahead_called e packet brings v vs here) xs later attempt (tail_of (attempt_at p setting now v) x (attempts_of run.acts) (xs ++ attempt ∷ later) h) by taken awaited past
            by_place (x ∷ xs) h (inr gone) =
                let more : e.number < attempt.event = one_of (λ (a : Attempt Message). e.number < a.event) xs attempt later
                (subst Later (tail_of (attempt_at p setting now v) x (attempts_of run.acts) (xs ++ attempt ∷ later) h) (attempts_later setting fuel next (after_call v ∷ vs) gone)) in
                absurd (omega (arith, more, by))

        go : (answer : Option Answer) (xs : List (NumberedEvent Packet)) → from (is_at_or_past progress.due) events ≡ xs →
            ((next : Progress Exchange) (x : NumberedEvent Packet) (xs : List (NumberedEvent Packet)) → length (from (is_at_or_past next.due) (x ∷ xs)) < fuel → Within (x ∷ xs) → Ahead e packet brings (x ∷ xs) → Unanswering setting (course p fuel setting next (x ∷ xs)) late) →
            Unanswering setting (next_attempt p (course p fuel setting) setting now answer last xs) late
        go (Some answer) xs is ih earlier later attempt split by taken awaited past = no_attempt earlier attempt later (sym quiet ∙ split)
        go None [] is ih earlier later attempt split by taken awaited past = no_attempt earlier attempt later (sym quiet ∙ split)
        go None (v ∷ vs) is ih earlier later attempt split by taken awaited past = by_end (runs_out p setting now) v vs is ih earlier later attempt split by taken awaited past

  -- 3. What is left of the events after a stay.

  -- the stay lasts beyond the event if it closes after it
  ends_past : (setting : Setting State) (finish : Finish Packet Exchange Answer) (late : List (NumberedEvent Packet)) → LastsPast e.number (transition p setting finish late).closing → EndsPast finish.outcome (finish.rest ++ late)
  ends_past setting finish late lasts = go finish.outcome lasts
    where
      answered : (events : List (NumberedEvent Packet)) → e.number < number_of events → FirstPast events
      answered [] h = tt
      answered (v ∷ vs) h = h

      ended : (events : List (NumberedEvent Packet)) → LastsPast e.number (end_at p setting finish events).closing → FirstPast events
      ended [] h = tt
      ended (v ∷ vs) h = h

      go : (outcome : Outcome Answer) → LastsPast e.number (transition_by p outcome setting finish late).closing → EndsPast outcome (finish.rest ++ late)
      go Unanswered h = tt
      go (AnsweredBy answer) h = answered (finish.rest ++ late) h
      go RanOut h = ended (finish.rest ++ late) h

  -- what is left for the next stay
  turn_stands : (setting : Setting State) (finish : Finish Packet Exchange Answer) (late : List (NumberedEvent Packet)) → Stands e packet brings (finish.rest ++ late) → Stands e packet brings late →
      is_answered_at e.number (transition p setting finish late).closing ≡ false → Stands e packet brings (transition p setting finish late).events
  turn_stands setting finish late all there unanswered =
      turn_holds (Stands e packet brings) (stands_tail e packet brings) (stands_called e packet brings) p setting finish late (inr tt) all there (λ answer is stands. used (finish.rest ++ late) (other answer is) stands)
    where
      used : (events : List (NumberedEvent Packet)) → (number_of events == e.number) ≡ false → Stands e packet brings events → Stands e packet brings (after_packet events)
      used [] other stands = inr tt
      used (v ∷ vs) other (inl (inl here)) = true_false (v.number == e.number) (subst (λ (x : NumberedEvent Packet). (v.number == x.number) ≡ true) here.0 (own_number v.number)) other
      used (v ∷ vs) other (inl (inr later)) = inl (inr later)
      used (v ∷ vs) other (inr past) = inr past

      other : (answer : Answer) → finish.outcome ≡ AnsweredBy answer → (number_of (finish.rest ++ late) == e.number) ≡ false
      other answer is = by_outcome (rw is at unanswered)
        where
          by_outcome : is_answered_at e.number (transition_by p (AnsweredBy answer) setting finish late).closing ≡ false → (number_of (finish.rest ++ late) == e.number) ≡ false
          by_outcome h = h

  -- a stay that is cut, answered or ended at an event before it does not last beyond it
  cut_before : {A : Type 0} (setting : Setting State) (finish : Finish Packet Exchange Answer) (v : NumberedEvent Packet) (vs : List (NumberedEvent Packet)) → cuts p setting v ≡ true → v.number < e.number → Stands e packet brings (finish.rest ++ v ∷ vs) →
      LastsPast e.number (transition p setting finish (v ∷ vs)).closing → A
  cut_before {A = A} setting finish v vs is_cut before_it all lasts = go finish.outcome lasts
    where
      no_first : (rest : List (NumberedEvent Packet)) → Stands e packet brings (rest ++ v ∷ vs) → FirstPast (rest ++ v ∷ vs) → A
      no_first rest (inr past) h = absurd (omega (arith, (past_late e packet brings rest (v ∷ vs) past).0, before_it))
      no_first [] (inl ahead) h = absurd (omega (arith, h, before_it))
      no_first (w ∷ ws) (inl ahead) h = absurd (omega (arith, h, first_number e packet brings w (ws ++ v ∷ vs) ahead))

      answered : (events : List (NumberedEvent Packet)) → e.number < number_of events → FirstPast events
      answered [] h = tt
      answered (w ∷ ws) h = h

      ended : (events : List (NumberedEvent Packet)) → LastsPast e.number (end_at p setting finish events).closing → FirstPast events
      ended [] h = tt
      ended (w ∷ ws) h = h

      go : (outcome : Outcome Answer) → LastsPast e.number (transition_by p outcome setting finish (v ∷ vs)).closing → A
      go (AnsweredBy answer) h = no_first finish.rest all (answered (finish.rest ++ v ∷ vs) h)
      go RanOut h = no_first finish.rest all (ended (finish.rest ++ v ∷ vs) h)
      go Unanswered h = absurd (omega (arith, by_cut (rw is_cut at h), before_it))
        where
          by_cut : LastsPast e.number (cut p setting finish (v ∷ vs)).closing → e.number < v.number
          by_cut h' = h'

  -- 4. The stays.

  uncut : (setting : Setting State) → cuts p setting e ≡ false
  uncut setting = go e.input refl brings
    where
      go : (input : Input Packet) → e.input ≡ input → input ≡ Arrival packet → cuts p setting e ≡ false
      go (Arrival other) is same = rw is refl
      go Nothing is same = absurd cc
      go Release is same = absurd cc
      go CleanUp is same = absurd cc

  shorter : (test : NumberedEvent Packet → Bool) (events : List (NumberedEvent Packet)) → length (before test events) ≤ length events
  shorter test [] = omega arith
  shorter test (v ∷ vs) = go (test v) refl (shorter test vs)
    where
      go : (b : Bool) → test v ≡ b → length (before test vs) ≤ length vs → length (before test (v ∷ vs)) ≤ length (v ∷ vs)
      go true h ih = rw (before_hit test v vs h) (omega arith)
      go false h ih = rw (before_miss test v vs h) (omega (arith, ih))

  module _ (lawful : Lawful p) where
    window_within : (setting : Setting State) (events : List (NumberedEvent Packet)) → Within lawful setting (before (closes p setting) events)
    window_within setting [] = tt
    window_within setting (v ∷ vs) = go (closes p setting v) refl (window_within setting vs)
      where
        lasts : closes p setting v ≡ false → ends p setting v ≡ false
        lasts h = by (cuts p setting v) (overruns p setting v) (ends p setting v) h
          where
            by : (a b c : Bool) → (a || (b || c)) ≡ false → c ≡ false
            by false false c h' = h'
            by true b c h' = absurd cc
            by false true c h' = absurd cc

        go : (b : Bool) → closes p setting v ≡ b → Within lawful setting (before (closes p setting) vs) → Within lawful setting (before (closes p setting) (v ∷ vs))
        go true h ih = rw (before_hit (closes p setting) v vs h) tt
        go false h ih = rw (before_miss (closes p setting) v vs h) (lasts h, ih)

    module _ (setting : Setting State) (progress : Progress Exchange) (events : List (NumberedEvent Packet)) where
      abbrev window : List (NumberedEvent Packet)
      window = before (closes p setting) events

      abbrev late : List (NumberedEvent Packet)
      late = from (closes p setting) events

      abbrev run : Course Packet Message Exchange Answer
      run = course p (suc (length events)) setting progress window

      abbrev next : Transition Packet Message State Exchange
      next = transition p setting run.finish late

      rest_stands : Stands e packet brings events → Stands e packet brings (run.finish.rest ++ late)
      rest_stands stands = course_rest (Stands e packet brings) (stands_tail e packet brings) (stands_called e packet brings) p setting (suc (length events)) progress window late (subst (λ (xs : List (NumberedEvent Packet)). Stands e packet brings xs) (sym (before-from (closes p setting) events)) stands)

      -- an attempt that is open at the event
      of_attempt : Stands e packet brings events → (earlier later : List (Attempt Message)) (attempt : Attempt Message) → attempts_of run.acts ≡ earlier ++ attempt ∷ later → attempt.event ≤ e.number → attempt.refused ≡ false →
          e.moment < attempt.moment + attempt.wait → overruns p setting e ≡ false → ends p setting e ≡ false → LastsPast e.number next.closing → IsNoAnswer p packet setting.state attempt
      of_attempt (inr past) earlier later attempt split by taken awaited in_time in_state lasts =
          let more : e.number < attempt.event = one_of (λ (a : Attempt Message). e.number < a.event) earlier attempt later
          (subst Later split (attempts_later setting (suc (length events)) progress window (past_before e packet brings (closes p setting) events past))) in
          absurd (omega (arith, more, by))
      of_attempt (inl ahead) earlier later attempt split by taken awaited in_time in_state lasts = by_place (ahead_split e packet brings (closes p setting) open_still events ahead)
        where
          open_still : closes p setting e ≡ false
          open_still = rw (uncut setting, in_time, in_state) refl

          closed : (found : After e packet brings (closes p setting) events) → (a b c : Bool) → cuts p setting found.first ≡ a → overruns p setting found.first ≡ b → ends p setting found.first ≡ c → closes p setting found.first ≡ true → IsNoAnswer p packet setting.state attempt
          closed found true b c f g h is = cut_before setting run.finish found.first found.rest f found.number
              (subst (λ (xs : List (NumberedEvent Packet)). Stands e packet brings (run.finish.rest ++ xs)) found.is (rest_stands (inl ahead)))
              (subst (λ (xs : List (NumberedEvent Packet)). LastsPast e.number (transition p setting run.finish xs).closing) found.is lasts)
          closed found false true c f g h is = true_false (overruns p setting e) (come_later found.first.moment e.moment (limit_moment p setting.timeout_sec setting.entered setting.state) found.moment g) in_time
          closed found false false true f g h is = true_false (ends p setting e) (come_later found.first.moment e.moment (p.ending_moment setting.state) found.moment h) in_state
          closed found false false false f g h is = true_false (closes p setting found.first) is (rw (f, g, h) refl)

          by_place : Ahead e packet brings window ⊎ After e packet brings (closes p setting) events → IsNoAnswer p packet setting.state attempt
          by_place (inl inside) =
              let enough : length (from (is_at_or_past progress.due) window) ≤ length window = fewer lawful setting (is_at_or_past progress.due) window in
              let short : length window ≤ length events = shorter (closes p setting) events in
              course_unanswering lawful setting (suc (length events)) progress window late (omega (arith, enough, short)) (window_within setting events) inside earlier later attempt split by taken awaited (ends_past setting run.finish late lasts)
          by_place (inr found) =
              closed found (cuts p setting found.first) (overruns p setting found.first) (ends p setting found.first) refl refl refl (from_passes (closes p setting) events found.first found.rest found.is)

    stays_hear : (fuel timeout_sec : ℕ) (entry : Entry State Exchange) (events : List (NumberedEvent Packet)) → Stands e packet brings events →
        AllByRecursion (λ (stay : Stay State Message). is_answered_at e.number stay.closing ≡ false) (stays p fuel timeout_sec entry events) →
        AllByRecursion (HearsNoAnswer p e packet) (stays p fuel timeout_sec entry events)
    stays_hear fuel timeout_sec entry [] stands unanswered = tt
    stays_hear zero timeout_sec entry (v ∷ vs) stands unanswered = tt
    stays_hear (suc fuel) timeout_sec entry (v ∷ vs) stands unanswered =
        let setting : Setting State = setting_at timeout_sec entry v.moment in
        let progress : Progress Exchange = entry_progress p setting entry v in
        let course' : Course Packet Message Exchange Answer = run setting progress (v ∷ vs) in
        let turn : Transition Packet Message State Exchange = next setting progress (v ∷ vs) in
        let same : attempts_of (course'.acts ++ turn.acts) ≡ attempts_of course'.acts =
        attempts-append course'.acts turn.acts ∙ (ap (λ (more : List (Attempt Message)). attempts_of course'.acts ++ more) (none_turned p setting course'.finish (late setting progress (v ∷ vs))) ∙ append-nil (attempts_of course'.acts)) in (
          λ attempt is_open' lasts. of_attempt setting progress (v ∷ vs) stands is_open'.earlier is_open'.later attempt (sym same ∙ is_open'.among) is_open'.by_then is_open'.taken is_open'.awaited is_open'.in_time is_open'.in_state lasts,
          stays_hear fuel timeout_sec turn.entry turn.events
              (turn_stands setting course'.finish (late setting progress (v ∷ vs)) (rest_stands setting progress (v ∷ vs) stands) (stands_from (closes p setting) (v ∷ vs) stands) unanswered.0)
              unanswered.1,
        )

-- No packet is missed that would answer an attempt which is open.
pub no_answer_is_missed : {PublicState Packet Message State Exchange Answer Lease : Type 0} (p : Protocol PublicState Packet Message State Exchange Answer Lease) → Lawful p → (script : Script Packet State Exchange) → Rises 0 0 script.events → MissesNoAnswer p script.events (history p script)
no_answer_is_missed p lawful script rises event packet among brings unanswered =
    All-from_recursion (HearsNoAnswer p event packet) (history p script)
    (stays_hear p event packet brings lawful (8 * (length script.events + 1)) script.timeout_sec (record { state = script.state; exchange = script.exchange; words = script.words }) script.events
    (among_stands event packet brings script.events rises among)
    (recursion_from_All (λ stay. is_answered_at event.number stay.closing ≡ false) (history p script) unanswered))
