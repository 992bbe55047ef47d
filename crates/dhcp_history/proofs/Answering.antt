-- What answers a stay: a packet among the events, while the last attempt is open.
use Rattle.std.proofs.Common.{subst, ◌≡◌, ℕ, suc, zero, ◌+◌, ◌*◌, ◌≤◌, ◌<◌, List, [], ◌∷◌, ◌++◌, length, refl, ap, Bool, true, false, arith, ◌∙◌, sym, append-nil}
use Rattle.std.specs.Prelude.{Option, Some, None, All, ◌||◌, if◌then◌else◌}
use Rattle.std.specs.List.{AllByRecursion, Contains}
use Rattle.std.proofs.lemmas.Bool.{leb-false}
use Rattle.std.proofs.lemmas.List.Elements.{All-contains_itself, All-from_recursion, recursion_from_All}
use Rattle.dhcp_history.specs.Protocol.{Protocol}
use Rattle.dhcp_history.specs.declared.script.NumberedEvent.{NumberedEvent}
use Rattle.dhcp_history.specs.declared.script.Input.{Input}
use Rattle.dhcp_history.specs.declared.script.Input.TheVariants.{Nothing, Arrival, Release, CleanUp}
use Rattle.dhcp_history.specs.Script.{Script, after_call, input_after_call}
use Rattle.dhcp_history.specs.History.{Answered, Attempt, Attempted, Closing, Course, Entry, Finish, Heard, NoneYet, Outcome, AnsweredBy, RanOut, Unanswered, Progress, Setting, Stay, Transition, after_packet, attempt_at, attempt_or_end, before, close, closes, course, cut, cuts, end_at, ends, entry_pause, entry_progress, exchange_after, first_progress, from, hear, history, is_at_or_past, is_none_yet, is_open, last_by, moment_of, next_attempt, number_of, overruns, progress_after, reading_if, refused_release, runs_out, setting_at, stays, transition, transition_by}
use Rattle.dhcp_history.specs.Bounds.{attempts_of}
use Rattle.dhcp_history.proofs.Attempts.{attempts-append, none_denied, none_heard, none_turned}
use Rattle.dhcp_history.proofs.Steps.{before-from, before_hit, before_miss, from_hit, from_miss}
use Rattle.dhcp_history.proofs.Remaining.{course_rest, from_holds, turn_holds}
use Rattle.dhcp_history.specs.Points.{IsAnswered, IsAnsweredAmong, IsAttemptIn, Rises}

module _ {Packet : Type 0} (all : List (NumberedEvent Packet)) where
  -- the packet of an event comes at one of all events
  abbrev Comes : NumberedEvent Packet → Type 0
  Comes v = (packet : Packet) → v.input ≡ Arrival packet → Contains all v

  -- of events from this number on, whose numbers do not fall
  abbrev Come : ℕ → List (NumberedEvent Packet) → Type 0
  Come least [] = Unit {0}
  Come least (v ∷ vs) = Comes v × (least ≤ v.number) × Come v.number vs

  come_from_least : (least more : ℕ) (events : List (NumberedEvent Packet)) → least ≤ more → Come more events → Come least events
  come_from_least least more [] le come = tt
  come_from_least least more (v ∷ vs) le come = (come.0, omega (arith, le, come.1), come.2)

  come_tail : (v : NumberedEvent Packet) (vs : List (NumberedEvent Packet)) → Come 0 (v ∷ vs) → Come 0 vs
  come_tail v vs come = come_from_least 0 v.number vs (omega arith) come.2

  called_comes : (v : NumberedEvent Packet) → Comes v → Comes (after_call v)
  called_comes v comes packet brings = go v.input refl brings
    where
      go : (input : Input Packet) → v.input ≡ input → input_after_call input ≡ Arrival packet → Contains all (after_call v)
      go (Arrival other) is same =
          let own : after_call v ≡ v = ap (λ (input' : Input Packet). record v { input = input' }) (ap (λ (input' : Input Packet). input_after_call input') is ∙ sym is) in
          subst (Contains all) (sym own) (comes other is)
      go Nothing is same = absurd cc
      go Release is same = absurd cc
      go CleanUp is same = absurd cc

  come_called : (v : NumberedEvent Packet) (vs : List (NumberedEvent Packet)) → Come 0 (v ∷ vs) → Come 0 (after_call v ∷ vs)
  come_called v vs come = (called_comes v come.0, come.1, come.2)

  come_used : (events : List (NumberedEvent Packet)) → Come 0 events → Come 0 (after_packet events)
  come_used [] come = tt
  come_used (v ∷ vs) come = (λ packet brings. absurd cc, come.1, come.2)

  rises_come : (number moment : ℕ) (events : List (NumberedEvent Packet)) → AllByRecursion (Contains all) events → Rises number moment events → Come number events
  rises_come number moment [] among rises = tt
  rises_come number moment (v ∷ vs) among rises = (λ packet brings. among.0, omega (arith, rises.0), rises_come v.number v.moment vs among.1 rises.2)

module _ {PublicState Packet Message State Exchange Answer Lease : Type 0} (p : Protocol PublicState Packet Message State Exchange Answer Lease) (all : List (NumberedEvent Packet)) (setting : Setting State) where
  -- an event of a window, from a number on
  record Fits (least : ℕ) (v : NumberedEvent Packet) : Type 0 where
    comes : Comes all v
    number : least ≤ v.number
    in_time : overruns p setting v ≡ false
    in_state : ends p setting v ≡ false

  abbrev AllFit : ℕ → List (NumberedEvent Packet) → Type 0
  AllFit least [] = Unit {0}
  AllFit least (v ∷ vs) = Fits least v × AllFit v.number vs

  fit_from_least : (least more : ℕ) (events : List (NumberedEvent Packet)) → least ≤ more → AllFit more events → AllFit least events
  fit_from_least least more [] le fit = tt
  fit_from_least least more (v ∷ vs) le fit = (record { comes = fit.0.comes; number = omega (arith, le, fit.0.number); in_time = fit.0.in_time; in_state = fit.0.in_state }, fit.1)

  fit_own : (least : ℕ) (v : NumberedEvent Packet) (vs : List (NumberedEvent Packet)) → AllFit least (v ∷ vs) → AllFit v.number (after_call v ∷ vs)
  fit_own least v vs fit = (record { comes = called_comes all v fit.0.comes; number = omega arith; in_time = fit.0.in_time; in_state = fit.0.in_state }, fit.1)

  fit_from : (test : NumberedEvent Packet → Bool) (least : ℕ) (events : List (NumberedEvent Packet)) → AllFit least events → AllFit least (from test events)
  fit_from test least [] fit = tt
  fit_from test least (v ∷ vs) fit = go (test v) refl (fit_from test v.number vs fit.1)
    where
      go : (b : Bool) → test v ≡ b → AllFit v.number (from test vs) → AllFit least (from test (v ∷ vs))
      go true h ih = rw (from_hit test v vs h) fit
      go false h ih = rw (from_miss test v vs h) (fit_from_least least v.number (from test vs) fit.0.number ih)

  -- those before the first that passes a test fit, and do not pass it
  record FitsBefore (test : NumberedEvent Packet → Bool) (least : ℕ) (v : NumberedEvent Packet) : Type 0 where
    fits : Fits least v
    fails : test v ≡ false

  fit_before : (test : NumberedEvent Packet → Bool) (least : ℕ) (events : List (NumberedEvent Packet)) → AllFit least events → AllByRecursion (FitsBefore test least) (before test events)
  fit_before test least [] fit = tt
  fit_before test least (v ∷ vs) fit = go (test v) refl (fit_before test least vs (fit_from_least least v.number vs fit.0.number fit.1))
    where
      go : (b : Bool) → test v ≡ b → AllByRecursion (FitsBefore test least) (before test vs) → AllByRecursion (FitsBefore test least) (before test (v ∷ vs))
      go true h ih = rw (before_hit test v vs h) tt
      go false h ih = rw (before_miss test v vs h) (record { fits = fit.0; fails = h }, ih)

  -- an answer that is heard is that of the packet of an event
  record Found (Holds : NumberedEvent Packet → Type 0) (exchange : Exchange) (listens : Bool) (answer : Answer) (rest : List (NumberedEvent Packet)) : Type 0 where
    first : NumberedEvent Packet
    later : List (NumberedEvent Packet)
    rest_is : rest ≡ first ∷ later
    holds : Holds first
    open_then : listens ≡ true
    packet : Packet
    brings : first.input ≡ Arrival packet
    words : List ℕ
    reads : (p.reading setting.state exchange packet words).value ≡ Some answer

  found : (Holds : NumberedEvent Packet → Type 0) (exchange : Exchange) (listens : Bool) (words : List ℕ) (answer : Answer) (events : List (NumberedEvent Packet)) → AllByRecursion Holds events → (hear p setting exchange listens words events).answer ≡ Some answer →
      Found Holds exchange listens answer (hear p setting exchange listens words events).rest
  found Holds exchange listens words answer [] holds is = absurd cc
  found Holds exchange listens words answer (v ∷ vs) holds is = go (reading_if p listens setting exchange words v.input).value refl (found Holds exchange listens (reading_if p listens setting exchange words v.input).left answer vs holds.1)
    where
      some_inj : (a b : Answer) → Some a ≡ Some b → a ≡ b
      some_inj a b h = cc

      by_input : (b : Bool) → listens ≡ b → (input : Input Packet) → v.input ≡ input → (a : Answer) → a ≡ answer → (reading_if p b setting exchange words input).value ≡ Some a → (rest : List (NumberedEvent Packet)) → rest ≡ v ∷ vs → Found Holds exchange listens answer rest
      by_input true e (Arrival packet) same a eq h rest rest_is = record { first = v; later = vs; rest_is = rest_is; holds = holds.0; open_then = e; packet = packet; brings = same; words = words; reads = h ∙ ap (λ (x : Answer). Some x) eq }
      by_input true e Nothing same a eq h rest rest_is = absurd cc
      by_input true e Release same a eq h rest rest_is = absurd cc
      by_input true e CleanUp same a eq h rest rest_is = absurd cc
      by_input false e input same a eq h rest rest_is = absurd cc

      go : (read : Option Answer) → (reading_if p listens setting exchange words v.input).value ≡ read →
          ((hear p setting exchange listens (reading_if p listens setting exchange words v.input).left vs).answer ≡ Some answer → Found Holds exchange listens answer (hear p setting exchange listens (reading_if p listens setting exchange words v.input).left vs).rest) →
          Found Holds exchange listens answer (hear p setting exchange listens words (v ∷ vs)).rest
      go (Some a) r ih = by_input listens refl v.input refl a (some_inj a answer (rw r at is)) r (hear p setting exchange listens words (v ∷ vs)).rest (rw r refl)
      go None r ih =
          let there : Found Holds exchange listens answer (hear p setting exchange listens (reading_if p listens setting exchange words v.input).left vs).rest = ih (rw r at is) in
          record { first = there.first; later = there.later; rest_is = rw r there.rest_is; holds = there.holds; open_then = there.open_then; packet = there.packet; brings = there.brings; words = there.words; reads = there.reads }

  -- the last attempt was made before these, or is the last of them
  data ByLast (progress : Progress Exchange) (attempts : List (Attempt Message)) (exchange : Exchange) (v : NumberedEvent Packet) : Type 0 where
    Before : attempts ≡ [] → is_open progress.last ≡ true → is_at_or_past progress.due v ≡ false → exchange ≡ progress.exchange → ByLast progress attempts exchange v
    Among : (earlier : List (Attempt Message)) (attempt : Attempt Message) → attempts ≡ earlier ++ attempt ∷ [] → attempt.event ≤ v.number → attempt.refused ≡ false → v.moment < attempt.moment + attempt.wait →
        IsAttemptIn p setting.state attempt exchange → ByLast progress attempts exchange v

  record AnsweredIn (least : ℕ) (progress : Progress Exchange) (run : Course Packet Message Exchange Answer) (answer : Answer) : Type 0 where
    first : NumberedEvent Packet
    later : List (NumberedEvent Packet)
    rest_is : run.finish.rest ≡ first ∷ later
    fits : Fits least first
    packet : Packet
    brings : first.input ≡ Arrival packet
    words : List ℕ
    reads : (p.reading setting.state run.finish.exchange packet words).value ≡ Some answer
    by_last : ByLast progress (attempts_of run.acts) run.finish.exchange first

  answer_is : (a b : Answer) (x : Outcome Answer) → x ≡ AnsweredBy b → x ≡ AnsweredBy a → a ≡ b
  answer_is a b x h h' = cc

  answered_in : (fuel least : ℕ) (progress : Progress Exchange) (events : List (NumberedEvent Packet)) (answer : Answer) → AllFit least events → (course p fuel setting progress events).finish.outcome ≡ AnsweredBy answer → AnsweredIn least progress (course p fuel setting progress events) answer
  answered_in zero least progress events answer fit is = absurd cc
  answered_in (suc fuel) least progress events answer fit is = go last.answer refl (from due events) refl (λ more next xs. answered_in fuel more next xs answer) is
    where
      due : NumberedEvent Packet → Bool
      due = is_at_or_past progress.due

      last : Heard Packet Message Answer
      last = hear p setting progress.exchange (is_open progress.last) progress.words (before due events)

      now : Progress Exchange
      now = record progress { words = last.words }

      quiet : attempts_of last.acts ≡ []
      quiet = none_heard p setting progress.exchange (is_open progress.last) progress.words (before due events)

      by_end : (b : Bool) (v : NumberedEvent Packet) (vs : List (NumberedEvent Packet)) → AllFit least (v ∷ vs) →
          ((more : ℕ) (next : Progress Exchange) (xs : List (NumberedEvent Packet)) → AllFit more xs → (course p fuel setting next xs).finish.outcome ≡ AnsweredBy answer → AnsweredIn more next (course p fuel setting next xs) answer) →
          (attempt_or_end p b (course p fuel setting) setting now last.acts v vs).finish.outcome ≡ AnsweredBy answer → AnsweredIn least progress (attempt_or_end p b (course p fuel setting) setting now last.acts v vs) answer
      by_end true v vs here ih is' = absurd cc
      by_end false v vs here ih is' = record {
        first = there.first;
        later = there.later;
        rest_is = there.rest_is;
        fits = record { comes = there.fits.comes; number = omega (arith, here.0.number, there.fits.number); in_time = there.fits.in_time; in_state = there.fits.in_state };
        packet = there.packet;
        brings = there.brings;
        words = there.words;
        reads = there.reads;
        by_last = place there.by_last;
      }
        where
          next : Progress Exchange
          next = progress_after p setting now v

          run : Course Packet Message Exchange Answer
          run = course p fuel setting next (after_call v ∷ vs)

          there : AnsweredIn v.number next run answer
          there = ih v.number next (after_call v ∷ vs) (fit_own least v vs here) is'

          made : Attempt Message
          made = attempt_at p setting now v

          all_attempts : attempts_of (last.acts ++ (refused_release p setting progress.exchange v ++ Attempted made ∷ []) ++ run.acts) ≡ made ∷ attempts_of run.acts
          all_attempts = rw (
            attempts-append (last.acts ++ (refused_release p setting progress.exchange v ++ Attempted made ∷ [])) run.acts,
            attempts-append last.acts (refused_release p setting progress.exchange v ++ Attempted made ∷ []),
            quiet,
            attempts-append (refused_release p setting progress.exchange v) (Attempted made ∷ []),
            none_denied p setting progress.exchange v,
          ) refl

          taken : (b : Bool) → is_open (last_by b) ≡ true → b ≡ false
          taken false h = refl
          taken true h = absurd cc

          place : ByLast next (attempts_of run.acts) run.finish.exchange there.first → ByLast progress (attempts_of (last.acts ++ (refused_release p setting progress.exchange v ++ Attempted made ∷ []) ++ run.acts)) run.finish.exchange there.first
          place (Before none open_then before_due same) =
              Among [] made (all_attempts ∙ ap (λ (xs : List (Attempt Message)). made ∷ xs) none) there.fits.number (taken v.refuse open_then) (leb-false (v.moment + made.wait) there.first.moment before_due)
              (subst (λ (x : Exchange). IsAttemptIn p setting.state made x) (sym same) (record {
                before = exchange_after p now;
                start = record { is_first = is_none_yet now.last; entered = setting.entered; now = v.moment };
                words = now.words;
                at_its_moment = refl;
                made = refl;
              }))
          place (Among earlier attempt split by taken' awaited own) = Among (made ∷ earlier) attempt (all_attempts ∙ ap (λ (xs : List (Attempt Message)). made ∷ xs) split) by taken' awaited own

      go : (read : Option Answer) → last.answer ≡ read → (xs : List (NumberedEvent Packet)) → from due events ≡ xs →
          ((more : ℕ) (next : Progress Exchange) (ys : List (NumberedEvent Packet)) → AllFit more ys → (course p fuel setting next ys).finish.outcome ≡ AnsweredBy answer → AnsweredIn more next (course p fuel setting next ys) answer) →
          (next_attempt p (course p fuel setting) setting now read last xs).finish.outcome ≡ AnsweredBy answer → AnsweredIn least progress (next_attempt p (course p fuel setting) setting now read last xs) answer
      go None r [] rest ih is' = absurd cc
      go None r (v ∷ vs) rest ih is' = by_end (runs_out p setting now) v vs (subst (λ (ys : List (NumberedEvent Packet)). AllFit least ys) rest (fit_from due least events fit)) ih is'
      go (Some a) r xs rest ih is' = by_found (found (FitsBefore due least) progress.exchange (is_open progress.last) progress.words a (before due events) (fit_before due least events fit) r)
        where
          same : a ≡ answer
          same = answer_is a answer (AnsweredBy a) is' refl

          by_found : Found (FitsBefore due least) progress.exchange (is_open progress.last) a last.rest → AnsweredIn least progress (next_attempt p (course p fuel setting) setting now (Some a) last xs) answer
          by_found there = record {
            first = there.first;
            later = there.later ++ xs;
            rest_is = ap (λ (ys : List (NumberedEvent Packet)). ys ++ xs) there.rest_is;
            fits = there.holds.fits;
            packet = there.packet;
            brings = there.brings;
            words = there.words;
            reads = there.reads ∙ ap (λ (x : Answer). Some x) same;
            by_last = Before quiet there.open_then there.holds.fails refl;
          }

  -- the events of a window fit
  window_fits : (least : ℕ) (events : List (NumberedEvent Packet)) → Come all least events → AllFit least (before (closes p setting) events)
  window_fits least [] come = tt
  window_fits least (v ∷ vs) come = go (closes p setting v) refl (window_fits v.number vs come.2)
    where
      by : (a b c : Bool) → (a || (b || c)) ≡ false → (b ≡ false) × (c ≡ false)
      by false false false h = (refl, refl)
      by false false true h = absurd cc
      by false true c h = absurd cc
      by true b c h = absurd cc

      go : (b : Bool) → closes p setting v ≡ b → AllFit v.number (before (closes p setting) vs) → AllFit least (before (closes p setting) (v ∷ vs))
      go true h ih = rw (before_hit (closes p setting) v vs h) tt
      go false h ih =
          let lasts = by (cuts p setting v) (overruns p setting v) (ends p setting v) h in
          rw (before_miss (closes p setting) v vs h) (record { comes = come.0; number = come.1; in_time = lasts.0; in_state = lasts.1 }, ih)

  -- a stay that closes with an answer
  record Turned (finish : Finish Packet Exchange Answer) (events : List (NumberedEvent Packet)) (number : ℕ) (next : State) : Type 0 where
    answer : Answer
    outcome : finish.outcome ≡ AnsweredBy answer
    numbered : number_of events ≡ number
    follows : next ≡ (p.after_answer setting.state answer (moment_of events) finish.exchange).state

  turned : (finish : Finish Packet Exchange Answer) (late : List (NumberedEvent Packet)) (number : ℕ) (next : State) → (transition p setting finish late).closing ≡ Answered number next → Turned finish (finish.rest ++ late) number next
  turned finish late number next is = go finish.outcome refl late refl is
    where
      by_cut : {A : Type 0} (events : List (NumberedEvent Packet)) → (cut p setting finish events).closing ≡ Answered number next → A
      by_cut [] h = absurd cc
      by_cut (v ∷ vs) h = absurd cc

      by_ending : {A : Type 0} (events : List (NumberedEvent Packet)) → (end_at p setting finish events).closing ≡ Answered number next → A
      by_ending [] h = absurd cc
      by_ending (v ∷ vs) h = absurd cc

      by_close : {A : Type 0} (v : NumberedEvent Packet) (vs : List (NumberedEvent Packet)) (a b : Bool) → (close p a b setting finish v vs).closing ≡ Answered number next → A
      by_close v vs true b h = by_cut (v ∷ vs) h
      by_close v vs false true h = by_cut (from (cuts p setting) (v ∷ vs)) h
      by_close v vs false false h = by_ending (v ∷ vs) h

      number_is : (m : ℕ) (s : State) (closing : Closing State Message) → closing ≡ Answered m s → closing ≡ Answered number next → m ≡ number
      number_is m s closing own h' = cc

      next_is : (m : ℕ) (s : State) (closing : Closing State Message) → closing ≡ Answered m s → closing ≡ Answered number next → next ≡ s
      next_is m s closing own h' = cc

      go : (outcome : Outcome Answer) → finish.outcome ≡ outcome → (events : List (NumberedEvent Packet)) → late ≡ events → (transition_by p outcome setting finish events).closing ≡ Answered number next → Turned finish (finish.rest ++ late) number next
      go (AnsweredBy answer) o events l h = subst (λ (xs : List (NumberedEvent Packet)). Turned finish (finish.rest ++ xs) number next) (sym l) (record {
        answer = answer;
        outcome = o;
        numbered = number_is (number_of (finish.rest ++ events)) (p.after_answer setting.state answer (moment_of (finish.rest ++ events)) finish.exchange).state (transition_by p (AnsweredBy answer) setting finish events).closing refl h;
        follows = next_is (number_of (finish.rest ++ events)) (p.after_answer setting.state answer (moment_of (finish.rest ++ events)) finish.exchange).state (transition_by p (AnsweredBy answer) setting finish events).closing refl h;
      })
      go RanOut o events l h = by_ending (finish.rest ++ events) h
      go Unanswered o [] l h = by_cut [] h
      go Unanswered o (v ∷ vs) l h = by_close v vs (cuts p setting v) (overruns p setting v) h

module _ {PublicState Packet Message State Exchange Answer Lease : Type 0} (p : Protocol PublicState Packet Message State Exchange Answer Lease) (all : List (NumberedEvent Packet)) where
  -- the attempts of a stay come to be in it
  entry_shut : (setting : Setting State) (entry : Entry State Exchange) (v : NumberedEvent Packet) → is_open (entry_progress p setting entry v).last ≡ false
  entry_shut setting entry v = go (cuts p setting v)
    where
      go : (b : Bool) → is_open (if b then record { last = NoneYet; due = None; exchange = entry.exchange; words = entry.words } else first_progress p entry v.moment).last ≡ false
      go true = refl
      go false = refl

  stays_answered : (fuel timeout_sec : ℕ) (entry : Entry State Exchange) (events : List (NumberedEvent Packet)) → Come all 0 events → AllByRecursion (IsAnswered p all) (stays p fuel timeout_sec entry events)
  stays_answered fuel timeout_sec entry [] come = tt
  stays_answered zero timeout_sec entry (v ∷ vs) come = tt
  stays_answered (suc fuel) timeout_sec entry (v ∷ vs) come = (
    λ number next is. by_turn number next (turned p all setting run.finish late number next is),
    stays_answered fuel timeout_sec turn.entry turn.events
        (turn_holds (Come all 0) (come_tail all) (come_called all) p setting run.finish late tt
        (course_rest (Come all 0) (come_tail all) (come_called all) p setting (suc (length (v ∷ vs))) progress window late (subst (Come all 0) (sym (before-from (closes p setting) (v ∷ vs))) come))
        (from_holds (Come all 0) (come_tail all) (come_called all) (closes p setting) (v ∷ vs) come)
        (λ answer is held. come_used all (run.finish.rest ++ late) held)),
  )
    where
      setting : Setting State
      setting = setting_at timeout_sec entry v.moment

      progress : Progress Exchange
      progress = entry_progress p setting entry v

      window : List (NumberedEvent Packet)
      window = before (closes p setting) (v ∷ vs)

      late : List (NumberedEvent Packet)
      late = from (closes p setting) (v ∷ vs)

      run : Course Packet Message Exchange Answer
      run = course p (suc (length (v ∷ vs))) setting progress window

      turn : Transition Packet Message State Exchange
      turn = transition p setting run.finish late

      acts_same : attempts_of (run.acts ++ turn.acts) ≡ attempts_of run.acts
      acts_same = attempts-append run.acts turn.acts ∙ (ap (λ (more : List (Attempt Message)). attempts_of run.acts ++ more) (none_turned p setting run.finish late) ∙ append-nil (attempts_of run.acts))

      stay : Stay State Message
      stay = record { setting = setting; entry = v.number; pause = entry_pause p setting entry v; acts = run.acts ++ turn.acts; closing = turn.closing }

      by_turn : (number : ℕ) (next : State) → Turned p all setting run.finish (run.finish.rest ++ late) number next → IsAnsweredAmong p all number next stay
      by_turn number next there = by_answer (answered_in p all setting (suc (length (v ∷ vs))) 0 progress window there.answer (window_fits p all setting 0 (v ∷ vs) come) there.outcome)
        where
          by_answer : AnsweredIn p all setting 0 progress run there.answer → IsAnsweredAmong p all number next stay
          by_answer given = by_last given.by_last
            where
              rest_is : run.finish.rest ++ late ≡ given.first ∷ (given.later ++ late)
              rest_is = ap (λ (xs : List (NumberedEvent Packet)). xs ++ late) given.rest_is

              by_last : ByLast p all setting progress (attempts_of run.acts) run.finish.exchange given.first → IsAnsweredAmong p all number next stay
              by_last (Before none open_then before_due same) = absurd (cc (entry_shut setting entry v, open_then))
              by_last (Among earlier attempt split by taken awaited own) = record {
                event = given.first;
                among = given.fits.comes given.packet given.brings;
                numbered = sym (ap (λ (xs : List (NumberedEvent Packet)). number_of xs) rest_is) ∙ there.numbered;
                answered = record {
                  packet = given.packet;
                  brings = given.brings;
                  attempt = attempt;
                  open_then = record {
                    earlier = earlier;
                    later = [];
                    among = acts_same ∙ split;
                    by_then = by;
                    last = All-from_recursion (λ (later : Attempt Message). given.first.number < later.event) [] tt;
                    taken = taken;
                    awaited = awaited;
                    in_time = given.fits.in_time;
                    in_state = given.fits.in_state;
                  };
                  exchange = run.finish.exchange;
                  own = own;
                  words = given.words;
                  answer = there.answer;
                  reads = given.reads;
                  follows = there.follows ∙ ap (λ (xs : List (NumberedEvent Packet)). (p.after_answer setting.state there.answer (moment_of xs) run.finish.exchange).state) rest_is;
                };
              }

-- Each stay that closes with an answer is answered by the packet of an event, while its last attempt is open.
pub answers_are_heard : {PublicState Packet Message State Exchange Answer Lease : Type 0} (p : Protocol PublicState Packet Message State Exchange Answer Lease) (script : Script Packet State Exchange) → Rises 0 0 script.events → All (IsAnswered p script.events) (history p script)
answers_are_heard p script rises =
    All-from_recursion (IsAnswered p script.events) (history p script)
    (stays_answered p script.events (8 * (length script.events + 1)) script.timeout_sec (record { state = script.state; exchange = script.exchange; words = script.words }) script.events
    (rises_come script.events 0 0 script.events (recursion_from_All (Contains script.events) script.events (All-contains_itself script.events)) rises))
