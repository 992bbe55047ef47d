-- What is handed to the link: each message of a stay is the protocol's.
use Rattle.std.proofs.Common.{◌≡◌, ℕ, suc, zero, ◌+◌, ◌*◌, List, [], ◌∷◌, ◌++◌, length, refl, Bool, true, false}
use Rattle.std.specs.Prelude.{Option, Some, None, All, ◌&&◌, flat_map, if◌then◌else◌, option_map}
use Rattle.std.specs.List.{AllByRecursion}
use Rattle.std.proofs.lemmas.List.Elements.{All-from_recursion}
use Rattle.dhcp_history.specs.Protocol.{Protocol}
use Rattle.dhcp_history.specs.declared.script.NumberedEvent.{NumberedEvent}
use Rattle.dhcp_history.specs.declared.script.Input.{Input}
use Rattle.dhcp_history.specs.declared.script.Input.TheVariants.{Nothing, Arrival, Release, CleanUp}
use Rattle.dhcp_history.specs.Script.{Script, after_call}
use Rattle.dhcp_history.specs.History.{Act, Attempted, Course, Cut, Entry, Finish, Heard, LimitOver, Outcome, AnsweredBy, RanOut, Unanswered, Progress, ReleaseRefused, Setting, Transition, answer_or, attempt_at, attempt_or_end, before, close, closes, course, cut, cut_message, cuts, end_at, entry_progress, exchange_after, from, hear, history, is_at_or_past, is_none_yet, is_open, is_release, limit_acts, next_attempt, overruns, progress_after, reading_if, refused_release, refused_release_of, runs_out, setting_at, stays, transition, transition_by}
use Rattle.dhcp_history.specs.Points.{HandsItsOwn, IsOwnAct, IsOwnClosing}

module _ {PublicState Packet Message State Exchange Answer Lease : Type 0} (p : Protocol PublicState Packet Message State Exchange Answer Lease) where
  abbrev AllOwn : State → List (Act Message) → Type 0
  AllOwn state acts = AllByRecursion (IsOwnAct p state) acts

  own-append : (state : State) (xs ys : List (Act Message)) → AllOwn state xs → AllOwn state ys → AllOwn state (xs ++ ys)
  own-append state [] ys hx hy = hy
  own-append state (x ∷ xs) ys hx hy = (hx.0, own-append state xs ys hx.1 hy)

  module _ (setting : Setting State) where
    denied_own : (exchange : Exchange) (v : NumberedEvent Packet) → AllOwn setting.state (refused_release p setting exchange v)
    denied_own exchange v = go (p.held_lease setting.state) refl
      where
        go : (held : Option Lease) → p.held_lease setting.state ≡ held → AllOwn setting.state (refused_release_of p held exchange v)
        go None is = tt
        go (Some lease) is = by (is_release v.input && v.refuse)
          where
            by : (b : Bool) → AllOwn setting.state (if b then ReleaseRefused v.number (p.release_message lease exchange) ∷ [] else [])
            by true = (record { lease = lease; held = is; exchange = exchange; is = refl }, tt)
            by false = tt

    heard_own : (exchange : Exchange) (listens : Bool) (words : List ℕ) (events : List (NumberedEvent Packet)) → AllOwn setting.state (hear p setting exchange listens words events).acts
    heard_own exchange listens words [] = tt
    heard_own exchange listens words (v ∷ vs) = go (reading_if p listens setting exchange words v.input).value (heard_own exchange listens (reading_if p listens setting exchange words v.input).left vs)
      where
        later : Heard Packet Message Answer
        later = hear p setting exchange listens (reading_if p listens setting exchange words v.input).left vs

        go : (answer : Option Answer) → AllOwn setting.state later.acts → AllOwn setting.state (answer_or answer (reading_if p listens setting exchange words v.input).left (refused_release p setting exchange v) (v ∷ vs) later).acts
        go None ih = own-append setting.state (refused_release p setting exchange v) later.acts (denied_own exchange v) ih
        go (Some answer) ih = denied_own exchange v

    overdue_own : (exchange : Exchange) (events : List (NumberedEvent Packet)) → AllOwn setting.state (flat_map (limit_acts p setting exchange) events)
    overdue_own exchange [] = tt
    overdue_own exchange (v ∷ vs) =
        own-append setting.state (limit_acts p setting exchange v) (flat_map (limit_acts p setting exchange) vs)
        (own-append setting.state (refused_release p setting exchange v) (LimitOver v.number ∷ []) (denied_own exchange v) (tt, tt))
        (overdue_own exchange vs)

    course_own : (fuel : ℕ) (progress : Progress Exchange) (events : List (NumberedEvent Packet)) → AllOwn setting.state (course p fuel setting progress events).acts
    course_own zero progress events = tt
    course_own (suc fuel) progress events = go last.answer (from (is_at_or_past progress.due) events) (λ next xs. course_own fuel next xs)
      where
        last : Heard Packet Message Answer
        last = hear p setting progress.exchange (is_open progress.last) progress.words (before (is_at_or_past progress.due) events)

        now : Progress Exchange
        now = record progress { words = last.words }

        heard : AllOwn setting.state last.acts
        heard = heard_own progress.exchange (is_open progress.last) progress.words (before (is_at_or_past progress.due) events)

        by_end : (b : Bool) (v : NumberedEvent Packet) (vs : List (NumberedEvent Packet)) → ((next : Progress Exchange) (xs : List (NumberedEvent Packet)) → AllOwn setting.state (course p fuel setting next xs).acts) →
            AllOwn setting.state (attempt_or_end p b (course p fuel setting) setting now last.acts v vs).acts
        by_end true v vs ih = own-append setting.state last.acts (refused_release p setting progress.exchange v) heard (denied_own progress.exchange v)
        by_end false v vs ih =
            own-append setting.state (last.acts ++ (refused_release p setting progress.exchange v ++ Attempted (attempt_at p setting now v) ∷ [])) (course p fuel setting (progress_after p setting now v) (after_call v ∷ vs)).acts
            (own-append setting.state last.acts (refused_release p setting progress.exchange v ++ Attempted (attempt_at p setting now v) ∷ []) heard
            (own-append setting.state (refused_release p setting progress.exchange v) (Attempted (attempt_at p setting now v) ∷ []) (denied_own progress.exchange v) (
              (
                (progress_after p setting now v).exchange,
                record {
                  before = exchange_after p now;
                  start = record { is_first = is_none_yet now.last; entered = setting.entered; now = v.moment };
                  words = now.words;
                  at_its_moment = refl;
                  made = refl;
                },
              ),
              tt,
            )))
            (ih (progress_after p setting now v) (after_call v ∷ vs))

        go : (answer : Option Answer) (xs : List (NumberedEvent Packet)) → ((next : Progress Exchange) (ys : List (NumberedEvent Packet)) → AllOwn setting.state (course p fuel setting next ys).acts) →
            AllOwn setting.state (next_attempt p (course p fuel setting) setting now answer last xs).acts
        go (Some answer) xs ih = heard
        go None [] ih = heard
        go None (v ∷ vs) ih = by_end (runs_out p setting now) v vs ih

    record TurnsOwn (turn : Transition Packet Message State Exchange) : Type 0 where
      acts : AllOwn setting.state turn.acts
      closing : IsOwnClosing p setting.state turn.closing

    turn_own : (finish : Finish Packet Exchange Answer) (late : List (NumberedEvent Packet)) → TurnsOwn (transition p setting finish late)
    turn_own finish late = go finish.outcome late
      where
        released : (number : ℕ) (held : Option Lease) → p.held_lease setting.state ≡ held → IsOwnClosing p setting.state (Cut number (option_map (λ lease. p.release_message lease finish.exchange) held))
        released number None is = tt
        released number (Some lease) is = record { lease = lease; held = is; exchange = finish.exchange; is = refl }

        cut_own : (number : ℕ) (input : Input Packet) → IsOwnClosing p setting.state (Cut number (cut_message p setting finish.exchange input))
        cut_own number Release = released number (p.held_lease setting.state) refl
        cut_own number Nothing = tt
        cut_own number (Arrival packet) = tt
        cut_own number CleanUp = tt

        by_cut : (events : List (NumberedEvent Packet)) → TurnsOwn (cut p setting finish events)
        by_cut [] = record { acts = tt; closing = tt }
        by_cut (v ∷ vs) = record { acts = tt; closing = cut_own v.number v.input }

        by_ending : (events : List (NumberedEvent Packet)) → TurnsOwn (end_at p setting finish events)
        by_ending [] = by_cut []
        by_ending (v ∷ vs) = record { acts = denied_own finish.exchange v; closing = tt }

        by_close : (v : NumberedEvent Packet) (vs : List (NumberedEvent Packet)) (cut_now over : Bool) → TurnsOwn (close p cut_now over setting finish v vs)
        by_close v vs true over = by_cut (v ∷ vs)
        by_close v vs false true = record { acts = overdue_own finish.exchange (before (cuts p setting) (v ∷ vs)); closing = (by_cut (from (cuts p setting) (v ∷ vs))).closing }
        by_close v vs false false = by_ending (v ∷ vs)

        go : (outcome : Outcome Answer) (events : List (NumberedEvent Packet)) → TurnsOwn (transition_by p outcome setting finish events)
        go (AnsweredBy answer) events = record { acts = tt; closing = tt }
        go RanOut events = by_ending (finish.rest ++ events)
        go Unanswered [] = by_cut []
        go Unanswered (v ∷ vs) = by_close v vs (cuts p setting v) (overruns p setting v)

  stays_own : (fuel timeout_sec : ℕ) (entry : Entry State Exchange) (events : List (NumberedEvent Packet)) → AllByRecursion (HandsItsOwn p) (stays p fuel timeout_sec entry events)
  stays_own fuel timeout_sec entry [] = tt
  stays_own zero timeout_sec entry (v ∷ vs) = tt
  stays_own (suc fuel) timeout_sec entry (v ∷ vs) =
      let setting : Setting State = setting_at timeout_sec entry v.moment in
      let run : Course Packet Message Exchange Answer = course p (suc (length (v ∷ vs))) setting (entry_progress p setting entry v) (before (closes p setting) (v ∷ vs)) in
      let next : Transition Packet Message State Exchange = transition p setting run.finish (from (closes p setting) (v ∷ vs)) in
      let turn : TurnsOwn setting next = turn_own setting run.finish (from (closes p setting) (v ∷ vs)) in (
        record {
          acts = All-from_recursion (IsOwnAct p entry.state) (run.acts ++ next.acts)
              (own-append entry.state run.acts next.acts (course_own setting (suc (length (v ∷ vs))) (entry_progress p setting entry v) (before (closes p setting) (v ∷ vs))) turn.acts);
          closing = turn.closing;
        },
        stays_own fuel timeout_sec next.entry next.events,
      )

  -- Each message of a history is the protocol's.
  pub messages_are_own : (script : Script Packet State Exchange) → All (HandsItsOwn p) (history p script)
  messages_are_own script =
      All-from_recursion (HandsItsOwn p) (history p script)
      (stays_own (8 * (length script.events + 1)) script.timeout_sec (record { state = script.state; exchange = script.exchange; words = script.words }) script.events)
