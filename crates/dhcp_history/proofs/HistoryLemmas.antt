-- What holds of the states and of the messages of a history, where the client's exchange keeps it.
use Rattle.std.proofs.Common.{ℕ, suc, zero, ◌*◌, ◌+◌, ◌≤◌, List, [], ◌∷◌, ◌++◌, length, Bool, true, false, sym, subst, arith, append_assoc, append-nil}
use Rattle.std.specs.Prelude.{Option, Some, None, All, ◌&&◌, flat_map, if◌then◌else◌}
use Rattle.std.specs.List.{AllByRecursion}
use Rattle.std.proofs.lemmas.List.Elements.{All-cons, All-nil}
use Rattle.dhcp_history.specs.declared.rules.AttemptStart.{AttemptStart}
use Rattle.dhcp_history.specs.Bounds.{attempts_of}
use Rattle.dhcp_history.specs.Protocol.{Protocol}
use Rattle.dhcp_history.specs.declared.script.NumberedEvent.{NumberedEvent}
use Rattle.dhcp_history.specs.declared.script.Input.{Input}
use Rattle.dhcp_history.specs.declared.script.Input.TheVariants.{Nothing, Arrival, Release, CleanUp}
use Rattle.dhcp_history.specs.Script.{Script, after_call, input_after_call}
use Rattle.dhcp_history.specs.History.{Act, Attempt, Attempted, ReleaseRefused, LimitOver, Course, Entry, Finish, Heard, Outcome, Unanswered, AnsweredBy, RanOut, Progress, Setting, Stay, Transition, after_packet, after_wait_if, answer_or, attempt_at, attempt_or_end, before, close, closes, course, cut, cuts, end_at, entry_progress, exchange_after, first_progress, from, hear, history, is_at_or_past, is_open, is_none_yet, is_release, NoneYet, limit_acts, moment_of, next_attempt, number_of, overruns, progress_after, reading_if, refused_release, refused_release_of, runs_out, setting_at, stays, transition, transition_by}

module _ {PublicState Packet Message State Exchange Answer Lease : Type 0} (p : Protocol PublicState Packet Message State Exchange Answer Lease)
    (Good : Exchange → Type 0) (Held : ℕ → State → Type 0) (Read : ℕ → State → Answer → Type 0) (Comes : ℕ → Packet → Type 0) (Fits : State → Message → Type 0) where
  -- an answer, if there is one, was read in this state at the event with this number
  abbrev pub ReadIf : ℕ → State → Option Answer → Type 0
  ReadIf number state None = Unit {0}
  ReadIf number state (Some answer) = Read number state answer

  -- What a protocol keeps. Packets come and answers are read at the event with this number; what is held of a state at an event is held at each later one.
  pub record Keeps : Type 0 where
    pub waited : (exchange : Exchange) → Good exchange → Good (p.after_wait exchange)
    pub attempted : (state : State) (exchange : Exchange) (start : AttemptStart) (words : List ℕ) → Good exchange → Good (p.attempt state exchange start words).value.exchange
    pub fits : (state : State) (exchange : Exchange) (start : AttemptStart) (words : List ℕ) → Good exchange → Fits state (p.attempt state exchange start words).value.message
    pub reads : (number : ℕ) (state : State) (exchange : Exchange) (packet : Packet) (words : List ℕ) → Good exchange → Comes number packet → ReadIf number state (p.reading state exchange packet words).value
    pub later : (number more : ℕ) (state : State) → number ≤ more → Held number state → Held more state
    pub cut_held : (number : ℕ) (exchange : Exchange) → Held number (p.after_clean_up exchange).state
    pub cut_good : (exchange : Exchange) → Good exchange → Good (p.after_clean_up exchange).exchange
    pub answered_held : (number : ℕ) (state : State) (answer : Answer) (now : ℕ) (exchange : Exchange) → Read number state answer → Held number (p.after_answer state answer now exchange).state
    pub answered_good : (state : State) (answer : Answer) (now : ℕ) (exchange : Exchange) → Good exchange → Good (p.after_answer state answer now exchange).exchange
    pub ended_held : (number : ℕ) (state : State) (exchange : Exchange) → Held number state → Held number (p.after_end state exchange).state
    pub ended_good : (state : State) (exchange : Exchange) → Good exchange → Good (p.after_end state exchange).exchange

  -- an attempt in this state, at the event with this number or a later one
  pub record IsFrom (least : ℕ) (state : State) (attempt : Attempt Message) : Type 0 where
    pub reached : least ≤ attempt.event
    pub fits : Fits state attempt.message

  -- the attempts among these acts
  abbrev Says : ℕ → State → List (Act Message) → Type 0
  Says least state [] = Unit {0}
  Says least state (Attempted attempt ∷ acts) = IsFrom least state attempt × Says least state acts
  Says least state (ReleaseRefused event message ∷ acts) = Says least state acts
  Says least state (LimitOver event ∷ acts) = Says least state acts

  says-append : (least : ℕ) (state : State) (xs ys : List (Act Message)) → Says least state xs → Says least state ys → Says least state (xs ++ ys)
  says-append least state [] ys hx hy = hy
  says-append least state (Attempted attempt ∷ xs) ys hx hy = (hx.0, says-append least state xs ys hx.1 hy)
  says-append least state (ReleaseRefused event message ∷ xs) ys hx hy = says-append least state xs ys hx hy
  says-append least state (LimitOver event ∷ xs) ys hx hy = says-append least state xs ys hx hy

  says_all : (least : ℕ) (state : State) (acts : List (Act Message)) → Says least state acts → All (IsFrom least state) (attempts_of acts)
  says_all least state [] h = All-nil (IsFrom least state)
  says_all least state (Attempted attempt ∷ acts) h = All-cons (IsFrom least state) attempt (attempts_of acts) h.0 (says_all least state acts h.1)
  says_all least state (ReleaseRefused event message ∷ acts) h = says_all least state acts h
  says_all least state (LimitOver event ∷ acts) h = says_all least state acts h

  -- the packet of an event with this number comes
  abbrev pub ComesIn : ℕ → Input Packet → Type 0
  ComesIn number (Arrival packet) = Comes number packet
  ComesIn number Nothing = Unit {0}
  ComesIn number Release = Unit {0}
  ComesIn number CleanUp = Unit {0}

  -- an event with this number or a later one, whose packet comes
  pub record ComesFrom (least : ℕ) (event : NumberedEvent Packet) : Type 0 where
    pub reached : least ≤ event.number
    pub comes : ComesIn event.number event.input

  -- the packets of these events come; the numbers of the events never fall, and are this one at least
  abbrev pub AllCome : ℕ → List (NumberedEvent Packet) → Type 0
  AllCome least [] = Unit {0}
  AllCome least (event ∷ events) = ComesFrom least event × AllCome event.number events

  called_comes : (number : ℕ) (input : Input Packet) → ComesIn number input → ComesIn number (input_after_call input)
  called_comes number (Arrival packet) h = h
  called_comes number Nothing h = tt
  called_comes number Release h = tt
  called_comes number CleanUp h = tt

  after_call_come : (least : ℕ) (v : NumberedEvent Packet) (vs : List (NumberedEvent Packet)) → AllCome least (v ∷ vs) → AllCome least (after_call v ∷ vs)
  after_call_come least v vs h = (record { reached = h.0.reached; comes = called_comes v.number v.input h.0.comes }, h.1)

  -- events come that are at or past a later number, that follow the first of these, that follow some of them
  fewer_come : (least more : ℕ) (events : List (NumberedEvent Packet)) → least ≤ more → AllCome more events → AllCome least events
  fewer_come least more [] le h = tt
  fewer_come least more (v ∷ vs) le h = (record { reached = omega (arith, le, h.0.reached); comes = h.0.comes }, h.1)

  rest_come : (least : ℕ) (v : NumberedEvent Packet) (vs : List (NumberedEvent Packet)) → AllCome least (v ∷ vs) → AllCome least vs
  rest_come least v vs h = fewer_come least v.number vs h.0.reached h.1

  late_come : (least : ℕ) (events late : List (NumberedEvent Packet)) → AllCome least (events ++ late) → AllCome least late
  late_come least [] late h = h
  late_come least (v ∷ vs) late h = late_come least vs late (rest_come least v (vs ++ late) h)

  -- events that are cut at the first that passes a test come, with others after them and with none
  parts_come : (test : NumberedEvent Packet → Bool) (least : ℕ) (events late : List (NumberedEvent Packet)) → AllCome least (events ++ late) → AllCome least (before test events ++ (from test events ++ late))
  parts_come test least [] late h = h
  parts_come test least (v ∷ vs) late h = go (test v) (parts_come test v.number vs late h.1)
    where
      go : (b : Bool) → AllCome v.number (before test vs ++ (from test vs ++ late)) →
          AllCome least ((if b then [] else v ∷ before test vs) ++ ((if b then v ∷ vs else from test vs) ++ late))
      go true ih = h
      go false ih = (h.0, ih)

  cut_come : (test : NumberedEvent Packet → Bool) (least : ℕ) (events : List (NumberedEvent Packet)) → AllCome least events → AllCome least (before test events ++ from test events)
  cut_come test least events h =
      subst (λ (rest : List (NumberedEvent Packet)). AllCome least (before test events ++ rest)) (append-nil (from test events))
      (parts_come test least events [] (subst (AllCome least) (sym (append-nil events)) h))

  from_come : (test : NumberedEvent Packet → Bool) (least : ℕ) (events : List (NumberedEvent Packet)) → AllCome least events → AllCome least (from test events)
  from_come test least events h = late_come least (before test events) (from test events) (cut_come test least events h)

  -- events come from the number of the first of them on
  own_come : (least : ℕ) (v : NumberedEvent Packet) (vs : List (NumberedEvent Packet)) → AllCome least (v ∷ vs) → AllCome v.number (v ∷ vs)
  own_come least v vs h = (record { reached = omega arith; comes = h.0.comes }, h.1)

  -- what is left once the packet of the first event has answered comes, from the number of that event on
  packet_come : (least : ℕ) (events : List (NumberedEvent Packet)) → AllCome least events → AllCome (number_of events) (after_packet events)
  packet_come least [] h = tt
  packet_come least (v ∷ vs) h = (record { reached = omega arith; comes = tt }, h.1)

  denied : (least : ℕ) (setting : Setting State) (exchange : Exchange) (v : NumberedEvent Packet) → Says least setting.state (refused_release p setting exchange v)
  denied least setting exchange v = go (p.held_lease setting.state)
    where
      go : (held : Option Lease) → Says least setting.state (refused_release_of p held exchange v)
      go None = tt
      go (Some lease) = by_test (is_release v.input && v.refuse)
        where
          by_test : (b : Bool) → Says least setting.state (if b then ReleaseRefused v.number (p.release_message lease exchange) ∷ [] else [])
          by_test true = tt
          by_test false = tt

  overdue : (least : ℕ) (setting : Setting State) (exchange : Exchange) (events : List (NumberedEvent Packet)) → Says least setting.state (flat_map (limit_acts p setting exchange) events)
  overdue least setting exchange [] = tt
  overdue least setting exchange (v ∷ vs) =
      says-append least setting.state (limit_acts p setting exchange v) (flat_map (limit_acts p setting exchange) vs)
      (says-append least setting.state (refused_release p setting exchange v) (LimitOver v.number ∷ []) (denied least setting exchange v) tt)
      (overdue least setting exchange vs)

  module _ (keeps : Keeps) where
    -- what is heard of these events between two attempts, before the late ones
    record Hears (state : State) (least : ℕ) (late : List (NumberedEvent Packet)) (heard : Heard Packet Message Answer) : Type 0 where
      acts : Says least state heard.acts
      answer : ReadIf (number_of (heard.rest ++ late)) state heard.answer
      rest : AllCome least (heard.rest ++ late)

    input_read : (number : ℕ) (setting : Setting State) (exchange : Exchange) (listens : Bool) (words : List ℕ) (input : Input Packet) → Good exchange → ComesIn number input →
        ReadIf number setting.state (reading_if p listens setting exchange words input).value
    input_read number setting exchange true words (Arrival packet) g h = keeps.reads number setting.state exchange packet words g h
    input_read number setting exchange true words Nothing g h = tt
    input_read number setting exchange true words Release g h = tt
    input_read number setting exchange true words CleanUp g h = tt
    input_read number setting exchange false words input g h = tt

    hears : (setting : Setting State) (exchange : Exchange) (listens : Bool) (words : List ℕ) (least : ℕ) (events late : List (NumberedEvent Packet)) → Good exchange → AllCome least (events ++ late) →
        Hears setting.state least late (hear p setting exchange listens words events)
    hears setting exchange listens words least [] late g h = record { acts = tt; answer = tt; rest = h }
    hears setting exchange listens words least (v ∷ vs) late g h =
        go (reading_if p listens setting exchange words v.input).value (input_read v.number setting exchange listens words v.input g h.0.comes)
        (hears setting exchange listens (reading_if p listens setting exchange words v.input).left least vs late g (rest_come least v (vs ++ late) h))
      where
        later : Heard Packet Message Answer
        later = hear p setting exchange listens (reading_if p listens setting exchange words v.input).left vs

        go : (answer : Option Answer) → ReadIf v.number setting.state answer → Hears setting.state least late later →
            Hears setting.state least late (answer_or answer (reading_if p listens setting exchange words v.input).left (refused_release p setting exchange v) (v ∷ vs) later)
        go None read heard = record {
          acts = says-append least setting.state (refused_release p setting exchange v) later.acts (denied least setting exchange v) heard.acts;
          answer = heard.answer;
          rest = heard.rest;
        }
        go (Some answer) read heard = record { acts = denied least setting exchange v; answer = read; rest = h }

    -- the attempts of a stay, and how they end before the late events
    abbrev ReadBy : ℕ → State → Outcome Answer → Type 0
    ReadBy number state Unanswered = Unit {0}
    ReadBy number state (AnsweredBy answer) = Read number state answer
    ReadBy number state RanOut = Unit {0}

    record Ends (state : State) (least : ℕ) (late : List (NumberedEvent Packet)) (finish : Finish Packet Exchange Answer) : Type 0 where
      outcome : ReadBy (number_of (finish.rest ++ late)) state finish.outcome
      rest : AllCome least (finish.rest ++ late)
      exchange : Good finish.exchange
      after_wait : Good finish.after_wait

    record Goes (state : State) (least : ℕ) (late : List (NumberedEvent Packet)) (run : Course Packet Message Exchange Answer) : Type 0 where
      acts : Says least state run.acts
      ends : Ends state least late run.finish

    exchange_good : (progress : Progress Exchange) → Good progress.exchange → Good (exchange_after p progress)
    exchange_good progress g = go (is_open progress.last)
      where
        go : (b : Bool) → Good (after_wait_if p b progress.exchange)
        go true = keeps.waited progress.exchange g
        go false = g

    course_goes : (setting : Setting State) (fuel : ℕ) (progress : Progress Exchange) (least : ℕ) (events late : List (NumberedEvent Packet)) → Good progress.exchange → AllCome least (events ++ late) →
        Goes setting.state least late (course p fuel setting progress events)
    course_goes setting zero progress least events late g h = record {
      acts = tt;
      ends = record { outcome = tt; rest = late_come least events late h; exchange = g; after_wait = exchange_good progress g };
    }
    course_goes setting (suc fuel) progress least events late g h =
        go last.answer (from (is_at_or_past progress.due) events) heard.answer heard.rest (late_come least (before (is_at_or_past progress.due) events) (from (is_at_or_past progress.due) events ++ late) parts)
        (λ next vs g' h'. course_goes setting fuel next least vs late g' h')
      where
        last : Heard Packet Message Answer
        last = hear p setting progress.exchange (is_open progress.last) progress.words (before (is_at_or_past progress.due) events)

        parts : AllCome least (before (is_at_or_past progress.due) events ++ (from (is_at_or_past progress.due) events ++ late))
        parts = parts_come (is_at_or_past progress.due) least events late h

        heard : Hears setting.state least (from (is_at_or_past progress.due) events ++ late) last
        heard = hears setting progress.exchange (is_open progress.last) progress.words least (before (is_at_or_past progress.due) events) (from (is_at_or_past progress.due) events ++ late) g parts

        now : Progress Exchange
        now = record progress { words = last.words }

        by_end : (b : Bool) (v : NumberedEvent Packet) (vs : List (NumberedEvent Packet)) → AllCome least (v ∷ (vs ++ late)) →
            ((next : Progress Exchange) (xs : List (NumberedEvent Packet)) → Good next.exchange → AllCome least (xs ++ late) → Goes setting.state least late (course p fuel setting next xs)) →
            Goes setting.state least late (attempt_or_end p b (course p fuel setting) setting now last.acts v vs)
        by_end true v vs come ih = record {
          acts = says-append least setting.state last.acts (refused_release p setting progress.exchange v) heard.acts (denied least setting progress.exchange v);
          ends = record { outcome = tt; rest = after_call_come least v (vs ++ late) come; exchange = g; after_wait = exchange_good now g };
        }
        by_end false v vs come ih =
            let start : AttemptStart = record { is_first = is_none_yet progress.last; entered = setting.entered; now = v.moment } in
            let next : Goes setting.state least late (course p fuel setting (progress_after p setting now v) (after_call v ∷ vs)) =
            ih (progress_after p setting now v) (after_call v ∷ vs) (keeps.attempted setting.state (exchange_after p now) start last.words (exchange_good now g)) (after_call_come least v (vs ++ late) come) in
            record {
              acts = says-append least setting.state (last.acts ++ (refused_release p setting progress.exchange v ++ Attempted (attempt_at p setting now v) ∷ [])) (course p fuel setting (progress_after p setting now v) (after_call v ∷ vs)).acts
                  (says-append least setting.state last.acts (refused_release p setting progress.exchange v ++ Attempted (attempt_at p setting now v) ∷ []) heard.acts
                  (says-append least setting.state (refused_release p setting progress.exchange v) (Attempted (attempt_at p setting now v) ∷ []) (denied least setting progress.exchange v)
                  (record { reached = come.0.reached; fits = keeps.fits setting.state (exchange_after p now) start last.words (exchange_good now g) }, tt)))
                  next.acts;
              ends = next.ends;
            }

        go : (answer : Option Answer) (xs : List (NumberedEvent Packet)) → ReadIf (number_of (last.rest ++ (xs ++ late))) setting.state answer → AllCome least (last.rest ++ (xs ++ late)) → AllCome least (xs ++ late) →
            ((next : Progress Exchange) (xs : List (NumberedEvent Packet)) → Good next.exchange → AllCome least (xs ++ late) → Goes setting.state least late (course p fuel setting next xs)) →
            Goes setting.state least late (next_attempt p (course p fuel setting) setting now answer last xs)
        go (Some answer) xs read rest come ih = record {
          acts = heard.acts;
          ends = record {
            outcome = subst (λ (all : List (NumberedEvent Packet)). Read (number_of all) setting.state answer) (sym (append_assoc last.rest xs late)) read;
            rest = subst (AllCome least) (sym (append_assoc last.rest xs late)) rest;
            exchange = g;
            after_wait = g;
          };
        }
        go None [] read rest come ih = record { acts = heard.acts; ends = record { outcome = tt; rest = come; exchange = g; after_wait = exchange_good now g } }
        go None (v ∷ vs) read rest come ih = by_end (runs_out p setting now) v vs come ih

    -- how a stay gives way to the next one, whose state is held at a number, and whose events are at or past it
    record Turns (least : ℕ) (state : State) (turn : Transition Packet Message State Exchange) : Type 0 where
      acts : Says least state turn.acts
      next : ℕ
      held : Held next turn.entry.state
      exchange : Good turn.entry.exchange
      events : AllCome next turn.events

    module _ (setting : Setting State) (finish : Finish Packet Exchange Answer) (least : ℕ) (held : Held least setting.state) (exchange : Good finish.exchange) (after_wait : Good finish.after_wait) where
      cut_turns : (events : List (NumberedEvent Packet)) → AllCome least events → Turns least setting.state (cut p setting finish events)
      cut_turns [] h = record { acts = tt; next = least; held = held; exchange = exchange; events = tt }
      cut_turns (v ∷ vs) h = record {
        acts = tt;
        next = least;
        held = keeps.cut_held least finish.exchange;
        exchange = keeps.cut_good finish.exchange exchange;
        events = after_call_come least v vs h;
      }

      end_turns : (events : List (NumberedEvent Packet)) → AllCome least events → Turns least setting.state (end_at p setting finish events)
      end_turns [] h = cut_turns [] h
      end_turns (v ∷ vs) h = record {
        acts = denied least setting finish.exchange v;
        next = least;
        held = keeps.ended_held least setting.state finish.after_wait held;
        exchange = keeps.ended_good setting.state finish.after_wait after_wait;
        events = after_call_come least v vs h;
      }

      close_turns : (v : NumberedEvent Packet) (vs : List (NumberedEvent Packet)) (cut_now over : Bool) → AllCome least (v ∷ vs) → Turns least setting.state (close p cut_now over setting finish v vs)
      close_turns v vs true over h = cut_turns (v ∷ vs) h
      close_turns v vs false true h =
          let turn : Turns least setting.state (cut p setting finish (from (cuts p setting) (v ∷ vs))) = cut_turns (from (cuts p setting) (v ∷ vs)) (from_come (cuts p setting) least (v ∷ vs) h) in
          record { acts = overdue least setting finish.exchange (before (cuts p setting) (v ∷ vs)); next = turn.next; held = turn.held; exchange = turn.exchange; events = turn.events }
      close_turns v vs false false h = end_turns (v ∷ vs) h

    turns : (setting : Setting State) (finish : Finish Packet Exchange Answer) (least : ℕ) (late : List (NumberedEvent Packet)) → Held least setting.state → Ends setting.state least late finish → AllCome least late →
        Turns least setting.state (transition p setting finish late)
    turns setting finish least late held ends h = go finish.outcome late ends.outcome ends.rest h
      where
        go : (outcome : Outcome Answer) (events : List (NumberedEvent Packet)) → ReadBy (number_of (finish.rest ++ events)) setting.state outcome → AllCome least (finish.rest ++ events) → AllCome least events →
            Turns least setting.state (transition_by p outcome setting finish events)
        go (AnsweredBy answer) events read rest come = record {
          acts = tt;
          next = number_of (finish.rest ++ events);
          held = keeps.answered_held (number_of (finish.rest ++ events)) setting.state answer (moment_of (finish.rest ++ events)) finish.exchange read;
          exchange = keeps.answered_good setting.state answer (moment_of (finish.rest ++ events)) finish.exchange ends.exchange;
          events = packet_come least (finish.rest ++ events) rest;
        }
        go RanOut events read rest come = end_turns setting finish least held ends.exchange ends.after_wait (finish.rest ++ events) rest
        go Unanswered [] read rest come = cut_turns setting finish least held ends.exchange ends.after_wait [] tt
        go Unanswered (v ∷ vs) read rest come = close_turns setting finish least held ends.exchange ends.after_wait v vs (cuts p setting v) (overruns p setting v) come

    -- the stays of a history: the state of each is held at the event at which it is entered, and its attempts come no earlier
    pub record HoldsIn (stay : Stay State Message) : Type 0 where
      pub held : Held stay.entry stay.setting.state
      pub attempts : All (IsFrom stay.entry stay.setting.state) (attempts_of stay.acts)

    entry_good : (setting : Setting State) (entry : Entry State Exchange) (v : NumberedEvent Packet) → Good entry.exchange → Good (entry_progress p setting entry v).exchange
    entry_good setting entry v g = go (cuts p setting v)
      where
        go : (b : Bool) → Good (if b then record { last = NoneYet; due = None; exchange = entry.exchange; words = entry.words } else first_progress p entry v.moment).exchange
        go true = g
        go false = g

    stays_hold : (fuel timeout_sec : ℕ) (entry : Entry State Exchange) (least : ℕ) (events : List (NumberedEvent Packet)) → Held least entry.state → Good entry.exchange → AllCome least events →
        AllByRecursion HoldsIn (stays p fuel timeout_sec entry events)
    stays_hold fuel timeout_sec entry least [] held g h = tt
    stays_hold zero timeout_sec entry least (v ∷ vs) held g h = tt
    stays_hold (suc fuel) timeout_sec entry least (v ∷ vs) held g h =
        let setting : Setting State = setting_at timeout_sec entry v.moment in
        let here : AllCome v.number (v ∷ vs) = own_come least v vs h in
        let late : List (NumberedEvent Packet) = from (closes p setting) (v ∷ vs) in
        let run : Course Packet Message Exchange Answer = course p (suc (length (v ∷ vs))) setting (entry_progress p setting entry v) (before (closes p setting) (v ∷ vs)) in
        let goes : Goes entry.state v.number late run =
        course_goes setting (suc (length (v ∷ vs))) (entry_progress p setting entry v) v.number (before (closes p setting) (v ∷ vs)) late (entry_good setting entry v g) (cut_come (closes p setting) v.number (v ∷ vs) here) in
        let held_here : Held v.number entry.state = keeps.later least v.number entry.state h.0.reached held in
        let next : Transition Packet Message State Exchange = transition p setting run.finish late in
        let turn : Turns v.number entry.state next = turns setting run.finish v.number late held_here goes.ends (from_come (closes p setting) v.number (v ∷ vs) here) in (
          record {
            held = held_here;
            attempts = says_all v.number entry.state (run.acts ++ next.acts) (says-append v.number entry.state run.acts next.acts goes.acts turn.acts);
          },
          stays_hold fuel timeout_sec next.entry turn.next next.events turn.held turn.exchange turn.events,
        )

    pub history_holds_in : (script : Script Packet State Exchange) (least : ℕ) → Held least script.state → Good script.exchange → AllCome least script.events → AllByRecursion HoldsIn (history p script)
    history_holds_in script least held g h =
        stays_hold (8 * (length script.events + 1)) script.timeout_sec (record { state = script.state; exchange = script.exchange; words = script.words }) least script.events held g h
