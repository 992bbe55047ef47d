-- How one poll goes on with what is left of a history.
use Rattle.std.proofs.Common.{◌≡◌, ℕ, suc, ◌+◌, ◌*◌, ◌≤◌, ◌<◌, List, [], ◌∷◌, ◌++◌, length, refl, ap, Bool, true, false, arith, ◌∙◌}
use Rattle.std.specs.Prelude.{Option, Some, None, if◌then◌else◌, flat_map, ◌&&◌}
use Rattle.std.proofs.lemmas.Bool.{leb-false, lt-leb, leb-true, le-leb}
use Rattle.dhcp_history.specs.declared.rules.AttemptStart.{AttemptStart}
use Rattle.dhcp_history.specs.declared.rules.NewAttempt.{NewAttempt}
use Rattle.dhcp_clock.specs.Words.{Drawn}
use Rattle.dhcp_history.specs.Protocol.{Protocol, Lawful, NextState, has_come}
use Rattle.dhcp_history.specs.Script.{Input, NumberedEvent, NumberedReport, Changed, Handed, Refused, Failed, TimedOut}
use Rattle.dhcp_history.specs.History.{before, from, is_at_or_past, ends, overruns, closes, cuts, LastAttempt, NoneYet, Open, Unsent, is_open, last_by, Progress, exchange_after, runs_out, Course, course, Entry, entry_of_next, Transition, transition, stays, after_packet, outputs, act_outputs, attempt_at, progress_after, closing_outputs, Setting, Finish, Unanswered, cut, limit_acts, Attempted, reading_of}
use Rattle.dhcp_history.specs.Machine.{View, Phase, Unpolled, Pausing, Listening, Resting, Stopped, phase_by, PollEffect, has_open_attempt, is_pausing, is_unpolled, is_stopped, is_wait_over, exchange_at, attempt_now, transmit, take_answer, receive, transmit_and_receive, handed_output, failed_output, replay_from}
use Rattle.dhcp_history.proofs.Steps.{IsPlain, before_hit, before_miss, from_hit, from_miss, before-from, none_left, attempt_stands, attempts_run_out, nothing_stands, goes_on, is_answered}

-- the last attempt of the stay in progress, as the phase tells it
abbrev pub last_of : Phase → LastAttempt
last_of Listening = Open
last_of Resting = Unsent
last_of _ = NoneYet

-- an attempt that has just begun isn't due at its own moment
pub not_due : (now wait : ℕ) → 0 < wait → has_come now (Some (now + wait)) ≡ false
not_due now wait h = lt-leb (now + wait) now (omega arith)

module _ {PublicState Packet Message State Exchange Answer Lease : Type 0} (p : Protocol PublicState Packet Message State Exchange Answer Lease) where
  -- the setting and the place of the stay in progress, as the view tells them
  abbrev pub setting_of : View State Exchange → Setting State
  setting_of view = record { state = view.state; entered = view.entered; timeout_sec = view.timeout_sec }

  abbrev pub progress_of : View State Exchange → Progress Exchange
  progress_of view = record { last = last_of view.phase; due = view.deadline; exchange = view.exchange; words = view.words }

  abbrev pub entry_of : View State Exchange → Entry State Exchange
  entry_of view = record { state = view.state; exchange = view.exchange; words = view.words }

  -- what is still to be reported after a transition: its acts, the change, and the stays that follow
  abbrev pub turned : ℕ → Setting State → Transition Packet Message State Exchange → List (NumberedReport PublicState Message)
  turned fuel setting next =
      flat_map (act_outputs p) next.acts ++ (closing_outputs p next.closing ++ outputs p (stays p fuel setting.timeout_sec next.entry next.events))

  -- what is still to be reported where a stay runs so, and these are the events from its end on
  abbrev pub reported : ℕ → Setting State → Course Packet Message Exchange Answer → List (NumberedEvent Packet) → List (NumberedReport PublicState Message)
  reported fuel setting run late = flat_map (act_outputs p) run.acts ++ turned fuel setting (transition p setting run.finish late)

  -- what is still to be reported from a view in the midst of a stay
  abbrev pub rest : ℕ → ℕ → View State Exchange → List (NumberedEvent Packet) → List (NumberedReport PublicState Message)
  rest fuel steps view events =
      reported fuel (setting_of view) (course p steps (setting_of view) (progress_of view) (before (closes p (setting_of view)) events)) (from (closes p (setting_of view)) events)

  abbrev pub finish_of : View State Exchange → Finish Packet Exchange Answer
  finish_of view = record { outcome = Unanswered; rest = []; exchange = view.exchange; after_wait = exchange_after p (progress_of view); words = view.words }

  -- what is still to be reported from a view whose time limit is over
  abbrev pub stopped_rest : ℕ → View State Exchange → List (NumberedEvent Packet) → List (NumberedReport PublicState Message)
  stopped_rest fuel view events =
      turned fuel (setting_of view) (record (cut p (setting_of view) (finish_of view) (from (cuts p (setting_of view)) events)) {
        acts = flat_map (limit_acts p (setting_of view) view.exchange) (before (cuts p (setting_of view)) events);
      })

  abbrev pub changed : NumberedEvent Packet → State → NumberedReport PublicState Message
  changed event next = record { event = event.number; report = Changed (p.public_state next) }

  abbrev pub timed_out : NumberedEvent Packet → NumberedReport PublicState Message
  timed_out event = record { event = event.number; report = Failed TimedOut }

  -- the change to the next state, and then what the stays report from there on
  abbrev pub moved : ℕ → ℕ → NumberedEvent Packet → NextState State Exchange → List ℕ → List (NumberedEvent Packet) → List (NumberedReport PublicState Message)
  moved fuel timeout_sec event next words events = changed event next.state ∷ outputs p (stays p fuel timeout_sec (entry_of_next next words) events)

  -- with no event left nothing is reported
  pub rest_none : (fuel steps : ℕ) (view : View State Exchange) → rest fuel steps view [] ≡ []
  rest_none fuel steps view = rw (none_left p steps (setting_of view) (progress_of view))

  pub broken_none : (fuel : ℕ) (view : View State Exchange) → stopped_rest fuel view [] ≡ []
  broken_none fuel view = refl

  module _ (setting : Setting State) (v : NumberedEvent Packet) (vs : List (NumberedEvent Packet)) (plain : IsPlain p v) where
    pub closes_failed : overruns p setting v ≡ true → closes p setting v ≡ true
    closes_failed e = rw (plain.uncut setting, e)

    pub closes_ended : overruns p setting v ≡ false → closes p setting v ≡ ends p setting v
    closes_ended e = rw (plain.uncut setting, e)

  -- a stay whose time limit is over at this event reports so
  pub rest_failed : (fuel steps : ℕ) (view : View State Exchange) (v : NumberedEvent Packet) (vs : List (NumberedEvent Packet)) → IsPlain p v → overruns p (setting_of view) v ≡ true →
      rest fuel steps view (v ∷ vs) ≡ timed_out v ∷ stopped_rest fuel view vs
  rest_failed fuel steps view v vs plain e =
      let setting : Setting State = setting_of view in
      let over : closes p setting v ≡ true = closes_failed setting v vs plain e in
      rw (
        before_hit (closes p setting) v vs over,
        from_hit (closes p setting) v vs over,
        none_left p steps setting (progress_of view),
        plain.uncut setting,
        e,
        before_miss (cuts p setting) v vs (plain.uncut setting),
        from_miss (cuts p setting) v vs (plain.uncut setting),
        plain.undenied setting view.exchange,
      )

  -- a stay whose time limit is over reports so at each event that doesn't cut it
  pub broken_on : (fuel : ℕ) (view : View State Exchange) (v : NumberedEvent Packet) (vs : List (NumberedEvent Packet)) → IsPlain p v → stopped_rest fuel view (v ∷ vs) ≡ timed_out v ∷ stopped_rest fuel view vs
  broken_on fuel view v vs plain =
      let setting : Setting State = setting_of view in
      rw (before_miss (cuts p setting) v vs (plain.uncut setting), from_miss (cuts p setting) v vs (plain.uncut setting), plain.undenied setting view.exchange)

  -- a stay that ends at this event reports the change
  pub rest_ended : (fuel steps : ℕ) (view : View State Exchange) (v : NumberedEvent Packet) (vs : List (NumberedEvent Packet)) → IsPlain p v → overruns p (setting_of view) v ≡ false → ends p (setting_of view) v ≡ true →
      rest fuel steps view (v ∷ vs) ≡ moved fuel view.timeout_sec v (p.after_end view.state (exchange_after p (progress_of view))) view.words (v ∷ vs)
  rest_ended fuel steps view v vs plain f e =
      let setting : Setting State = setting_of view in
      let over : closes p setting v ≡ true = closes_ended setting v vs plain f ∙ e in
      rw (before_hit (closes p setting) v vs over, from_hit (closes p setting) v vs over, none_left p steps setting (progress_of view), plain.uncut setting, f, plain.undenied setting view.exchange, plain.same)

  module _ (fuel steps : ℕ) (state : State) (exchange : Exchange) (timeout_sec entered : ℕ) (due : Option ℕ) (words : List ℕ) (v : NumberedEvent Packet) (vs : List (NumberedEvent Packet)) (plain : IsPlain p v) where
    abbrev view_in : Phase → View State Exchange
    view_in phase = record { state = state; exchange = exchange; timeout_sec = timeout_sec; entered = entered; phase = phase; deadline = due; words = words }

    abbrev setting : Setting State
    setting = record { state = state; entered = entered; timeout_sec = timeout_sec }

    module _ (lasts : closes p setting v ≡ false) where
      window_goes_on : before (closes p setting) (v ∷ vs) ≡ v ∷ before (closes p setting) vs
      window_goes_on = before_miss (closes p setting) v vs lasts

      -- an attempt that is due is made at this event
      rest_attempt : (phase : Phase) → is_at_or_past due v ≡ true → runs_out p setting (progress_of (view_in phase)) ≡ false →
          rest fuel (suc steps) (view_in phase) (v ∷ vs) ≡
          flat_map (act_outputs p) (Attempted (attempt_at p setting (progress_of (view_in phase)) v) ∷ []) ++
          reported fuel setting (course p steps setting (progress_after p setting (progress_of (view_in phase)) v) (v ∷ before (closes p setting) vs)) (from (closes p setting) (v ∷ vs))
      rest_attempt phase e more = rw (window_goes_on, attempt_stands p steps setting due exchange words v (before (closes p setting) vs) plain (last_of phase) e more)

      -- or the stay ends, where the last attempt was the last of all
      rest_ran_out : is_at_or_past due v ≡ true → p.is_last_attempt state exchange ≡ true →
          rest fuel (suc steps) (view_in Listening) (v ∷ vs) ≡ moved fuel timeout_sec v (p.after_end state (p.after_wait exchange)) words (v ∷ vs)
      rest_ran_out e over =
          rw (
            window_goes_on,
            from_miss (closes p setting) v vs lasts,
            attempts_run_out p steps setting due exchange words v (before (closes p setting) vs) plain e over,
            before-from (closes p setting) vs,
            plain.undenied setting exchange,
            plain.same,
          )

      -- nothing is due, and no attempt is open
      rest_waits : (phase : Phase) → is_open (last_of phase) ≡ false → is_at_or_past due v ≡ false → rest fuel (suc steps) (view_in phase) (v ∷ vs) ≡ rest fuel (suc steps) (view_in phase) vs
      rest_waits phase shut e =
          rw (window_goes_on, from_miss (closes p setting) v vs lasts, nothing_stands p steps setting due exchange words v (before (closes p setting) vs) plain (last_of phase) shut e)

      -- nothing is due, and the packet doesn't answer
      rest_listens : is_at_or_past due v ≡ false → (reading_of p state exchange words v.input).value ≡ None →
          rest fuel (suc steps) (view_in Listening) (v ∷ vs) ≡
          rest fuel (suc steps) (record (view_in Listening) { words = (reading_of p state exchange words v.input).left }) vs
      rest_listens e none = rw (window_goes_on, from_miss (closes p setting) v vs lasts, goes_on p steps setting due exchange words v (before (closes p setting) vs) plain e none)

      -- nothing is due, and the packet answers
      rest_answered : (answer : Answer) → is_at_or_past due v ≡ false → (reading_of p state exchange words v.input).value ≡ Some answer →
          rest fuel (suc steps) (view_in Listening) (v ∷ vs) ≡
          moved fuel timeout_sec v (p.after_answer state answer v.moment exchange) (reading_of p state exchange words v.input).left (after_packet (v ∷ vs))
      rest_answered answer e some =
          rw (window_goes_on, from_miss (closes p setting) v vs lasts, is_answered p steps setting due exchange words v (before (closes p setting) vs) plain answer e some, before-from (closes p setting) vs)

  -- a view in the midst of a stay: it was polled, its time limit wasn't found over, an open attempt is due by the end of the
  -- state, and an attempt is due only where the state has attempts
  pub record IsBegun (view : View State Exchange) : Type 0 where
    pub polled : is_unpolled view.phase ≡ false
    pub works : is_stopped view.phase ≡ false
    pub timely : (now : ℕ) → has_come now (p.ending_moment view.state) ≡ true → has_open_attempt view.phase ≡ true → has_come now view.deadline ≡ true
    pub armed : (now : ℕ) → has_come now view.deadline ≡ true → p.has_attempts view.state ≡ true

  -- the polls of these events report what is still to be reported
  pub record Follows (vs : List (NumberedEvent Packet)) : Type 0 where
    pub begun : (fuel steps : ℕ) (view : View State Exchange) → IsBegun view → suc (length vs) ≤ steps → 8 * length vs ≤ fuel → rest fuel steps view vs ≡ replay_from p view vs
    pub broken : (fuel : ℕ) (view : View State Exchange) → is_stopped view.phase ≡ true → 8 * length vs ≤ fuel → stopped_rest fuel view vs ≡ replay_from p view vs

  -- what is to be reported after a poll: by the polls of the next events, or as the stays that are entered at this event
  abbrev pub followed : ℕ → NumberedEvent Packet → List (NumberedEvent Packet) → Option State → PollEffect Packet Message State Exchange → List (NumberedReport PublicState Message)
  followed fuel v vs None once = failed_output v.number once.failed ++ replay_from p once.view vs
  followed fuel v vs (Some next) once =
      changed v next ∷ outputs p (stays p fuel once.view.timeout_sec (entry_of once.view) (record v { input = once.left } ∷ vs))

  -- what is to be reported is what this poll reports, and what follows
  abbrev pub Reports : ℕ → NumberedEvent Packet → List (NumberedEvent Packet) → List (NumberedReport PublicState Message) → PollEffect Packet Message State Exchange → Type 0
  Reports fuel v vs all once = all ≡ handed_output v.number v.refuse once.handed ++ followed fuel v vs once.change once

  pub tried_due : (now : ℕ) (refuse : Bool) (input : Input Packet) (view : View State Exchange) → has_come now view.deadline ≡ true →
      transmit_and_receive p now refuse input view ≡ receive p now input (Some (attempt_now p now view).value.message) (transmit p now refuse view)
  tried_due now refuse input view e = rw e

  pub tried_early : (now : ℕ) (refuse : Bool) (input : Input Packet) (view : View State Exchange) → has_come now view.deadline ≡ false → transmit_and_receive p now refuse input view ≡ receive p now input None view
  tried_early now refuse input view e = rw e

  -- an attempt that follows a taken one
  tried_over : (now : ℕ) (refuse : Bool) (input : Input Packet) (view : View State Exchange) → has_open_attempt view.phase ≡ true → has_come now view.deadline ≡ true →
      let attempt = p.attempt view.state (p.after_wait view.exchange) (record { is_first = is_pausing view.phase; entered = view.entered; now = now }) view.words in
      transmit_and_receive p now refuse input view ≡
      receive p now input (Some attempt.value.message) (record view { phase = phase_by refuse; deadline = Some (now + attempt.value.wait); exchange = attempt.value.exchange; words = attempt.left })
  tried_over now refuse input view l e =
      let counts : exchange_at p now view ≡ p.after_wait view.exchange = rw (l, e) in
      tried_due now refuse input view e ∙
      ap (λ (exchange : Exchange).
      let attempt : Drawn (NewAttempt Exchange Message) = p.attempt view.state exchange (record { is_first = is_pausing view.phase; entered = view.entered; now = now }) view.words in
      receive p now input (Some attempt.value.message) (record view { phase = phase_by refuse; deadline = Some (now + attempt.value.wait); exchange = attempt.value.exchange; words = attempt.left }))
      counts

  taken_handed : (now : ℕ) (input : Input Packet) (handed : Option Message) (view : View State Exchange) → (receive p now input handed view).handed ≡ handed
  taken_handed now input handed view = by_phase (has_open_attempt view.phase) refl
    where
      by_answer : (answer : Option Answer) (words : List ℕ) → (take_answer p now handed view answer words).handed ≡ handed
      by_answer None words = refl
      by_answer (Some answer) words = refl

      by_phase : (b : Bool) → has_open_attempt view.phase ≡ b → (receive p now input handed view).handed ≡ handed
      by_phase true e = rw e (by_answer (reading_of p view.state view.exchange view.words input).value (reading_of p view.state view.exchange view.words input).left)
      by_phase false e = rw e

  module _ (lawful : Lawful p) where
    -- an open attempt is due by the moment that ends its state
    due_by_end : (state : State) (exchange : Exchange) (start : AttemptStart) (words : List ℕ) → p.has_attempts state ≡ true → has_come start.now (p.ending_moment state) ≡ false →
        (later : ℕ) → has_come later (p.ending_moment state) ≡ true → has_come later (Some (start.now + (p.attempt state exchange start words).value.wait)) ≡ true
    due_by_end state exchange start words tries lasts later come = go (p.ending_moment state) refl
      where
        go : (end : Option ℕ) → p.ending_moment state ≡ end → has_come later (Some (start.now + (p.attempt state exchange start words).value.wait)) ≡ true
        go None e = absurd (cc (rw e at come))
        go (Some moment) e =
            let over : moment ≤ later = leb-true moment later (rw e at come) in
            let soon : start.now < moment = leb-false moment start.now (rw e at lasts) in
            le-leb (start.now + (p.attempt state exchange start words).value.wait) later (omega (arith, lawful.wait_within state exchange start words moment tries e soon))

    module _ (fuel steps : ℕ) (state : State) (timeout_sec entered : ℕ) (v : NumberedEvent Packet) (vs : List (NumberedEvent Packet)) (plain : IsPlain p v)
        (later : Follows vs) (enough : suc (length vs) ≤ suc steps) (enough_fuel : 8 * length vs ≤ fuel) where
      abbrev the_setting : Setting State
      the_setting = record { state = state; entered = entered; timeout_sec = timeout_sec }

      abbrev view_at : Exchange → Option ℕ → List ℕ → Phase → View State Exchange
      view_at exchange due words phase = record { state = state; exchange = exchange; timeout_sec = timeout_sec; entered = entered; phase = phase; deadline = due; words = words }

      module _ (lasts : closes p the_setting v ≡ false) (unended : ends p the_setting v ≡ false) where
        -- the packet is taken where nothing is due
        taken_follows : (exchange : Exchange) (due : Option ℕ) (words : List ℕ) (handed : Option Message) (phase : Phase) → is_at_or_past due v ≡ false → IsBegun (view_at exchange due words phase) →
            rest fuel (suc steps) (view_at exchange due words phase) (v ∷ vs) ≡
            followed fuel v vs (receive p v.moment v.input handed (view_at exchange due words phase)).change (receive p v.moment v.input handed (view_at exchange due words phase))
        taken_follows exchange due words handed Unpolled waits begun = absurd (cc begun.polled)
        taken_follows exchange due words handed Stopped waits begun = absurd (cc begun.works)
        taken_follows exchange due words handed Pausing waits begun =
            rest_waits fuel steps state exchange timeout_sec entered due words v vs plain lasts Pausing refl waits ∙ later.begun fuel (suc steps) (view_at exchange due words Pausing) begun enough enough_fuel
        taken_follows exchange due words handed Resting waits begun =
            rest_waits fuel steps state exchange timeout_sec entered due words v vs plain lasts Resting refl waits ∙ later.begun fuel (suc steps) (view_at exchange due words Resting) begun enough enough_fuel
        taken_follows exchange due words handed Listening waits begun = go (reading_of p state exchange words v.input).value refl
          where
            go : (answer : Option Answer) → (reading_of p state exchange words v.input).value ≡ answer →
                rest fuel (suc steps) (view_at exchange due words Listening) (v ∷ vs) ≡
                followed fuel v vs (receive p v.moment v.input handed (view_at exchange due words Listening)).change (receive p v.moment v.input handed (view_at exchange due words Listening))
            go None e = rw (rest_listens fuel steps state exchange timeout_sec entered due words v vs plain lasts waits e, e)
                (later.begun fuel (suc steps) (record (view_at exchange due words Listening) { words = (reading_of p state exchange words v.input).left })
                (record { polled = refl; works = refl; timely = begun.timely; armed = begun.armed }) enough enough_fuel)
            go (Some answer) e = rw (rest_answered fuel steps state exchange timeout_sec entered due words v vs plain lasts answer waits e, e)

        -- what an attempt that begins here leaves to be reported
        begins : (tries : p.has_attempts state ≡ true) (handed : Option Message) (exchange : Exchange) (first : Bool) (words : List ℕ) (refuse : Bool) →
            let attempt = p.attempt state exchange (record { is_first = first; entered = entered; now = v.moment }) words in
            let progress : Progress Exchange = record { last = last_by refuse; due = Some (v.moment + attempt.value.wait); exchange = attempt.value.exchange; words = attempt.left } in
            let once = receive p v.moment v.input handed (view_at attempt.value.exchange (Some (v.moment + attempt.value.wait)) attempt.left (phase_by refuse)) in
            reported fuel the_setting (course p (suc steps) the_setting progress (v ∷ before (closes p the_setting) vs)) (from (closes p the_setting) (v ∷ vs)) ≡ followed fuel v vs once.change once
        begins tries handed exchange first words true =
            let start : AttemptStart = record { is_first = first; entered = entered; now = v.moment } in
            let attempt : Drawn (NewAttempt Exchange Message) = p.attempt state exchange start words in
            rw (before_miss (closes p the_setting) v vs lasts) at
            (taken_follows attempt.value.exchange (Some (v.moment + attempt.value.wait)) attempt.left handed Resting (not_due v.moment attempt.value.wait (lawful.wait_positive state exchange start words unended))
            (record { polled = refl; works = refl; timely = λ now e listening. absurd (cc listening); armed = λ now e. tries }))
        begins tries handed exchange first words false =
            let start : AttemptStart = record { is_first = first; entered = entered; now = v.moment } in
            let attempt : Drawn (NewAttempt Exchange Message) = p.attempt state exchange start words in
            rw (before_miss (closes p the_setting) v vs lasts) at
            (taken_follows attempt.value.exchange (Some (v.moment + attempt.value.wait)) attempt.left handed Listening (not_due v.moment attempt.value.wait (lawful.wait_positive state exchange start words unended))
            (record { polled = refl; works = refl; timely = λ now e listening. due_by_end state exchange start words tries unended now e; armed = λ now e. tries }))

        -- an attempt that begins here is handed, and what follows it is reported
        handed_follows : (tries : p.has_attempts state ≡ true) (exchange : Exchange) (first : Bool) (words : List ℕ) →
            let attempt = p.attempt state exchange (record { is_first = first; entered = entered; now = v.moment }) words in
            let progress : Progress Exchange = record { last = last_by v.refuse; due = Some (v.moment + attempt.value.wait); exchange = attempt.value.exchange; words = attempt.left } in
            Reports fuel v vs (record { event = v.number; report = if v.refuse then Refused attempt.value.message else Handed attempt.value.message } ∷
            reported fuel the_setting (course p (suc steps) the_setting progress (v ∷ before (closes p the_setting) vs)) (from (closes p the_setting) (v ∷ vs)))
            (receive p v.moment v.input (Some attempt.value.message) (view_at attempt.value.exchange (Some (v.moment + attempt.value.wait)) attempt.left (phase_by v.refuse)))
        handed_follows tries exchange first words =
            let attempt : Drawn (NewAttempt Exchange Message) = p.attempt state exchange (record { is_first = first; entered = entered; now = v.moment }) words in
            rw (taken_handed v.moment v.input (Some attempt.value.message) (view_at attempt.value.exchange (Some (v.moment + attempt.value.wait)) attempt.left (phase_by v.refuse)))
            (ap (λ (more : List (NumberedReport PublicState Message)). record { event = v.number; report = if v.refuse then Refused attempt.value.message else Handed attempt.value.message } ∷ more)
            (begins tries (Some attempt.value.message) exchange first words v.refuse))

    module _ (fuel steps : ℕ) (state : State) (timeout_sec entered : ℕ) (v : NumberedEvent Packet) (vs : List (NumberedEvent Packet)) (plain : IsPlain p v)
        (later : Follows vs) (enough : suc (length vs) ≤ suc steps) (enough_fuel : 8 * length vs ≤ fuel)
        (exchange : Exchange) (due : Option ℕ) (words : List ℕ) where
      abbrev the_set : Setting State
      the_set = record { state = state; entered = entered; timeout_sec = timeout_sec }

      abbrev view_by : Phase → View State Exchange
      view_by phase = record { state = state; exchange = exchange; timeout_sec = timeout_sec; entered = entered; phase = phase; deadline = due; words = words }

      module _ (lasts : closes p the_set v ≡ false) (unended : ends p the_set v ≡ false) where
        due_follows : (phase : Phase) → IsBegun (view_by phase) → is_at_or_past due v ≡ true → (is_wait_over p v.moment (view_by phase) && p.is_last_attempt state exchange) ≡ false →
            Reports fuel v vs (rest fuel (suc (suc steps)) (view_by phase) (v ∷ vs)) (transmit_and_receive p v.moment v.refuse v.input (view_by phase))
        due_follows Unpolled begun e more = absurd (cc begun.polled)
        due_follows Stopped begun e more = absurd (cc begun.works)
        due_follows Pausing begun e more =
            rw (tried_due v.moment v.refuse v.input (view_by Pausing) e, rest_attempt fuel (suc steps) state exchange timeout_sec entered due words v vs plain lasts Pausing e refl)
            (handed_follows fuel steps state timeout_sec entered v vs plain later enough enough_fuel lasts unended (begun.armed v.moment e) exchange true words)
        due_follows Resting begun e more =
            rw (tried_due v.moment v.refuse v.input (view_by Resting) e, rest_attempt fuel (suc steps) state exchange timeout_sec entered due words v vs plain lasts Resting e refl)
            (handed_follows fuel steps state timeout_sec entered v vs plain later enough enough_fuel lasts unended (begun.armed v.moment e) exchange false words)
        due_follows Listening begun e more =
            rw (tried_over v.moment v.refuse v.input (view_by Listening) refl e, rest_attempt fuel (suc steps) state exchange timeout_sec entered due words v vs plain lasts Listening e (rw e at more))
            (handed_follows fuel steps state timeout_sec entered v vs plain later enough enough_fuel lasts unended (begun.armed v.moment e) (p.after_wait exchange) false words)

        pub tried_follows : (phase : Phase) → IsBegun (view_by phase) → (is_wait_over p v.moment (view_by phase) && p.is_last_attempt state exchange) ≡ false →
            Reports fuel v vs (rest fuel (suc (suc steps)) (view_by phase) (v ∷ vs)) (transmit_and_receive p v.moment v.refuse v.input (view_by phase))
        tried_follows phase begun more = go (is_at_or_past due v) refl
          where
            go : (b : Bool) → is_at_or_past due v ≡ b → Reports fuel v vs (rest fuel (suc (suc steps)) (view_by phase) (v ∷ vs)) (transmit_and_receive p v.moment v.refuse v.input (view_by phase))
            go true e = due_follows phase begun e more
            go false e =
                rw (tried_early v.moment v.refuse v.input (view_by phase) e, taken_handed v.moment v.input None (view_by phase))
                (taken_follows fuel (suc steps) state timeout_sec entered v vs plain later (omega arith) enough_fuel lasts unended exchange due words None phase e begun)

        -- a last attempt whose wait is over ends the stay
        pub ran_out_follows : (phase : Phase) → (is_wait_over p v.moment (view_by phase) && p.is_last_attempt state exchange) ≡ true →
            rest fuel (suc steps) (view_by phase) (v ∷ vs) ≡ moved fuel timeout_sec v (p.after_end state (p.after_wait exchange)) words (v ∷ vs)
        ran_out_follows Unpolled over = absurd (cc over)
        ran_out_follows Stopped over = absurd (cc over)
        ran_out_follows Pausing over = absurd (cc over)
        ran_out_follows Resting over = absurd (cc over)
        ran_out_follows Listening over = go (is_at_or_past due v) refl (p.is_last_attempt state exchange) refl
          where
            go : (b : Bool) → is_at_or_past due v ≡ b → (c : Bool) → p.is_last_attempt state exchange ≡ c → rest fuel (suc steps) (view_by Listening) (v ∷ vs) ≡ moved fuel timeout_sec v (p.after_end state (p.after_wait exchange)) words (v ∷ vs)
            go true e true f = rest_ran_out fuel steps state exchange timeout_sec entered due words v vs plain lasts e f
            go true e false f = absurd (cc (rw (e, f) at over))
            go false e c f = absurd (cc (rw e at over))
