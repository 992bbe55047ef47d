-- The polls of one event, one after another, go on with what is left of a history.
use Rattle.std.proofs.Common.{subst, ◌≡◌, ℕ, suc, zero, ◌+◌, ◌*◌, ◌≤◌, List, [], ◌∷◌, ◌++◌, length, refl, ap, Bool, true, false, arith, ◌∙◌, sym, append_assoc}
use Rattle.std.specs.Prelude.{Option, Some, None, flat_map, if◌then◌else◌, ◌&&◌, ◌||◌}
use Rattle.std.proofs.lemmas.Bool.{lt-leb}
use Rattle.dhcp_history.specs.Protocol.{Protocol, Lawful, has_come, pause_of}
use Rattle.dhcp_history.specs.Script.{Input, Nothing, Arrival, Release, CleanUp, NumberedEvent, NumberedReport}
use Rattle.dhcp_history.specs.History.{before, from, ends, overruns, closes, cuts, Progress, exchange_after, Course, course, Transition, transition, first_progress, entry_progress, entry_pause, setting_at, first_due, limit_moment, limit_after, act_outputs, stays, outputs, Setting, reading_of}
use Rattle.dhcp_history.specs.Script.{input_after_call}
use Rattle.dhcp_history.specs.Machine.{View, Phase, Unpolled, Pausing, Listening, Resting, Stopped, PollEffect, has_open_attempt, is_unpolled, is_stopped, begin_stay, begin_in, is_wait_over, exchange_at, has_ended, end_state, attempt_now, transmit, receive, transmit_and_receive, stop, poll, enter, polls, after_poll, handed_output, failed_output, replay_from}
use Rattle.dhcp_history.proofs.Steps.{IsPlain, called_plain}
use Rattle.dhcp_history.proofs.Polls.{setting_of, progress_of, entry_of, reported, turned, rest, stopped_rest, rest_ended, rest_failed, broken_on, closes_ended, changed, timed_out, moved, IsBegun, Follows, Reports, tried_due, tried_early, tried_follows, ran_out_follows}

broken_polled : (phase : Phase) → is_stopped phase ≡ true → is_unpolled phase ≡ false
broken_polled Unpolled b = absurd (cc b)
broken_polled Pausing b = refl
broken_polled Listening b = refl
broken_polled Resting b = refl
broken_polled Stopped b = refl

pub called_calm : {Packet : Type 0} (input : Input Packet) → input_after_call (input_after_call input) ≡ input_after_call input
called_calm Nothing = refl
called_calm (Arrival packet) = refl
called_calm Release = refl
called_calm CleanUp = refl

-- whether an event still has its packet
abbrev pub has_packet : {Packet : Type 0} → Input Packet → Bool
has_packet (Arrival packet) = true
has_packet _ = false

pub flat_map-append : {X A : Type 0} (f : X → List A) (xs ys : List X) → flat_map f (xs ++ ys) ≡ flat_map f xs ++ flat_map f ys
flat_map-append f [] ys = refl
flat_map-append f (x ∷ xs) ys = ap (λ (more : List _). f x ++ more) (flat_map-append f xs ys) ∙ sym (append_assoc (f x) (flat_map f xs) (flat_map f ys))

module _ {PublicState Packet Message State Exchange Answer Lease : Type 0} (p : Protocol PublicState Packet Message State Exchange Answer Lease) where
  -- a poll of a client that was polled before in this state
  abbrev pub poll_on : ℕ → Bool → Input Packet → View State Exchange → PollEffect Packet Message State Exchange
  poll_on now refuse input view =
      if is_stopped view.phase then stop input view
      else (if has_come now (limit_moment p view.timeout_sec view.entered view.state) then stop input view
      else (if has_ended p now view then end_state p now input view
      else transmit_and_receive p now refuse input view))

  -- a poll may draw the pause first, since a state that ends at once has none, and no limit is over at the first poll
  pub poll_begun : Lawful p → (now : ℕ) (refuse : Bool) (input : Input Packet) (view : View State Exchange) → poll p now refuse input view ≡ poll_on now refuse input (begin_stay p now view)
  poll_begun lawful now refuse input view = by_phase view.phase
    where
      not_over : (limited : Bool) (timeout_sec : ℕ) → has_come now (limit_after limited timeout_sec now) ≡ false
      not_over false timeout_sec = refl
      not_over true zero = refl
      not_over true (suc timeout_sec) = lt-leb (now + 1000 * suc timeout_sec) now (omega arith)

      fresh : View State Exchange
      fresh = record view { phase = Unpolled }

      same : has_come now (p.ending_moment view.state) ≡ true → end_state p now input fresh ≡ end_state p now input (begin_stay p now fresh)
      same e = ap (λ (words : List ℕ). end_state p now input (record fresh { words = words })) (sym (lawful.ended_draws_none view.state view.exchange view.words now e))

      by_end : (b : Bool) → has_come now (p.ending_moment view.state) ≡ b → poll p now refuse input fresh ≡ poll_on now refuse input (begin_stay p now fresh)
      by_end true e = rw (not_over (p.has_attempts view.state) view.timeout_sec, e) (same e)
      by_end false e = rw (not_over (p.has_attempts view.state) view.timeout_sec, e)

      by_phase : (phase : Phase) → poll p now refuse input (record view { phase = phase }) ≡ poll_on now refuse input (begin_stay p now (record view { phase = phase }))
      by_phase Unpolled = by_end (has_come now (p.ending_moment view.state)) refl
      by_phase Pausing = refl
      by_phase Listening = refl
      by_phase Resting = refl
      by_phase Stopped = refl

  -- what a poll is, by what has come
  pub poll_broken : (now : ℕ) (refuse : Bool) (input : Input Packet) (view : View State Exchange) → is_stopped view.phase ≡ true → poll_on now refuse input view ≡ stop input view
  poll_broken now refuse input view b = rw b

  pub poll_failed : (now : ℕ) (refuse : Bool) (input : Input Packet) (view : View State Exchange) → is_stopped view.phase ≡ false → has_come now (limit_moment p view.timeout_sec view.entered view.state) ≡ true →
      poll_on now refuse input view ≡ stop input view
  poll_failed now refuse input view b f = rw (b, f)

  pub poll_ended : (now : ℕ) (refuse : Bool) (input : Input Packet) (view : View State Exchange) → is_stopped view.phase ≡ false → has_come now (limit_moment p view.timeout_sec view.entered view.state) ≡ false →
      has_ended p now view ≡ true → poll_on now refuse input view ≡ end_state p now input view
  poll_ended now refuse input view b f e = rw (b, f, e)

  pub poll_tried : (now : ℕ) (refuse : Bool) (input : Input Packet) (view : View State Exchange) → is_stopped view.phase ≡ false → has_come now (limit_moment p view.timeout_sec view.entered view.state) ≡ false →
      has_ended p now view ≡ false → poll_on now refuse input view ≡ transmit_and_receive p now refuse input view
  poll_tried now refuse input view b f e = rw (b, f, e)

  begun_begun : (now : ℕ) (view : View State Exchange) → is_unpolled view.phase ≡ false → begin_stay p now view ≡ view
  begun_begun now view = go view.phase
    where
      go : (phase : Phase) → is_unpolled phase ≡ false → begin_in p phase now view ≡ view
      go Unpolled e = absurd (cc e)
      go Pausing e = refl
      go Listening e = refl
      go Resting e = refl
      go Stopped e = refl

  -- the exchange at the ending moment: the wait of an open attempt is over by then
  exchange_ended : (now : ℕ) (view : View State Exchange) → IsBegun p view → has_come now (p.ending_moment view.state) ≡ true → exchange_at p now view ≡ exchange_after p (progress_of p view)
  exchange_ended now view is_begun come = go view.phase refl
    where
      go : (phase : Phase) → view.phase ≡ phase → exchange_at p now view ≡ exchange_after p (progress_of p view)
      go Unpolled e = rw e
      go Pausing e = rw e
      go Resting e = rw e
      go Stopped e = rw e
      go Listening e =
          let due : has_come now view.deadline ≡ true = is_begun.timely now come (rw e) in
          rw (e, due)

  -- and at the end of a last attempt
  exchange_over : (now : ℕ) (view : View State Exchange) → is_wait_over p now view ≡ true → exchange_at p now view ≡ p.after_wait view.exchange
  exchange_over now view e = rw e

  first_of : (a b : Bool) → (a && b) ≡ true → a ≡ true
  first_of true b e = refl
  first_of false b e = e

  ended_as : (now : ℕ) (input : Input Packet) (view : View State Exchange) (exchange : Exchange) → exchange_at p now view ≡ exchange →
      end_state p now input view ≡ record {
        view = enter (p.after_end view.state exchange) view;
        handed = None;
        left = input;
        change = Some (p.after_end view.state exchange).state;
        failed = false;
      }
  ended_as now input view exchange e = rw e

  -- a poll that finds the state at its end goes on with the next state
  moved_on : (fuel : ℕ) (view : View State Exchange) (v : NumberedEvent Packet) (vs : List (NumberedEvent Packet)) (exchange : Exchange) (all : List (NumberedReport PublicState Message)) →
      exchange_at p v.moment view ≡ exchange → all ≡ moved p fuel view.timeout_sec v (p.after_end view.state exchange) view.words (v ∷ vs) →
      Reports p fuel v vs all (end_state p v.moment v.input view)
  moved_on fuel view v vs exchange all e h = subst (λ (once : PollEffect Packet Message State Exchange). Reports p fuel v vs all once) (sym (ended_as v.moment v.input view exchange e)) h

  -- one poll in the midst of a stay reports the first of what is to be reported
  poll_follows : Lawful p → (fuel steps : ℕ) (view : View State Exchange) (v : NumberedEvent Packet) (vs : List (NumberedEvent Packet)) → IsPlain p v → IsBegun p view → Follows p vs → suc (length vs) ≤ suc steps → 8 * length vs ≤ fuel →
      Reports p fuel v vs (rest p fuel (suc (suc steps)) view (v ∷ vs)) (poll_on v.moment v.refuse v.input view)
  poll_follows lawful fuel steps view v vs plain is_begun later enough enough_fuel = by_limit (overruns p (setting_of p view) v) refl
    where
      by_last : overruns p (setting_of p view) v ≡ false → ends p (setting_of p view) v ≡ false → (b : Bool) → (is_wait_over p v.moment view && p.is_last_attempt view.state view.exchange) ≡ b →
          Reports p fuel v vs (rest p fuel (suc (suc steps)) view (v ∷ vs)) (poll_on v.moment v.refuse v.input view)
      by_last f e true l =
          let over : has_ended p v.moment view ≡ true = rw (e, l) in
          rw (poll_ended v.moment v.refuse v.input view is_begun.works f over)
          (moved_on fuel view v vs (p.after_wait view.exchange) (rest p fuel (suc (suc steps)) view (v ∷ vs))
          (exchange_over v.moment view (first_of (is_wait_over p v.moment view) (p.is_last_attempt view.state view.exchange) l))
          (ran_out_follows p lawful fuel (suc steps) view.state view.timeout_sec view.entered v vs plain later (omega arith) enough_fuel view.exchange view.deadline view.words
          (closes_ended p (setting_of p view) v vs plain f ∙ e) e view.phase l))
      by_last f e false l =
          let lasts : has_ended p v.moment view ≡ false = rw (e, l) in
          rw (poll_tried v.moment v.refuse v.input view is_begun.works f lasts)
          (tried_follows p lawful fuel steps view.state view.timeout_sec view.entered v vs plain later enough enough_fuel view.exchange view.deadline view.words
          (closes_ended p (setting_of p view) v vs plain f ∙ e) e view.phase is_begun l)

      by_end : overruns p (setting_of p view) v ≡ false → (b : Bool) → ends p (setting_of p view) v ≡ b → Reports p fuel v vs (rest p fuel (suc (suc steps)) view (v ∷ vs)) (poll_on v.moment v.refuse v.input view)
      by_end f true e =
          let over : has_ended p v.moment view ≡ true = rw e in
          rw (poll_ended v.moment v.refuse v.input view is_begun.works f over)
          (moved_on fuel view v vs (exchange_after p (progress_of p view)) (rest p fuel (suc (suc steps)) view (v ∷ vs))
          (exchange_ended v.moment view is_begun e) (rest_ended p fuel (suc (suc steps)) view v vs plain f e))
      by_end f false e = by_last f e (is_wait_over p v.moment view && p.is_last_attempt view.state view.exchange) refl

      by_limit : (b : Bool) → overruns p (setting_of p view) v ≡ b → Reports p fuel v vs (rest p fuel (suc (suc steps)) view (v ∷ vs)) (poll_on v.moment v.refuse v.input view)
      by_limit true f =
          rw (poll_failed v.moment v.refuse v.input view is_begun.works f, rest_failed p fuel (suc (suc steps)) view v vs plain f)
          (ap (λ (more : List (NumberedReport PublicState Message)). timed_out p v ∷ more) (later.broken fuel (record view { phase = Stopped }) refl enough_fuel))
      by_limit false f = by_end f (ends p (setting_of p view) v) refl

  -- and so does one poll of a client whose time limit is over
  poll_broken_follows : (fuel : ℕ) (view : View State Exchange) (v : NumberedEvent Packet) (vs : List (NumberedEvent Packet)) → IsPlain p v → is_stopped view.phase ≡ true → Follows p vs → 8 * length vs ≤ fuel →
      Reports p fuel v vs (stopped_rest p fuel view (v ∷ vs)) (poll_on v.moment v.refuse v.input view)
  poll_broken_follows fuel view v vs plain b later enough_fuel =
      rw (poll_broken v.moment v.refuse v.input view b, broken_on p fuel view v vs plain)
      (ap (λ (more : List (NumberedReport PublicState Message)). timed_out p v ∷ more) (later.broken fuel (record view { phase = Stopped }) refl enough_fuel))

  module _ (lawful : Lawful p) where
    -- how many more changes an event can bring at most
    abbrev pub rank : State → Input Packet → ℕ
    rank state input = lawful.rank state (has_packet input)

    -- a poll that answers a change leaves a new state, and fewer changes to come
    pub record Moves (state : State) (input : Input Packet) (once : PollEffect Packet Message State Exchange) : Type 0 where
      pub fresh : once.view.phase ≡ Unpolled
      pub falls : suc (rank once.view.state once.left) ≤ rank state input
      pub calm : input_after_call input ≡ input → input_after_call once.left ≡ once.left

    taken_moves : (now : ℕ) (input : Input Packet) (handed : Option Message) (view : View State Exchange) (next : State) →
        (receive p now input handed view).change ≡ Some next → Moves view.state input (receive p now input handed view)
    taken_moves now input handed view next moves = by_phase (has_open_attempt view.phase) refl
      where
        by_answer : (input' : Input Packet) → input ≡ input' → has_open_attempt view.phase ≡ true → (answer : Option Answer) → (reading_of p view.state view.exchange view.words input).value ≡ answer →
            Moves view.state input (receive p now input handed view)
        by_answer input' w e None a = absurd (cc (rw (e, a) at moves))
        by_answer Nothing w e (Some answer) a = absurd (cc (rw w at a))
        by_answer Release w e (Some answer) a = absurd (cc (rw w at a))
        by_answer CleanUp w e (Some answer) a = absurd (cc (rw w at a))
        by_answer (Arrival packet) w e (Some answer) a =
            let reads : (p.reading view.state view.exchange packet view.words).value ≡ Some answer = rw w at a in
            rw (e, a) (record { fresh = refl; falls = rw w (lawful.rank_answered view.state view.exchange packet view.words answer now reads); calm = λ h. refl })

        by_phase : (b : Bool) → has_open_attempt view.phase ≡ b → Moves view.state input (receive p now input handed view)
        by_phase false e = absurd (cc (rw e at moves))
        by_phase true e = by_answer input refl e (reading_of p view.state view.exchange view.words input).value refl

    tried_moves : (now : ℕ) (refuse : Bool) (input : Input Packet) (view : View State Exchange) (next : State) →
        (transmit_and_receive p now refuse input view).change ≡ Some next → Moves view.state input (transmit_and_receive p now refuse input view)
    tried_moves now refuse input view next moves = go (has_come now view.deadline) refl
      where
        go : (b : Bool) → has_come now view.deadline ≡ b → Moves view.state input (transmit_and_receive p now refuse input view)
        go true e = rw (tried_due p now refuse input view e)
            (taken_moves now input (Some (attempt_now p now view).value.message) (transmit p now refuse view) next (rw (tried_due p now refuse input view e) at moves))
        go false e = rw (tried_early p now refuse input view e) (taken_moves now input None view next (rw (tried_early p now refuse input view e) at moves))

    -- what has ended by its last attempt has a last attempt
    ended_by : (now : ℕ) (view : View State Exchange) → has_ended p now view ≡ true → (has_come now (p.ending_moment view.state) || p.is_last_attempt view.state view.exchange) ≡ true
    ended_by now view e = go (has_come now (p.ending_moment view.state)) (is_wait_over p now view) (p.is_last_attempt view.state view.exchange) e
      where
        go : (a b c : Bool) → (a || (b && c)) ≡ true → (a || c) ≡ true
        go true b c e = refl
        go false true c e = e
        go false false c e = absurd (cc e)

    pub poll_moves : (now : ℕ) (refuse : Bool) (input : Input Packet) (view : View State Exchange) (next : State) →
        (poll_on now refuse input view).change ≡ Some next → Moves view.state input (poll_on now refuse input view)
    poll_moves now refuse input view next moves = by_phase (is_stopped view.phase) refl
      where
        by_end : is_stopped view.phase ≡ false → has_come now (limit_moment p view.timeout_sec view.entered view.state) ≡ false → (b : Bool) → has_ended p now view ≡ b → Moves view.state input (poll_on now refuse input view)
        by_end b f true e =
            rw (poll_ended now refuse input view b f e) (record {
              fresh = refl;
              falls = lawful.rank_ended view.state view.exchange (exchange_at p now view) (has_packet input) now (ended_by now view e);
              calm = λ h. h;
            })
        by_end b f false e = rw (poll_tried now refuse input view b f e) (tried_moves now refuse input view next (rw (poll_tried now refuse input view b f e) at moves))

        by_limit : is_stopped view.phase ≡ false → (b : Bool) → has_come now (limit_moment p view.timeout_sec view.entered view.state) ≡ b → Moves view.state input (poll_on now refuse input view)
        by_limit b true f = absurd (cc (rw (poll_failed now refuse input view b f) at moves))
        by_limit b false f = by_end b f (has_ended p now view) refl

        by_phase : (b : Bool) → is_stopped view.phase ≡ b → Moves view.state input (poll_on now refuse input view)
        by_phase true b = absurd (cc (rw (poll_broken now refuse input view b) at moves))
        by_phase false b = by_limit b (has_come now (limit_moment p view.timeout_sec view.entered view.state)) refl

  -- a client in a new state is in the midst of a stay once it is polled
  first_armed : (state : State) (moment now : ℕ) → has_come now (first_due p state moment) ≡ true → p.has_attempts state ≡ true
  first_armed state moment now e = go (p.has_attempts state) refl
    where
      go : (b : Bool) → p.has_attempts state ≡ b → p.has_attempts state ≡ true
      go true h = h
      go false h = absurd (cc (rw h at e))

  pub begun_is : (now : ℕ) (view : View State Exchange) → view.phase ≡ Unpolled → IsBegun p (begin_stay p now view)
  begun_is now view e = rw e (record {
    polled = refl;
    works = refl;
    timely = λ moment h listening. absurd (cc listening);
    armed = λ later h. first_armed view.state (now + (pause_of p view.state view.exchange view.words).value) later h;
  })

  pub begun_state : (now : ℕ) (view : View State Exchange) → (begin_stay p now view).state ≡ view.state
  begun_state now view = go view.phase
    where
      go : (phase : Phase) → (begin_in p phase now view).state ≡ view.state
      go Unpolled = refl
      go Pausing = refl
      go Listening = refl
      go Resting = refl
      go Stopped = refl

  -- the stays that are entered at an event are reported by what a client in the first one's state is still to report
  pub stay_reported : (fuel : ℕ) (setting : Setting State) (run : Course Packet Message Exchange Answer) (late : List (NumberedEvent Packet)) (entry paused : ℕ) →
      outputs p (record { setting = setting; entry = entry; pause = paused; acts = run.acts ++ (transition p setting run.finish late).acts; closing = (transition p setting run.finish late).closing }
      ∷ stays p fuel setting.timeout_sec (transition p setting run.finish late).entry (transition p setting run.finish late).events) ≡
      reported p fuel setting run late
  stay_reported fuel setting run late entry paused = go (transition p setting run.finish late)
    where
      go : (next : Transition Packet Message State Exchange) → outputs p (record { setting = setting; entry = entry; pause = paused; acts = run.acts ++ next.acts; closing = next.closing }
          ∷ stays p fuel setting.timeout_sec next.entry next.events) ≡ flat_map (act_outputs p) run.acts ++ turned p fuel setting next
      go next = rw (flat_map-append (act_outputs p) run.acts next.acts) (simp append_assoc)

  module _ (fuel : ℕ) (state : State) (exchange : Exchange) (timeout_sec entered : ℕ) (deadline : Option ℕ) (words : List ℕ) (v : NumberedEvent Packet) (vs : List (NumberedEvent Packet)) where
    abbrev fresh_view : View State Exchange
    fresh_view = record { state = state; exchange = exchange; timeout_sec = timeout_sec; entered = entered; phase = Unpolled; deadline = deadline; words = words }

    abbrev fresh_setting : Setting State
    fresh_setting = setting_at timeout_sec (entry_of p fresh_view) v.moment

    fresh_rest_in : cuts p fresh_setting v ≡ false → outputs p (stays p (suc fuel) timeout_sec (entry_of p fresh_view) (v ∷ vs)) ≡ rest p fuel (suc (length (v ∷ vs))) (begin_stay p v.moment fresh_view) (v ∷ vs)
    fresh_rest_in uncut =
        let progress_uncut : entry_progress p fresh_setting (entry_of p fresh_view) v ≡ first_progress p (entry_of p fresh_view) v.moment = rw uncut in
        stay_reported fuel fresh_setting (course p (suc (length (v ∷ vs))) fresh_setting (entry_progress p fresh_setting (entry_of p fresh_view) v) (before (closes p fresh_setting) (v ∷ vs)))
        (from (closes p fresh_setting) (v ∷ vs)) v.number (entry_pause p fresh_setting (entry_of p fresh_view) v) ∙
        ap (λ (progress : Progress Exchange). reported p fuel fresh_setting (course p (suc (length (v ∷ vs))) fresh_setting progress (before (closes p fresh_setting) (v ∷ vs))) (from (closes p fresh_setting) (v ∷ vs))) progress_uncut

  fresh_eta : (view : View State Exchange) → view.phase ≡ Unpolled →
      view ≡ record { state = view.state; exchange = view.exchange; timeout_sec = view.timeout_sec; entered = view.entered; phase = Unpolled; deadline = view.deadline; words = view.words }
  fresh_eta view e = rw (← e)

  pub fresh_rest : (fuel : ℕ) (view : View State Exchange) (v : NumberedEvent Packet) (vs : List (NumberedEvent Packet)) → view.phase ≡ Unpolled → cuts p (setting_at view.timeout_sec (entry_of p view) v.moment) v ≡ false →
      outputs p (stays p (suc fuel) view.timeout_sec (entry_of p view) (v ∷ vs)) ≡ rest p fuel (suc (length (v ∷ vs))) (begin_stay p v.moment view) (v ∷ vs)
  fresh_rest fuel view v vs e uncut =
      subst (λ (w : View State Exchange). outputs p (stays p (suc fuel) view.timeout_sec (entry_of p view) (v ∷ vs)) ≡ rest p fuel (suc (length (v ∷ vs))) (begin_stay p v.moment w) (v ∷ vs)) (sym (fresh_eta view e))
      (fresh_rest_in fuel view.state view.exchange view.timeout_sec view.entered view.deadline view.words v vs uncut)

  -- polling a client again changes nothing of how it began
  begun_twice : (now : ℕ) (view : View State Exchange) → begin_stay p now (begin_stay p now view) ≡ begin_stay p now view
  begun_twice now view = go view.phase refl
    where
      go : (phase : Phase) → view.phase ≡ phase → begin_stay p now (begin_stay p now view) ≡ begin_stay p now view
      go Unpolled e = rw e
      go Pausing e = rw e
      go Listening e = rw e
      go Resting e = rw e
      go Stopped e = rw e

  -- an event that has no call is plain
  plain_of : (v : NumberedEvent Packet) → input_after_call v.input ≡ v.input → IsPlain p v
  plain_of v calm = subst (λ (input : Input Packet). IsPlain p (record v { input = input })) calm (called_plain p v)

  -- what all polls of an event report, and then what the later events do, is what is to be reported
  module _ (lawful : Lawful p) (vs : List (NumberedEvent Packet)) (later : Follows p vs) where
    abbrev pub told : ℕ → NumberedEvent Packet → View State Exchange → List (NumberedReport PublicState Message)
    told polled v view = (polls p polled v view).outputs ++ replay_from p (polls p polled v view).view vs

    abbrev pub FreshFollows : ℕ → Type 0
    FreshFollows polled = (fuel : ℕ) (v : NumberedEvent Packet) (view : View State Exchange) → input_after_call v.input ≡ v.input → view.phase ≡ Unpolled → suc (rank lawful view.state v.input) ≤ polled → 8 * length vs + rank lawful view.state v.input ≤ fuel →
        outputs p (stays p (suc fuel) view.timeout_sec (entry_of p view) (v ∷ vs)) ≡ told polled v view

    abbrev pub BegunFollows : ℕ → Type 0
    BegunFollows polled = (fuel steps : ℕ) (v : NumberedEvent Packet) (view : View State Exchange) → input_after_call v.input ≡ v.input → IsBegun p view → suc (rank lawful view.state v.input) ≤ polled → 8 * length vs + rank lawful view.state v.input ≤ fuel → suc (length vs) ≤ suc steps →
        rest p fuel (suc (suc steps)) view (v ∷ vs) ≡ told polled v view

    -- one poll of a client that was polled before
    once_on : (polled : ℕ) (v : NumberedEvent Packet) (view : View State Exchange) → is_unpolled view.phase ≡ false →
        polls p (suc polled) v view ≡ after_poll p (polls p polled) v (poll_on v.moment v.refuse v.input view).change (poll_on v.moment v.refuse v.input view)
    once_on polled v view e =
        ap (λ (once : PollEffect Packet Message State Exchange). after_poll p (polls p polled) v once.change once) (poll_begun lawful v.moment v.refuse v.input view) ∙
        ap (λ (w : View State Exchange). after_poll p (polls p polled) v (poll_on v.moment v.refuse v.input w).change (poll_on v.moment v.refuse v.input w)) (begun_begun v.moment view e)

    begun_from_fresh : (polled : ℕ) → FreshFollows polled → BegunFollows (suc polled)
    begun_from_fresh polled fresh fuel steps v view calm is_begun few enough_fuel enough = rw (once_on polled v view is_begun.polled) (go fuel refl (poll_on v.moment v.refuse v.input view).change refl)
      where
        once : PollEffect Packet Message State Exchange
        once = poll_on v.moment v.refuse v.input view

        all : List (NumberedReport PublicState Message)
        all = rest p fuel (suc (suc steps)) view (v ∷ vs)

        step : Reports p fuel v vs all once
        step = poll_follows lawful fuel steps view v vs (plain_of v calm) is_begun later enough (omega arith)

        go : (fuel' : ℕ) → fuel ≡ fuel' → (change : Option State) → once.change ≡ change →
            all ≡ (after_poll p (polls p polled) v once.change once).outputs ++ replay_from p (after_poll p (polls p polled) v once.change once).view vs
        go fuel' f None e = step ∙ rw e (sym (append_assoc (handed_output v.number v.refuse once.handed) (failed_output v.number once.failed) (replay_from p once.view vs)))
        go zero f (Some next) e =
            let moves : Moves lawful view.state v.input once = poll_moves lawful v.moment v.refuse v.input view next e in
            absurd (omega (arith, moves.falls, f))
        go (suc fuel') f (Some next) e =
            let moves : Moves lawful view.state v.input once = poll_moves lawful v.moment v.refuse v.input view next e in
            let left : NumberedEvent Packet = record v { input = once.left } in
            let more : outputs p (stays p fuel once.view.timeout_sec (entry_of p once.view) (left ∷ vs)) ≡ told polled left once.view =
            rw f (fresh fuel' left once.view (moves.calm calm) moves.fresh (omega (arith, moves.falls)) (omega (arith, moves.falls, f))) in
            step ∙ rw (e, more) (sym (append_assoc (handed_output v.number v.refuse once.handed) (changed p v next ∷ (polls p polled left once.view).outputs) (replay_from p (polls p polled left once.view).view vs)))

    pub begun_polls : (polled : ℕ) (v : NumberedEvent Packet) (view : View State Exchange) → polls p (suc polled) v (begin_stay p v.moment view) ≡ polls p (suc polled) v view
    begun_polls polled v view =
        ap (λ (once : PollEffect Packet Message State Exchange). after_poll p (polls p polled) v once.change once) (poll_begun lawful v.moment v.refuse v.input (begin_stay p v.moment view)) ∙
        ap (λ (w : View State Exchange). after_poll p (polls p polled) v (poll_on v.moment v.refuse v.input w).change (poll_on v.moment v.refuse v.input w)) (begun_twice v.moment view) ∙
        sym (ap (λ (once : PollEffect Packet Message State Exchange). after_poll p (polls p polled) v once.change once) (poll_begun lawful v.moment v.refuse v.input view))

    fresh_from_begun : (polled : ℕ) → BegunFollows polled → FreshFollows polled
    fresh_from_begun zero begun_follows fuel v view calm e few enough_fuel = absurd (omega arith)
    fresh_from_begun (suc polled) begun_follows fuel v view calm e few enough_fuel =
        rw (fresh_rest fuel view v vs e ((plain_of v calm).uncut (setting_at view.timeout_sec (entry_of p view) v.moment)), ← begun_polls polled v view)
        (begun_follows fuel (length vs) v (begin_stay p v.moment view) calm (begun_is v.moment view e)
        (rw (begun_state v.moment view) few) (rw (begun_state v.moment view) enough_fuel) (omega arith))

    -- both, whatever the number of polls
    pub fresh_follows : (polled : ℕ) → FreshFollows polled
    fresh_follows zero = λ fuel v view calm e few enough_fuel. absurd (omega arith)
    fresh_follows (suc polled) = fresh_from_begun (suc polled) (begun_from_fresh polled (fresh_follows polled))

    pub begun_follows_all : (polled : ℕ) → BegunFollows (suc polled)
    begun_follows_all polled = begun_from_fresh polled (fresh_follows polled)

    -- a client whose time limit is over is polled once
    pub broken_follows : (polled fuel : ℕ) (v : NumberedEvent Packet) (view : View State Exchange) → input_after_call v.input ≡ v.input → is_stopped view.phase ≡ true → 8 * length vs ≤ fuel →
        stopped_rest p fuel view (v ∷ vs) ≡ told (suc polled) v view
    broken_follows polled fuel v view calm b enough_fuel =
        rw (once_on polled v view (broken_polled view.phase b), poll_broken v.moment v.refuse v.input view b)
        (rw (poll_broken v.moment v.refuse v.input view b) at (poll_broken_follows fuel view v vs (plain_of v calm) b later enough_fuel))
