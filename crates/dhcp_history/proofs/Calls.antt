-- The calls of events, and the theorem: the calls and polls of all events report the history of the script.
use Rattle.std.proofs.Common.{◌≡◌, ℕ, suc, zero, ◌+◌, ◌*◌, ◌≤◌, List, [], ◌∷◌, ◌++◌, length, refl, ap, Bool, true, false, arith, ◌∙◌, sym, append_assoc}
use Rattle.std.specs.Prelude.{Option, Some, None, flat_map, is_some, option_map}
use Rattle.dhcp_history.specs.Protocol.{Protocol, Lawful}
use Rattle.dhcp_history.specs.Script.{Input, Nothing, Arrival, Release, CleanUp, NumberedEvent, NumberedReport, Script}
use Rattle.dhcp_history.specs.History.{before, from, ends, overruns, closes, cuts, NoneYet, Progress, Course, course, Entry, Transition, transition, entry_progress, entry_pause, setting_at, act_outputs, closing_outputs, stays, outputs, history, Setting, Finish, refused_release, refused_release_of, cut_message, cuts_by, Cut, Act, limit_acts, cut, LimitOver, entry_of_next}
use Rattle.dhcp_history.specs.Script.{after_call}
use Rattle.dhcp_history.specs.Machine.{View, Phase, Unpolled, Pausing, Listening, Resting, Stopped, EventEffect, is_stopped, begin_stay, begin_in, call, call_by, release_of, clean_up, replay_from, replay, first_view}
use Rattle.dhcp_history.proofs.Steps.{called_plain, before_hit, from_hit, before_miss, from_miss, none_left, denied_first}
use Rattle.dhcp_history.proofs.Polls.{setting_of, progress_of, entry_of, reported, turned, rest, stopped_rest, rest_none, broken_none, finish_of, IsBegun, Follows}
use Rattle.dhcp_history.proofs.Follows.{flat_map-append, stay_reported, fresh_follows, begun_follows_all, broken_follows, fresh_rest, begun_is, begun_polls, rank, called_calm, begun_state, told, has_packet}

module _ {PublicState Packet Message State Exchange Answer Lease : Type 0} (p : Protocol PublicState Packet Message State Exchange Answer Lease) where
  -- the call of an event that cuts the stay, and of one that doesn't
  abbrev cut_outputs : Setting State → Exchange → NumberedEvent Packet → List (NumberedReport PublicState Message)
  cut_outputs setting exchange v = closing_outputs p (Cut v.number (cut_message p setting exchange v.input))

  -- what the stays report from a clean-up at this event on
  abbrev cut_stays : ℕ → ℕ → Exchange → List ℕ → NumberedEvent Packet → List (NumberedEvent Packet) → List (NumberedReport PublicState Message)
  cut_stays fuel timeout_sec exchange words v vs = outputs p (stays p fuel timeout_sec (entry_of_next (p.after_clean_up exchange) words) (after_call v ∷ vs))

  call_cut : (view : View State Exchange) (v : NumberedEvent Packet) → cuts p (setting_of p view) v ≡ true → call p v view ≡ record { outputs = cut_outputs (setting_of p view) view.exchange v; view = clean_up p view }
  call_cut view v e = by_what v.input e
    where
      by_held : (held : Option Lease) (refuse : Bool) → cuts_by {Packet = Packet} Release refuse (is_some held) ≡ true →
          release_of p held (record v { refuse = refuse }) view ≡ record { outputs = closing_outputs p (Cut v.number (option_map (λ lease. p.release_message lease view.exchange) held)); view = clean_up p view }
      by_held None refuse h = absurd (cc h)
      by_held (Some lease) true h = absurd (cc h)
      by_held (Some lease) false h = refl

      by_what : (input : Input Packet) → cuts_by input v.refuse (is_some (p.held_lease view.state)) ≡ true →
          call_by p input v view ≡ record { outputs = closing_outputs p (Cut v.number (cut_message p (setting_of p view) view.exchange input)); view = clean_up p view }
      by_what Nothing h = absurd (cc h)
      by_what (Arrival packet) h = absurd (cc h)
      by_what CleanUp h = refl
      by_what Release h = by_held (p.held_lease view.state) v.refuse h

  call_uncut : (view : View State Exchange) (v : NumberedEvent Packet) → cuts p (setting_of p view) v ≡ false → call p v view ≡ record { outputs = flat_map (act_outputs p) (refused_release p (setting_of p view) view.exchange v); view = view }
  call_uncut view v e = by_what v.input (p.held_lease view.state) refl e
    where
      by_refuse : (lease : Lease) (refuse : Bool) → cuts_by {Packet = Packet} Release refuse true ≡ false →
          release_of p (Some lease) (record v { refuse = refuse; input = Release }) view ≡ record { outputs = flat_map (act_outputs p) (refused_release_of p (Some lease) view.exchange (record v { refuse = refuse; input = Release })); view = view }
      by_refuse lease true h = refl
      by_refuse lease false h = absurd (cc h)

      by_what : (input : Input Packet) (held : Option Lease) → p.held_lease view.state ≡ held → cuts_by input v.refuse (is_some held) ≡ false →
          call_by p input (record v { input = input }) view ≡ record { outputs = flat_map (act_outputs p) (refused_release_of p held view.exchange (record v { input = input })); view = view }
      by_what Nothing None e h = refl
      by_what Nothing (Some lease) e h = refl
      by_what (Arrival packet) None e h = refl
      by_what (Arrival packet) (Some lease) e h = refl
      by_what CleanUp held e h = absurd (cc h)
      by_what Release None e h = rw e
      by_what Release (Some lease) e h = rw e (by_refuse lease v.refuse h)

  -- an event that cuts a stay
  rest_cut : (fuel steps : ℕ) (view : View State Exchange) (v : NumberedEvent Packet) (vs : List (NumberedEvent Packet)) → cuts p (setting_of p view) v ≡ true →
      rest p fuel steps view (v ∷ vs) ≡ cut_outputs (setting_of p view) view.exchange v ++ cut_stays fuel view.timeout_sec view.exchange view.words v vs
  rest_cut fuel steps view v vs e =
      let setting : Setting State = setting_of p view in
      let over : closes p setting v ≡ true = rw e in
      rw (before_hit (closes p setting) v vs over, from_hit (closes p setting) v vs over, none_left p steps setting (progress_of p view), e)

  broken_cut : (fuel : ℕ) (view : View State Exchange) (v : NumberedEvent Packet) (vs : List (NumberedEvent Packet)) → cuts p (setting_of p view) v ≡ true →
      stopped_rest p fuel view (v ∷ vs) ≡ cut_outputs (setting_of p view) view.exchange v ++ cut_stays fuel view.timeout_sec view.exchange view.words v vs
  broken_cut fuel view v vs e =
      let setting : Setting State = setting_of p view in
      rw (before_hit (cuts p setting) v vs e, from_hit (cuts p setting) v vs e)

  cut_reported : (fuel steps : ℕ) (setting : Setting State) (progress : Progress Exchange) (v : NumberedEvent Packet) (vs : List (NumberedEvent Packet)) → cuts p setting v ≡ true →
      reported p fuel setting (course p steps setting progress (before (closes p setting) (v ∷ vs))) (from (closes p setting) (v ∷ vs)) ≡
      cut_outputs setting progress.exchange v ++ cut_stays fuel setting.timeout_sec progress.exchange progress.words v vs
  cut_reported fuel steps setting progress v vs e =
      let over : closes p setting v ≡ true = rw e in
      rw (before_hit (closes p setting) v vs over, from_hit (closes p setting) v vs over, none_left p steps setting progress, e)

  -- a client that is cut before its first poll
  fresh_cut : (fuel : ℕ) (view : View State Exchange) (v : NumberedEvent Packet) (vs : List (NumberedEvent Packet)) → cuts p (setting_of p view) v ≡ true →
      outputs p (stays p (suc fuel) view.timeout_sec (entry_of p view) (v ∷ vs)) ≡ cut_outputs (setting_of p view) view.exchange v ++ cut_stays fuel view.timeout_sec view.exchange view.words v vs
  fresh_cut fuel view v vs e =
      let setting : Setting State = setting_at view.timeout_sec (entry_of p view) v.moment in
      let progress : Progress Exchange = record { last = NoneYet; due = None; exchange = view.exchange; words = view.words } in
      let progress_cut : entry_progress p setting (entry_of p view) v ≡ progress = rw e in
      stay_reported p fuel setting (course p (suc (length (v ∷ vs))) setting (entry_progress p setting (entry_of p view) v) (before (closes p setting) (v ∷ vs)))
      (from (closes p setting) (v ∷ vs)) v.number (entry_pause p setting (entry_of p view) v) ∙
      ap (λ (q : Progress Exchange). reported p fuel setting (course p (suc (length (v ∷ vs))) setting q (before (closes p setting) (v ∷ vs))) (from (closes p setting) (v ∷ vs))) progress_cut ∙
      cut_reported fuel (suc (length (v ∷ vs))) setting progress v vs e

  -- an event with a release that cuts nothing: what is refused comes first
  module _ (fuel steps : ℕ) (view : View State Exchange) (number moment : ℕ) (refuse : Bool) (vs : List (NumberedEvent Packet)) where
    abbrev release_at : NumberedEvent Packet
    release_at = record { number = number; moment = moment; refuse = refuse; input = Release }

    abbrev quiet_at : NumberedEvent Packet
    quiet_at = record { number = number; moment = moment; refuse = refuse; input = Nothing }

    abbrev the_setting : Setting State
    the_setting = setting_of p view

    quiet : refused_release p the_setting view.exchange quiet_at ≡ []
    quiet = (called_plain p release_at).undenied the_setting view.exchange

    -- acts that come first are reported first
    first_deeds : (acts more : List (Act Message)) (outs : List (NumberedReport PublicState Message)) → flat_map (act_outputs p) (acts ++ more) ++ outs ≡ flat_map (act_outputs p) acts ++ (flat_map (act_outputs p) more ++ outs)
    first_deeds acts more outs = rw (flat_map-append (act_outputs p) acts more) (append_assoc (flat_map (act_outputs p) acts) (flat_map (act_outputs p) more) outs)

    overdue_deeds : (acts : List (Act Message)) (act : Act Message) (more : List (Act Message)) (outs : List (NumberedReport PublicState Message)) →
        flat_map (act_outputs p) ((acts ++ act ∷ []) ++ more) ++ outs ≡ flat_map (act_outputs p) acts ++ (flat_map (act_outputs p) (act ∷ more) ++ outs)
    overdue_deeds acts act more outs = rw (append_assoc acts (act ∷ []) more) (first_deeds acts (act ∷ more) outs)

    abbrev later_deeds : List (Act Message)
    later_deeds = flat_map (limit_acts p the_setting view.exchange) (before (cuts p the_setting) vs)

    abbrev cut_later : Finish Packet Exchange Answer → List (NumberedReport PublicState Message)
    cut_later finish =
        let next : Transition Packet Message State Exchange = cut p the_setting finish (from (cuts p the_setting) vs) in
        closing_outputs p next.closing ++ outputs p (stays p fuel the_setting.timeout_sec next.entry next.events)

    broken_uncut_in : cuts p the_setting release_at ≡ false →
        stopped_rest p fuel view (release_at ∷ vs) ≡ flat_map (act_outputs p) (refused_release p the_setting view.exchange release_at) ++ stopped_rest p fuel view (quiet_at ∷ vs)
    broken_uncut_in e =
        rw (before_miss (cuts p the_setting) release_at vs e, from_miss (cuts p the_setting) release_at vs e, quiet)
        (overdue_deeds (refused_release p the_setting view.exchange release_at) (LimitOver number) later_deeds (cut_later (finish_of p view)))

    abbrev Splits : Type 0
    Splits = rest p fuel (suc steps) view (release_at ∷ vs) ≡ flat_map (act_outputs p) (refused_release p the_setting view.exchange release_at) ++ rest p fuel (suc steps) view (quiet_at ∷ vs)

    rest_uncut_in : cuts p the_setting release_at ≡ false → Splits
    rest_uncut_in e = by_limit (overruns p the_setting release_at) refl
      where
        by_end : overruns p the_setting release_at ≡ false → (b : Bool) → ends p the_setting release_at ≡ b → Splits
        by_end f true h =
            let over : closes p the_setting release_at ≡ true = rw (e, f, h) in
            let over' : closes p the_setting quiet_at ≡ true = rw (f, h) in
            rw (
              before_hit (closes p the_setting) release_at vs over,
              from_hit (closes p the_setting) release_at vs over,
              before_hit (closes p the_setting) quiet_at vs over',
              from_hit (closes p the_setting) quiet_at vs over',
              e,
              f,
              quiet,
            )
        by_end f false h =
            let lasts : closes p the_setting release_at ≡ false = rw (e, f, h) in
            let lasts' : closes p the_setting quiet_at ≡ false = rw (f, h) in
            let run : Course Packet Message Exchange Answer = course p (suc steps) the_setting (progress_of p view) (quiet_at ∷ before (closes p the_setting) vs) in
            rw (
              before_miss (closes p the_setting) release_at vs lasts,
              from_miss (closes p the_setting) release_at vs lasts,
              before_miss (closes p the_setting) quiet_at vs lasts',
              from_miss (closes p the_setting) quiet_at vs lasts',
              denied_first p steps the_setting (progress_of p view) number moment refuse (before (closes p the_setting) vs),
            )
            (first_deeds (refused_release p the_setting view.exchange release_at) run.acts (turned p fuel the_setting (transition p the_setting run.finish (from (closes p the_setting) vs))))

        by_limit : (b : Bool) → overruns p the_setting release_at ≡ b → Splits
        by_limit true f =
            let over : closes p the_setting release_at ≡ true = rw (e, f) in
            let over' : closes p the_setting quiet_at ≡ true = rw f in
            rw (
              before_hit (closes p the_setting) release_at vs over,
              from_hit (closes p the_setting) release_at vs over,
              before_hit (closes p the_setting) quiet_at vs over',
              from_hit (closes p the_setting) quiet_at vs over',
              e,
              f,
              before_miss (cuts p the_setting) release_at vs e,
              from_miss (cuts p the_setting) release_at vs e,
              quiet,
            )
            (overdue_deeds (refused_release p the_setting view.exchange release_at) (LimitOver number) later_deeds (cut_later (finish_of p view)))
        by_limit false f = by_end f (ends p the_setting release_at) refl

  -- an event that cuts nothing: what is refused comes first, and then the event goes on without its call
  rest_uncut : (fuel steps : ℕ) (view : View State Exchange) (v : NumberedEvent Packet) (vs : List (NumberedEvent Packet)) → cuts p (setting_of p view) v ≡ false →
      rest p fuel (suc steps) view (v ∷ vs) ≡ flat_map (act_outputs p) (refused_release p (setting_of p view) view.exchange v) ++ rest p fuel (suc steps) view (after_call v ∷ vs)
  rest_uncut fuel steps view v vs e = go v.input e
    where
      go : (input : Input Packet) → cuts p (setting_of p view) (record v { input = input }) ≡ false →
          rest p fuel (suc steps) view (record v { input = input } ∷ vs) ≡ flat_map (act_outputs p) (refused_release p (setting_of p view) view.exchange (record v { input = input })) ++ rest p fuel (suc steps) view (after_call (record v { input = input }) ∷ vs)
      go Nothing h = rw ((called_plain p (record v { input = Nothing })).undenied (setting_of p view) view.exchange)
      go (Arrival packet) h = rw ((called_plain p (record v { input = Arrival packet })).undenied (setting_of p view) view.exchange)
      go CleanUp h = absurd (cc h)
      go Release h = rest_uncut_in fuel steps view v.number v.moment v.refuse vs h

  broken_uncut : (fuel : ℕ) (view : View State Exchange) (v : NumberedEvent Packet) (vs : List (NumberedEvent Packet)) → cuts p (setting_of p view) v ≡ false →
      stopped_rest p fuel view (v ∷ vs) ≡ flat_map (act_outputs p) (refused_release p (setting_of p view) view.exchange v) ++ stopped_rest p fuel view (after_call v ∷ vs)
  broken_uncut fuel view v vs e = go v.input e
    where
      go : (input : Input Packet) → cuts p (setting_of p view) (record v { input = input }) ≡ false →
          stopped_rest p fuel view (record v { input = input } ∷ vs) ≡ flat_map (act_outputs p) (refused_release p (setting_of p view) view.exchange (record v { input = input })) ++ stopped_rest p fuel view (after_call (record v { input = input }) ∷ vs)
      go Nothing h = rw ((called_plain p (record v { input = Nothing })).undenied (setting_of p view) view.exchange)
      go (Arrival packet) h = rw ((called_plain p (record v { input = Arrival packet })).undenied (setting_of p view) view.exchange)
      go CleanUp h = absurd (cc h)
      go Release h = broken_uncut_in fuel zero view v.number v.moment v.refuse vs h

  denied_begun : (now : ℕ) (view : View State Exchange) (v : NumberedEvent Packet) → refused_release p (setting_of p (begin_stay p now view)) (begin_stay p now view).exchange v ≡ refused_release p (setting_of p view) view.exchange v
  denied_begun now view v = go view.phase (p.held_lease view.state) refl
    where
      go : (phase : Phase) (held : Option Lease) → p.held_lease view.state ≡ held → refused_release p (setting_of p (begin_in p phase now view)) (begin_in p phase now view).exchange v ≡ refused_release p (setting_of p view) view.exchange v
      go Unpolled None e = rw e
      go Unpolled (Some lease) e = rw e
      go Pausing held e = refl
      go Listening held e = refl
      go Resting held e = refl
      go Stopped held e = refl

  -- from any event on, what is still to be reported is reported
  module _ (lawful : Lawful p) (v : NumberedEvent Packet) (vs : List (NumberedEvent Packet)) (later : Follows p vs) where
    few_changes : (state : State) (input : Input Packet) → rank p lawful state input ≤ 6
    few_changes state input = lawful.rank_bound state (has_packet input)

    cut_follows : (fuel : ℕ) (view : View State Exchange) → 8 * suc (length vs) ≤ suc fuel → cuts p (setting_of p view) v ≡ true →
        cut_outputs (setting_of p view) view.exchange v ++ cut_stays (suc fuel) view.timeout_sec view.exchange view.words v vs ≡ replay_from p view (v ∷ vs)
    cut_follows fuel view enough_fuel e =
        rw (call_cut view v e) (ap (λ (more : List (NumberedReport PublicState Message)). cut_outputs (setting_of p view) view.exchange v ++ more)
        (fresh_follows p lawful vs later 7 fuel (after_call v) (clean_up p view) (called_calm v.input) refl
        (omega (arith, few_changes (clean_up p view).state (after_call v).input)) (omega (arith, few_changes (clean_up p view).state (after_call v).input))))

    begun_event : (fuel steps : ℕ) (view : View State Exchange) → IsBegun p view → suc (suc (length vs)) ≤ suc (suc steps) → 8 * suc (length vs) ≤ suc fuel →
        rest p (suc fuel) (suc (suc steps)) view (v ∷ vs) ≡ replay_from p view (v ∷ vs)
    begun_event fuel steps view is_begun enough enough_fuel = go (cuts p (setting_of p view) v) refl
      where
        go : (b : Bool) → cuts p (setting_of p view) v ≡ b → rest p (suc fuel) (suc (suc steps)) view (v ∷ vs) ≡ replay_from p view (v ∷ vs)
        go true e = rest_cut (suc fuel) (suc (suc steps)) view v vs e ∙ cut_follows fuel view enough_fuel e
        go false e =
            rw (call_uncut view v e, rest_uncut (suc fuel) (suc steps) view v vs e) (ap (λ (more : List (NumberedReport PublicState Message)). flat_map (act_outputs p) (refused_release p (setting_of p view) view.exchange v) ++ more)
            (begun_follows_all p lawful vs later 6 (suc fuel) steps (after_call v) view (called_calm v.input) is_begun
            (omega (arith, few_changes view.state (after_call v).input)) (omega (arith, few_changes view.state (after_call v).input)) (omega arith)))

    broken_event : (fuel : ℕ) (view : View State Exchange) → is_stopped view.phase ≡ true → 8 * suc (length vs) ≤ suc fuel → stopped_rest p (suc fuel) view (v ∷ vs) ≡ replay_from p view (v ∷ vs)
    broken_event fuel view b enough_fuel = go (cuts p (setting_of p view) v) refl
      where
        go : (c : Bool) → cuts p (setting_of p view) v ≡ c → stopped_rest p (suc fuel) view (v ∷ vs) ≡ replay_from p view (v ∷ vs)
        go true e = broken_cut (suc fuel) view v vs e ∙ cut_follows fuel view enough_fuel e
        go false e =
            rw (call_uncut view v e, broken_uncut (suc fuel) view v vs e) (ap (λ (more : List (NumberedReport PublicState Message)). flat_map (act_outputs p) (refused_release p (setting_of p view) view.exchange v) ++ more)
            (broken_follows p lawful vs later 6 (suc fuel) (after_call v) view (called_calm v.input) b (omega arith)))

    fresh_event : (fuel : ℕ) (view : View State Exchange) → view.phase ≡ Unpolled → 8 * suc (length vs) ≤ suc fuel →
        outputs p (stays p (suc (suc fuel)) view.timeout_sec (entry_of p view) (v ∷ vs)) ≡ replay_from p view (v ∷ vs)
    fresh_event fuel view fresh enough_fuel = go (cuts p (setting_of p view) v) refl
      where
        go : (b : Bool) → cuts p (setting_of p view) v ≡ b → outputs p (stays p (suc (suc fuel)) view.timeout_sec (entry_of p view) (v ∷ vs)) ≡ replay_from p view (v ∷ vs)
        go true e = fresh_cut (suc fuel) view v vs e ∙ cut_follows fuel view enough_fuel e
        go false e =
            let begun_view : View State Exchange = begin_stay p v.moment view in
            let uncut : cuts p (setting_of p begun_view) v ≡ false = rw (begun_state p v.moment view) e in
            let few : suc (rank p lawful begun_view.state (after_call v).input) ≤ 7 = omega (arith, few_changes begun_view.state (after_call v).input) in
            let room : 8 * length vs + rank p lawful begun_view.state (after_call v).input ≤ suc fuel = omega (arith, few_changes begun_view.state (after_call v).input) in
            let polled : rest p (suc fuel) (suc (suc (length vs))) begun_view (after_call v ∷ vs) ≡ told p lawful vs later 7 (after_call v) begun_view =
            begun_follows_all p lawful vs later 6 (suc fuel) (length vs) (after_call v) begun_view (called_calm v.input) (begun_is p v.moment view fresh) few room (omega arith) in
            let same : told p lawful vs later 7 (after_call v) begun_view ≡ told p lawful vs later 7 (after_call v) view =
            ap (λ (once : EventEffect PublicState Message State Exchange). once.outputs ++ replay_from p once.view vs) (begun_polls p lawful vs later 6 (after_call v) view) in
            fresh_rest p (suc fuel) view v vs fresh e ∙
            rest_uncut (suc fuel) (suc (length vs)) begun_view v vs uncut ∙
            ap (λ (acts : List (Act Message)). flat_map (act_outputs p) acts ++ rest p (suc fuel) (suc (suc (length vs))) begun_view (after_call v ∷ vs)) (denied_begun v.moment view v) ∙
            ap (λ (more : List (NumberedReport PublicState Message)). flat_map (act_outputs p) (refused_release p (setting_of p view) view.exchange v) ++ more) (polled ∙ same) ∙
            sym (ap (λ (first : EventEffect PublicState Message State Exchange). first.outputs ++ told p lawful vs later 7 (after_call v) first.view) (call_uncut view v e))

  module _ (lawful : Lawful p) where
    events_follow : (vs : List (NumberedEvent Packet)) → Follows p vs
    events_follow [] = record { begun = λ fuel steps view is_begun enough enough_fuel. rest_none p fuel steps view; broken = λ fuel view b enough_fuel. broken_none p fuel view }
    events_follow (v ∷ vs) = record {
      begun = begun_by (events_follow vs);
      broken = broken_by (events_follow vs);
    }
      where
        begun_by : Follows p vs → (fuel steps : ℕ) (view : View State Exchange) → IsBegun p view → suc (length (v ∷ vs)) ≤ steps → 8 * length (v ∷ vs) ≤ fuel → rest p fuel steps view (v ∷ vs) ≡ replay_from p view (v ∷ vs)
        begun_by later zero steps view is_begun enough enough_fuel = absurd (omega arith)
        begun_by later (suc fuel) zero view is_begun enough enough_fuel = absurd (omega arith)
        begun_by later (suc fuel) (suc zero) view is_begun enough enough_fuel = absurd (omega arith)
        begun_by later (suc fuel) (suc (suc steps)) view is_begun enough enough_fuel = begun_event lawful v vs later fuel steps view is_begun enough enough_fuel

        broken_by : Follows p vs → (fuel : ℕ) (view : View State Exchange) → is_stopped view.phase ≡ true → 8 * length (v ∷ vs) ≤ fuel → stopped_rest p fuel view (v ∷ vs) ≡ replay_from p view (v ∷ vs)
        broken_by later zero view b enough_fuel = absurd (omega arith)
        broken_by later (suc fuel) view b enough_fuel = broken_event lawful v vs later fuel view b enough_fuel

    -- the calls and polls of all events of a script report the script's history
    pub replay_history : (script : Script Packet State Exchange) → replay p script ≡ outputs p (history p script)
    replay_history script = go script.events (8 * (length script.events + 1)) refl
      where
        first : Entry State Exchange
        first = record { state = script.state; exchange = script.exchange; words = script.words }

        go : (events : List (NumberedEvent Packet)) (fuel : ℕ) → 8 * (length events + 1) ≡ fuel → replay_from p (first_view script) events ≡ outputs p (stays p fuel script.timeout_sec first events)
        go [] fuel e = refl
        go (v ∷ vs) zero e = absurd (omega arith)
        go (v ∷ vs) (suc zero) e = absurd (omega arith)
        go (v ∷ vs) (suc (suc fuel)) e = sym (fresh_event lawful v vs (events_follow vs) fuel (first_view script) refl (omega arith))
