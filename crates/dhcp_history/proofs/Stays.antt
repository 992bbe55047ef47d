-- How the stays of a history follow one another: the last one lasts, all others close.
use Rattle.std.proofs.Common.{subst, ◌≡◌, ℕ, suc, zero, ◌+◌, ◌*◌, ◌≤◌, ◌<◌, List, [], ◌∷◌, ◌++◌, length, length-append, refl, ap, Bool, true, false, arith, ◌∙◌, sym, ◌⊎◌, inl, inr}
use Rattle.std.specs.Prelude.{Option, Some, None, ◌&&◌, ◌||◌}
use Rattle.std.specs.List.{AllByRecursion}
use Rattle.dhcp_history.specs.Protocol.{Protocol, Lawful, has_come}
use Rattle.dhcp_history.specs.Script.{Input, Nothing, Arrival, Release, CleanUp, NumberedEvent, Script}
use Rattle.dhcp_history.specs.History.{before, from, is_at_or_past, cuts, overruns, ends, closes, after_packet, is_open, Progress, runs_out, Heard, hear, reading_of, reading_if, Course, course, next_attempt, attempt_or_end, progress_after, Finish, Outcome, Unanswered, AnsweredBy, RanOut, Act, Lasts, Setting, Stay, Entry, Transition, transition, transition_by, close, cut, setting_at, entry_progress, entry_pause, stays, history}
use Rattle.dhcp_history.specs.Script.{after_call, input_after_call}
use Rattle.dhcp_history.specs.Bounds.{CloseInTurn}
use Rattle.dhcp_history.proofs.Steps.{from_hit, from_miss, before-from, called_plain}
use Rattle.dhcp_history.proofs.Follows.{has_packet}

module _ {Packet : Type 0} where
  -- the event and those after it are among these events: they are fewer, or the event is the first one, or what is left of it after its call
  abbrev pub Within : NumberedEvent Packet → List (NumberedEvent Packet) → List (NumberedEvent Packet) → Type 0
  Within v vs [] = ⊥
  Within v vs (first ∷ later) = (suc (length vs) ≤ length later) ⊎ (record { same : length vs ≡ length later; is_first : (v ≡ first) ⊎ (v ≡ after_call first) })

  called_twice : (input : Input Packet) → input_after_call (input_after_call input) ≡ input_after_call input
  called_twice Nothing = refl
  called_twice (Arrival packet) = refl
  called_twice Release = refl
  called_twice CleanUp = refl

  within_length : (v : NumberedEvent Packet) (vs ws : List (NumberedEvent Packet)) → Within v vs ws → suc (length vs) ≤ length ws
  within_length v vs [] w = absurd w
  within_length v vs (first ∷ later) (inl w) = omega (arith, w)
  within_length v vs (first ∷ later) (inr w) = omega (arith, w.same)

  within_called : (v : NumberedEvent Packet) (vs ws : List (NumberedEvent Packet)) → Within v vs ws → Within (after_call v) vs ws
  within_called v vs [] w = absurd w
  within_called v vs (first ∷ later) (inl w) = inl w
  within_called v vs (first ∷ later) (inr w) = inr (record { same = w.same; is_first = inr (go w.is_first) })
    where
      go : (v ≡ first) ⊎ (v ≡ after_call first) → after_call v ≡ after_call first
      go (inl e) = ap (λ (x : NumberedEvent Packet). after_call x) e
      go (inr e) = ap (λ (x : NumberedEvent Packet). after_call x) e ∙ ap (λ (input : Input Packet). record first { input = input }) (called_twice first.input)

  within_more : (v : NumberedEvent Packet) (vs ws late : List (NumberedEvent Packet)) → Within v vs ws → Within v (vs ++ late) (ws ++ late)
  within_more v vs [] late w = absurd w
  within_more v vs (first ∷ later) late (inl w) = inl (omega (arith, w, length-append vs late, length-append later late))
  within_more v vs (first ∷ later) late (inr w) = inr (record { same = omega (arith, w.same, length-append vs late, length-append later late); is_first = w.is_first })

  within_later : (v : NumberedEvent Packet) (vs ws late : List (NumberedEvent Packet)) → Within v vs late → Within v vs (ws ++ late)
  within_later v vs [] late w = w
  within_later v vs (first ∷ later) late w = inl (omega (arith, within_length v vs late w, length-append later late))

  -- among what is left of events that are among these events
  within_within : (v x : NumberedEvent Packet) (vs xs ws : List (NumberedEvent Packet)) → Within v vs (after_call x ∷ xs) → Within x xs ws → Within v vs ws
  within_within v x vs xs [] w h = absurd h
  within_within v x vs xs (first ∷ later) (inl w) (inl h) = inl (omega (arith, w, h))
  within_within v x vs xs (first ∷ later) (inl w) (inr h) = inl (omega (arith, w, h.same))
  within_within v x vs xs (first ∷ later) (inr w) (inl h) = inl (omega (arith, w.same, h))
  within_within v x vs xs (first ∷ later) (inr w) (inr h) = inr (record { same = omega (arith, w.same, h.same); is_first = inr (left w.is_first ∙ right h.is_first) })
    where
      twice : (y : NumberedEvent Packet) → after_call (after_call y) ≡ after_call y
      twice y = ap (λ (input : Input Packet). record y { input = input }) (called_twice y.input)

      left : (v ≡ after_call x) ⊎ (v ≡ after_call (after_call x)) → v ≡ after_call x
      left (inl e) = e
      left (inr e) = e ∙ twice x

      right : (x ≡ first) ⊎ (x ≡ after_call first) → after_call x ≡ after_call first
      right (inl e) = ap (λ (y : NumberedEvent Packet). after_call y) e
      right (inr e) = ap (λ (y : NumberedEvent Packet). after_call y) e ∙ twice first

  within_from : (test : NumberedEvent Packet → Bool) (ws : List (NumberedEvent Packet)) (v : NumberedEvent Packet) (vs : List (NumberedEvent Packet)) → from test ws ≡ v ∷ vs → Within v vs ws
  within_from test [] v vs e = absurd (cc e)
  within_from test (first ∷ later) v vs e = go (test first) refl (λ h. within_from test later v vs h)
    where
      head_of : {A : Type 0} (a b : A) (xs ys : List A) → a ∷ xs ≡ b ∷ ys → b ≡ a
      head_of a b xs ys h = cc

      tail_of : {A : Type 0} (a b : A) (xs ys : List A) → a ∷ xs ≡ b ∷ ys → length ys ≡ length xs
      tail_of a b xs ys h = cc

      go : (b : Bool) → test first ≡ b → (from test later ≡ v ∷ vs → Within v vs later) → Within v vs (first ∷ later)
      go true h ih =
          let here : first ∷ later ≡ v ∷ vs = sym (from_hit test first later h) ∙ e in
          inr (record { same = tail_of first v later vs here; is_first = inl (head_of first v later vs here) })
      go false h ih = inl (within_length v vs later (ih (sym (from_miss test first later h) ∙ e)))

  pub from_passes : (test : NumberedEvent Packet → Bool) (ws : List (NumberedEvent Packet)) (v : NumberedEvent Packet) (vs : List (NumberedEvent Packet)) → from test ws ≡ v ∷ vs → test v ≡ true
  from_passes test [] v vs e = absurd (cc e)
  from_passes test (first ∷ later) v vs e = go (test first) refl (λ h. from_passes test later v vs h)
    where
      head_of : {A : Type 0} (a b : A) (xs ys : List A) → a ∷ xs ≡ b ∷ ys → a ≡ b
      head_of a b xs ys h = cc

      go : (b : Bool) → test first ≡ b → (from test later ≡ v ∷ vs → test v ≡ true) → test v ≡ true
      go true h ih = subst (λ (x : NumberedEvent Packet). test x ≡ true) (head_of first v later vs (sym (from_hit test first later h) ∙ e)) h
      go false h ih = ih (sym (from_miss test first later h) ∙ e)

module _ {PublicState Packet Message State Exchange Answer Lease : Type 0} (p : Protocol PublicState Packet Message State Exchange Answer Lease) where
  -- an answer, by the packet of an event among these
  record Hearing (setting : Setting State) (exchange : Exchange) (answer : Answer) (ws rest : List (NumberedEvent Packet)) : Type 0 where
    event : NumberedEvent Packet
    later : List (NumberedEvent Packet)
    words : List ℕ
    rest_is : rest ≡ event ∷ later
    within : Within event later ws
    reads : (reading_of p setting.state exchange words event.input).value ≡ Some answer

  some_inj : {A : Type 0} (a b : A) → Some a ≡ Some b → a ≡ b
  some_inj a b e = cc

  hears : (setting : Setting State) (exchange : Exchange) (listens : Bool) (words : List ℕ) (answer : Answer) (ws : List (NumberedEvent Packet)) →
      (hear p setting exchange listens words ws).answer ≡ Some answer → Hearing setting exchange answer ws (hear p setting exchange listens words ws).rest
  hears setting exchange listens words answer [] e = absurd (cc e)
  hears setting exchange listens words answer (v ∷ vs) e =
      go (reading_if p listens setting exchange words v.input).value refl (λ h. hears setting exchange listens (reading_if p listens setting exchange words v.input).left answer vs h)
    where
      later : Heard Packet Message Answer
      later = hear p setting exchange listens (reading_if p listens setting exchange words v.input).left vs

      open_reads : (b : Bool) (a : Answer) → (reading_if p b setting exchange words v.input).value ≡ Some a → (reading_of p setting.state exchange words v.input).value ≡ Some a
      open_reads true a h = h
      open_reads false a h = absurd (cc h)

      go : (read : Option Answer) → (reading_if p listens setting exchange words v.input).value ≡ read → (later.answer ≡ Some answer → Hearing setting exchange answer vs later.rest) →
          Hearing setting exchange answer (v ∷ vs) (hear p setting exchange listens words (v ∷ vs)).rest
      go (Some a) r ih =
          let same : a ≡ answer = some_inj a answer (rw r at e) in
          record { event = v; later = vs; words = words; rest_is = rw r; within = inr (record { same = refl; is_first = inl refl }); reads = open_reads listens answer (r ∙ ap (λ (x : Answer). Some x) same) }
      go None r ih =
          let heard : Hearing setting exchange answer vs later.rest = ih (rw r at e) in
          record { event = heard.event; later = heard.later; words = heard.words; rest_is = rw r heard.rest_is; within = inl (within_length heard.event heard.later vs heard.within); reads = heard.reads }

  -- how the attempts of a stay end, over these events
  data FinishFits (setting : Setting State) (ws : List (NumberedEvent Packet)) (finish : Finish Packet Exchange Answer) : Type 0 where
    NoMore : finish.outcome ≡ Unanswered → FinishFits setting ws finish
    Hears : (answer : Answer) → finish.outcome ≡ AnsweredBy answer → Hearing setting finish.exchange answer ws finish.rest → FinishFits setting ws finish
    Over : (v : NumberedEvent Packet) (vs : List (NumberedEvent Packet)) → finish.outcome ≡ RanOut → finish.rest ≡ v ∷ vs → Within v vs ws → p.is_last_attempt setting.state finish.exchange ≡ true → FinishFits setting ws finish

  fits_within : (setting : Setting State) (x : NumberedEvent Packet) (xs ws : List (NumberedEvent Packet)) (finish : Finish Packet Exchange Answer) → FinishFits setting (after_call x ∷ xs) finish → Within x xs ws → FinishFits setting ws finish
  fits_within setting x xs ws finish (NoMore e) h = NoMore e
  fits_within setting x xs ws finish (Hears answer e heard) h = Hears answer e (record {
    event = heard.event;
    later = heard.later;
    words = heard.words;
    rest_is = heard.rest_is;
    within = within_within heard.event x heard.later xs ws heard.within h;
    reads = heard.reads;
  })
  fits_within setting x xs ws finish (Over v vs e r w l) h = Over v vs e r (within_within v x vs xs ws w h) l

  both : (a b : Bool) → (a && b) ≡ true → b ≡ true
  both true b e = e
  both false b e = absurd (cc e)

  course_fits : (steps : ℕ) (setting : Setting State) (progress : Progress Exchange) (ws : List (NumberedEvent Packet)) → FinishFits setting ws (course p steps setting progress ws).finish
  course_fits zero setting progress ws = NoMore refl
  course_fits (suc steps) setting progress ws = go last.answer refl (from due ws) refl (λ next vs. course_fits steps setting next vs)
    where
      due : NumberedEvent Packet → Bool
      due = is_at_or_past progress.due

      last : Heard Packet Message Answer
      last = hear p setting progress.exchange (is_open progress.last) progress.words (before due ws)

      now : Progress Exchange
      now = record progress { words = last.words }

      by_end : (b : Bool) → runs_out p setting now ≡ b → (v : NumberedEvent Packet) (vs : List (NumberedEvent Packet)) → Within v vs ws →
          ((next : Progress Exchange) (xs : List (NumberedEvent Packet)) → FinishFits setting xs (course p steps setting next xs).finish) →
          FinishFits setting ws (attempt_or_end p b (course p steps setting) setting now last.acts v vs).finish
      by_end true r v vs w ih = Over (after_call v) vs refl refl (within_called v vs ws w) (both (is_open progress.last) (p.is_last_attempt setting.state progress.exchange) r)
      by_end false r v vs w ih = fits_within setting v vs ws (course p steps setting (progress_after p setting now v) (after_call v ∷ vs)).finish (ih (progress_after p setting now v) (after_call v ∷ vs)) w

      go : (answer : Option Answer) → last.answer ≡ answer → (late : List (NumberedEvent Packet)) → from due ws ≡ late →
          ((next : Progress Exchange) (xs : List (NumberedEvent Packet)) → FinishFits setting xs (course p steps setting next xs).finish) →
          FinishFits setting ws (next_attempt p (course p steps setting) setting now answer last late).finish
      go (Some answer) e late l ih =
          let heard : Hearing setting progress.exchange answer (before due ws) last.rest = hears setting progress.exchange (is_open progress.last) progress.words answer (before due ws) e in
          Hears answer refl (record {
            event = heard.event;
            later = heard.later ++ late;
            words = heard.words;
            rest_is = rw heard.rest_is;
            within = subst (λ (xs : List (NumberedEvent Packet)). Within heard.event (heard.later ++ late) xs) (rw (← l) (before-from due ws))
                (within_more heard.event heard.later (before due ws) late heard.within);
            reads = heard.reads;
          })
      go None e [] l ih = NoMore refl
      go None e (v ∷ vs) l ih = by_end (runs_out p setting now) refl v vs (within_from due ws v vs l) ih

  -- how a stay that was entered at the first of these events gives way to the next one
  data Turning (setting : Setting State) (events : List (NumberedEvent Packet)) (next : Transition Packet Message State Exchange) : Type 0 where
    Remains : next.closing ≡ Lasts → next.events ≡ [] → Turning setting events next
    IsCut : (v : NumberedEvent Packet) (vs : List (NumberedEvent Packet)) (exchange : Exchange) → (next.closing ≡ Lasts → ⊥) → next.entry.state ≡ (p.after_clean_up exchange).state → next.events ≡ after_call v ∷ vs →
        Within v vs events → cuts p setting v ≡ true → Turning setting events next
    IsAnswered : (v : NumberedEvent Packet) (vs : List (NumberedEvent Packet)) (exchange : Exchange) (words : List ℕ) (answer : Answer) → (next.closing ≡ Lasts → ⊥) →
        next.entry.state ≡ (p.after_answer setting.state answer v.moment exchange).state → next.events ≡ after_packet (v ∷ vs) →
        Within v vs events → (reading_of p setting.state exchange words v.input).value ≡ Some answer → Turning setting events next
    IsEnded : (v : NumberedEvent Packet) (vs : List (NumberedEvent Packet)) (exchange counts : Exchange) → (next.closing ≡ Lasts → ⊥) → next.entry.state ≡ (p.after_end setting.state counts).state → next.events ≡ after_call v ∷ vs →
        Within v vs events → (has_come v.moment (p.ending_moment setting.state) || p.is_last_attempt setting.state exchange) ≡ true → Turning setting events next

  or_true : (b : Bool) → (b || true) ≡ true
  or_true true = refl
  or_true false = refl

  within_itself : (v : NumberedEvent Packet) (vs : List (NumberedEvent Packet)) → Within v vs (v ∷ vs)
  within_itself v vs = inr (record { same = refl; is_first = inl refl })

  -- a stay that is cut at the first of these events, if there is one
  cut_turns : (setting : Setting State) (finish : Finish Packet Exchange Answer) (events late : List (NumberedEvent Packet)) (acts : List (Act Message)) →
      ((v : NumberedEvent Packet) (vs : List (NumberedEvent Packet)) → late ≡ v ∷ vs → Within v vs events) → ((v : NumberedEvent Packet) (vs : List (NumberedEvent Packet)) → late ≡ v ∷ vs → cuts p setting v ≡ true) →
      Turning setting events (record (cut p setting finish late) { acts = acts })
  cut_turns setting finish events [] acts within cuts = Remains refl refl
  cut_turns setting finish events (v ∷ vs) acts within cuts = IsCut v vs finish.exchange (λ h. cc h) refl refl (within v vs refl) (cuts v vs refl)

  turns : (setting : Setting State) (finish : Finish Packet Exchange Answer) (ws late events : List (NumberedEvent Packet)) → ws ++ late ≡ events → FinishFits setting ws finish →
      ((v : NumberedEvent Packet) (vs : List (NumberedEvent Packet)) → late ≡ v ∷ vs → closes p setting v ≡ true) → Turning setting events (transition p setting finish late)
  turns setting finish ws late events all fits head = go fits
    where
      among : (v : NumberedEvent Packet) (vs : List (NumberedEvent Packet)) → Within v vs (ws ++ late) → Within v vs events
      among v vs w = subst (λ (xs : List (NumberedEvent Packet)). Within v vs xs) all w

      comes : (v : NumberedEvent Packet) → cuts p setting v ≡ false → overruns p setting v ≡ false → closes p setting v ≡ true → has_come v.moment (p.ending_moment setting.state) ≡ true
      comes v c f h = rw (c, f) at h

      by_close : (v : NumberedEvent Packet) (vs : List (NumberedEvent Packet)) → late ≡ v ∷ vs → (cut' : Bool) → cuts p setting v ≡ cut' → (over : Bool) → overruns p setting v ≡ over → Turning setting events (close p cut' over setting finish v vs)
      by_close v vs l true c over f = IsCut v vs finish.exchange (λ h. cc h) refl refl (among v vs (rw l (within_later v vs ws (v ∷ vs) (within_itself v vs)))) c
      by_close v vs l false c true f =
          cut_turns setting finish events (from (cuts p setting) (v ∷ vs)) (close p false true setting finish v vs).acts
          (λ v' vs' h. among v' vs' (rw l (within_later v' vs' ws (v ∷ vs) (within_from (cuts p setting) (v ∷ vs) v' vs' h))))
          (λ v' vs' h. from_passes (cuts p setting) (v ∷ vs) v' vs' h)
      by_close v vs l false c false f =
          let over : has_come v.moment (p.ending_moment setting.state) ≡ true = comes v c f (head v vs l) in
          IsEnded v vs finish.exchange finish.after_wait (λ h. cc h) refl refl (among v vs (rw l (within_later v vs ws (v ∷ vs) (within_itself v vs)))) (rw over)

      unanswered : (late' : List (NumberedEvent Packet)) → late ≡ late' → Turning setting events (transition_by p Unanswered setting finish late')
      unanswered [] l = Remains refl refl
      unanswered (v ∷ vs) l = by_close v vs l (cuts p setting v) refl (overruns p setting v) refl

      answered : (answer : Answer) → Hearing setting finish.exchange answer ws finish.rest → Turning setting events (transition_by p (AnsweredBy answer) setting finish late)
      answered answer heard =
          subst (λ (rest : List (NumberedEvent Packet)). Turning setting events (transition_by p (AnsweredBy answer) setting (record finish { rest = rest }) late)) (sym heard.rest_is)
          (IsAnswered heard.event (heard.later ++ late) finish.exchange heard.words answer (λ h. cc h) refl refl
          (among heard.event (heard.later ++ late) (within_more heard.event heard.later ws late heard.within)) heard.reads)

      over : (v : NumberedEvent Packet) (vs : List (NumberedEvent Packet)) → finish.rest ≡ v ∷ vs → Within v vs ws → p.is_last_attempt setting.state finish.exchange ≡ true → Turning setting events (transition_by p RanOut setting finish late)
      over v vs r w l =
          subst (λ (rest : List (NumberedEvent Packet)). Turning setting events (transition_by p RanOut setting (record finish { rest = rest }) late)) (sym r)
          (IsEnded v (vs ++ late) finish.exchange finish.after_wait (λ h. cc h) refl refl (among v (vs ++ late) (within_more v vs ws late w)) (rw l (or_true (has_come v.moment (p.ending_moment setting.state)))))

      go : FinishFits setting ws finish → Turning setting events (transition p setting finish late)
      go (NoMore e) = subst (λ (outcome : Outcome Answer). Turning setting events (transition_by p outcome setting finish late)) (sym e) (unanswered late refl)
      go (Hears answer e heard) = subst (λ (outcome : Outcome Answer). Turning setting events (transition_by p outcome setting finish late)) (sym e) (answered answer heard)
      go (Over v vs e r w l) = subst (λ (outcome : Outcome Answer). Turning setting events (transition_by p outcome setting finish late)) (sym e) (over v vs r w l)

  -- the transition of the stay that is entered at the first of these events
  abbrev pub transition_of : ℕ → Entry State Exchange → NumberedEvent Packet → List (NumberedEvent Packet) → Transition Packet Message State Exchange
  transition_of timeout_sec entry first later =
      let setting = setting_at timeout_sec entry first.moment in
      let run = course p (suc (length (first ∷ later))) setting (entry_progress p setting entry first) (before (closes p setting) (first ∷ later)) in
      transition p setting run.finish (from (closes p setting) (first ∷ later))

  stay_turns : (timeout_sec : ℕ) (entry : Entry State Exchange) (first : NumberedEvent Packet) (later : List (NumberedEvent Packet)) →
      Turning (setting_at timeout_sec entry first.moment) (first ∷ later) (transition_of timeout_sec entry first later)
  stay_turns timeout_sec entry first later =
      let setting : Setting State = setting_at timeout_sec entry first.moment in
      let progress : Progress Exchange = entry_progress p setting entry first in
      let window : List (NumberedEvent Packet) = before (closes p setting) (first ∷ later) in
      turns setting (course p (suc (length (first ∷ later))) setting progress window).finish window (from (closes p setting) (first ∷ later)) (first ∷ later)
      (before-from (closes p setting) (first ∷ later)) (course_fits (suc (length (first ∷ later))) setting progress window)
      (λ v vs e. from_passes (closes p setting) (first ∷ later) v vs e)

  -- what holds of a state and the moment at which it is entered
  module _ (Holds : State → ℕ → Type 0)
      (by_cut : (exchange : Exchange) (now : ℕ) → Holds (p.after_clean_up exchange).state now)
      (by_answer : (state : State) (answer : Answer) (now : ℕ) (exchange : Exchange) → Holds (p.after_answer state answer now exchange).state now)
      (by_end : (state : State) (exchange counts : Exchange) (now : ℕ) → (has_come now (p.ending_moment state) || p.is_last_attempt state exchange) ≡ true → Holds (p.after_end state counts).state now) where
    abbrev HoldsFirst : State → List (NumberedEvent Packet) → Type 0
    HoldsFirst state [] = Unit {0}
    HoldsFirst state (v ∷ vs) = Holds state v.moment

    turn_holds : (setting : Setting State) (events : List (NumberedEvent Packet)) (next : Transition Packet Message State Exchange) → Turning setting events next → HoldsFirst next.entry.state next.events
    turn_holds setting events next (Remains l e) = rw e tt
    turn_holds setting events next (IsCut v vs exchange l s e w c) = rw (s, e) (by_cut exchange v.moment)
    turn_holds setting events next (IsAnswered v vs exchange words answer l s e w r) = rw (s, e) (by_answer setting.state answer v.moment exchange)
    turn_holds setting events next (IsEnded v vs exchange counts l s e w r) = rw (s, e) (by_end setting.state exchange counts v.moment r)

    stays_hold : (fuel timeout_sec : ℕ) (entry : Entry State Exchange) (events : List (NumberedEvent Packet)) → HoldsFirst entry.state events →
        AllByRecursion (λ stay. Holds stay.setting.state stay.setting.entered) (stays p fuel timeout_sec entry events)
    stays_hold fuel timeout_sec entry [] h = tt
    stays_hold zero timeout_sec entry (v ∷ vs) h = tt
    stays_hold (suc fuel) timeout_sec entry (v ∷ vs) h =
        let next : Transition Packet Message State Exchange = transition_of timeout_sec entry v vs in
        (h, stays_hold fuel timeout_sec next.entry next.events (turn_holds (setting_at timeout_sec entry v.moment) (v ∷ vs) next (stay_turns timeout_sec entry v vs)))

    -- what holds of the first state at each moment, and of each state as it is entered, holds of all stays
    pub history_holds : (script : Script Packet State Exchange) → ((now : ℕ) → Holds script.state now) → AllByRecursion (λ stay. Holds stay.setting.state stay.setting.entered) (history p script)
    history_holds script h = stays_hold (8 * (length script.events + 1)) script.timeout_sec (record { state = script.state; exchange = script.exchange; words = script.words }) script.events (first script.events)
      where
        first : (events : List (NumberedEvent Packet)) → HoldsFirst script.state events
        first [] = tt
        first (v ∷ vs) = h v.moment

  module _ (lawful : Lawful p) where
    -- how many stays can still be entered at an event: with a call of its own, one more
    abbrev weight : State → Input Packet → ℕ
    weight state Nothing = lawful.rank state false
    weight state (Arrival packet) = lawful.rank state true
    weight state Release = 7
    weight state CleanUp = 7

    abbrev measure : State → List (NumberedEvent Packet) → ℕ
    measure state [] = 0
    measure state (v ∷ vs) = 8 * length vs + weight state v.input

    weight_called : (state : State) (input : Input Packet) → weight state (input_after_call input) ≡ lawful.rank state (has_packet input)
    weight_called state Nothing = refl
    weight_called state (Arrival packet) = refl
    weight_called state Release = refl
    weight_called state CleanUp = refl

    weight_least : (state : State) (input : Input Packet) → lawful.rank state (has_packet input) ≤ weight state input
    weight_least state Nothing = omega arith
    weight_least state (Arrival packet) = omega arith
    weight_least state Release = omega (arith, lawful.rank_bound state false)
    weight_least state CleanUp = omega (arith, lawful.rank_bound state false)

    packet_called : (input : Input Packet) → has_packet (input_after_call input) ≡ has_packet input
    packet_called Nothing = refl
    packet_called (Arrival packet) = refl
    packet_called Release = refl
    packet_called CleanUp = refl

    packet_first : (v first : NumberedEvent Packet) → (v ≡ first) ⊎ (v ≡ after_call first) → has_packet v.input ≡ has_packet first.input
    packet_first v first (inl e) = ap (λ (x : NumberedEvent Packet). has_packet x.input) e
    packet_first v first (inr e) = ap (λ (x : NumberedEvent Packet). has_packet x.input) e ∙ packet_called first.input

    -- a state that is cut at the first event, which has a call then
    cut_falls : (setting : Setting State) (v first : NumberedEvent Packet) → (v ≡ first) ⊎ (v ≡ after_call first) → cuts p setting v ≡ true → weight setting.state first.input ≡ 7
    cut_falls setting v first (inr e) c = absurd (cc (subst (λ (x : NumberedEvent Packet). cuts p setting x ≡ true) e c, (called_plain p first).uncut setting))
    cut_falls setting v first (inl e) c = go first.input refl (subst (λ (x : NumberedEvent Packet). cuts p setting x ≡ true) e c)
      where
        go : (input : Input Packet) → first.input ≡ input → cuts p setting (record first { input = input }) ≡ true → weight setting.state input ≡ 7
        go Nothing w h = absurd (cc h)
        go (Arrival packet) w h = absurd (cc h)
        go Release w h = refl
        go CleanUp w h = refl

    -- only a packet answers
    answer_falls : (state : State) (exchange : Exchange) (words : List ℕ) (answer : Answer) (now : ℕ) (input : Input Packet) → (reading_of p state exchange words input).value ≡ Some answer →
        (has_packet input ≡ true) × suc (lawful.rank (p.after_answer state answer now exchange).state false) ≤ lawful.rank state true
    answer_falls state exchange words answer now Nothing r = absurd (cc r)
    answer_falls state exchange words answer now Release r = absurd (cc r)
    answer_falls state exchange words answer now CleanUp r = absurd (cc r)
    answer_falls state exchange words answer now (Arrival packet) r = (refl, lawful.rank_answered state exchange packet words answer now r)

    -- each transition leaves fewer stays to come
    abbrev Falls : State → NumberedEvent Packet → List (NumberedEvent Packet) → Transition Packet Message State Exchange → Type 0
    Falls state first later next = (next.closing ≡ Lasts × next.events ≡ []) ⊎
        ((next.closing ≡ Lasts → ⊥) × (1 ≤ length next.events) × (measure next.entry.state next.events < measure state (first ∷ later)))

    turn_falls : (setting : Setting State) (first : NumberedEvent Packet) (later : List (NumberedEvent Packet)) (next : Transition Packet Message State Exchange) → Turning setting (first ∷ later) next → Falls setting.state first later next
    turn_falls setting first later next (Remains l e) = inl (l, e)
    turn_falls setting first later next (IsCut v vs exchange l s e w c) = inr (l, rw e (omega arith), rw (s, e) (go w))
      where
        small : lawful.rank (p.after_clean_up exchange).state (has_packet v.input) ≤ 6
        small = lawful.rank_bound (p.after_clean_up exchange).state (has_packet v.input)

        go : Within v vs (first ∷ later) → 8 * length vs + weight (p.after_clean_up exchange).state (input_after_call v.input) < 8 * length later + weight setting.state first.input
        go (inl fewer) = omega (arith, fewer, small, weight_called (p.after_clean_up exchange).state v.input)
        go (inr here) = omega (arith, here.same, small, weight_called (p.after_clean_up exchange).state v.input, cut_falls setting v first here.is_first c)
    turn_falls setting first later next (IsAnswered v vs exchange words answer l s e w r) = inr (l, rw e (omega arith), rw (s, e) (go w (answer_falls setting.state exchange words answer v.moment v.input r)))
      where
        after : State
        after = (p.after_answer setting.state answer v.moment exchange).state

        go : Within v vs (first ∷ later) → (has_packet v.input ≡ true) × suc (lawful.rank after false) ≤ lawful.rank setting.state true → 8 * length vs + lawful.rank after false < 8 * length later + weight setting.state first.input
        go (inl fewer) falls = omega (arith, fewer, lawful.rank_bound after false)
        go (inr here) falls =
            let has : has_packet first.input ≡ true = sym (packet_first v first here.is_first) ∙ falls.0 in
            let least : lawful.rank setting.state true ≤ weight setting.state first.input = rw has at (weight_least setting.state first.input) in
            omega (arith, here.same, falls.1, least)
    turn_falls setting first later next (IsEnded v vs exchange counts l s e w r) = inr (l, rw e (omega arith), rw (s, e) (go w))
      where
        after : State
        after = (p.after_end setting.state counts).state

        falls : (has : Bool) → suc (lawful.rank after has) ≤ lawful.rank setting.state has
        falls has = lawful.rank_ended setting.state exchange counts has v.moment r

        go : Within v vs (first ∷ later) → 8 * length vs + weight after (input_after_call v.input) < 8 * length later + weight setting.state first.input
        go (inl fewer) = omega (arith, fewer, lawful.rank_bound after (has_packet v.input), weight_called after v.input)
        go (inr here) =
            let least : lawful.rank setting.state (has_packet v.input) ≤ weight setting.state first.input = rw (packet_first v first here.is_first) (weight_least setting.state first.input) in
            omega (arith, here.same, falls (has_packet v.input), least, weight_called after v.input)

    closes_last : (stay : Stay State Message) (rest : List (Stay State Message)) → rest ≡ [] → stay.closing ≡ Lasts → CloseInTurn (stay ∷ rest)
    closes_last stay rest e lasts = rw e lasts

    closes_more : (stay : Stay State Message) (rest : List (Stay State Message)) → 1 ≤ length rest → (stay.closing ≡ Lasts → ⊥) → CloseInTurn rest → CloseInTurn (stay ∷ rest)
    closes_more stay [] some closes h = absurd (omega (arith, some))
    closes_more stay (next ∷ rest) some closes h = (closes, h)

    stays_some : (fuel timeout_sec : ℕ) (entry : Entry State Exchange) (events : List (NumberedEvent Packet)) → 1 ≤ fuel → 1 ≤ length events → 1 ≤ length (stays p fuel timeout_sec entry events)
    stays_some fuel timeout_sec entry [] f e = absurd (omega (arith, e))
    stays_some zero timeout_sec entry (v ∷ vs) f e = absurd (omega (arith, f))
    stays_some (suc fuel) timeout_sec entry (v ∷ vs) f e = omega arith

    stays_close : (fuel timeout_sec : ℕ) (entry : Entry State Exchange) (events : List (NumberedEvent Packet)) → (1 ≤ length events → measure entry.state events < fuel) → CloseInTurn (stays p fuel timeout_sec entry events)
    stays_close fuel timeout_sec entry [] enough = tt
    stays_close zero timeout_sec entry (v ∷ vs) enough = absurd (omega (arith, enough (omega arith)))
    stays_close (suc fuel) timeout_sec entry (v ∷ vs) enough = go (turn_falls setting v vs next (stay_turns timeout_sec entry v vs)) (stays_close fuel timeout_sec next.entry next.events)
      where
        setting : Setting State
        setting = setting_at timeout_sec entry v.moment

        next : Transition Packet Message State Exchange
        next = transition_of timeout_sec entry v vs

        run : Course Packet Message Exchange Answer
        run = course p (suc (length (v ∷ vs))) setting (entry_progress p setting entry v) (before (closes p setting) (v ∷ vs))

        stay : Stay State Message
        stay = record { setting = setting; entry = v.number; pause = entry_pause p setting entry v; acts = run.acts ++ next.acts; closing = next.closing }

        go : Falls entry.state v vs next → ((1 ≤ length next.events → measure next.entry.state next.events < fuel) → CloseInTurn (stays p fuel timeout_sec next.entry next.events)) →
            CloseInTurn (stay ∷ stays p fuel timeout_sec next.entry next.events)
        go (inl ends) ih = closes_last stay (stays p fuel timeout_sec next.entry next.events) (rw ends.1) ends.0
        go (inr more) ih =
            let room : measure next.entry.state next.events < fuel = omega (arith, more.2, enough (omega arith)) in
            closes_more stay (stays p fuel timeout_sec next.entry next.events) (stays_some fuel timeout_sec next.entry next.events (omega (arith, room)) more.1) more.0 (ih (λ h. room))

    weight_most : (state : State) (input : Input Packet) → weight state input ≤ 7
    weight_most state Nothing = omega (arith, lawful.rank_bound state false)
    weight_most state (Arrival packet) = omega (arith, lawful.rank_bound state true)
    weight_most state Release = omega arith
    weight_most state CleanUp = omega arith

    -- the last stay of a history lasts, and all others close
    pub history_closes : (script : Script Packet State Exchange) → CloseInTurn (history p script)
    history_closes script = stays_close (8 * (length script.events + 1)) script.timeout_sec (record { state = script.state; exchange = script.exchange; words = script.words }) script.events (enough script.events)
      where
        enough : (events : List (NumberedEvent Packet)) → 1 ≤ length events → measure script.state events < 8 * (length events + 1)
        enough [] h = omega (arith, h)
        enough (v ∷ vs) h = omega (arith, weight_most script.state v.input)
