-- How the steps of a poll make up the poll of the protocol.
use Rattle.std.proofs.Common.{◌≡◌, ℕ, List, Bool, true, false, refl, ap, sym, subst, ◌∙◌, inl, inr}
use Rattle.std.specs.Prelude.{Option, Some, None, not, ◌||◌, is_some, option_map, Result, Ok, Err, OnErr, ◌⊎◌, IfSome}
use Rattle.dhcp_clock.specs.declared.link.Packet.{Packet}
use Rattle.dhcp_clock.specs.declared.link.Handed.{Handed}
use Rattle.dhcp_clock.specs.declared.link.Sent.TheVariants.{Taken}
use Rattle.dhcp_clock.specs.Link.{Shown, HandsOver, with_message}
use Rattle.dhcp_history.specs.declared.client.Client.{Client}
use Rattle.dhcp_history.specs.declared.client.Standing.{Standing}
use Rattle.dhcp_history.specs.declared.machine.RunError.{RunError}
use Rattle.dhcp_history.specs.declared.machine.RunError.TheVariants as run
use Rattle.dhcp_history.specs.Protocol.{Protocol, has_come}
use Rattle.dhcp_history.specs.Script.{Input, Nothing}
use Rattle.dhcp_history.specs.History.{reading_of}
use Rattle.dhcp_history.specs.Machine.{View, Phase, Unpolled, Pausing, Listening, Resting, Stopped, PollEffect, is_stopped, has_open_attempt, is_unpolled, limit_is_over, limit_is_over_in, has_ended, stop, begin_in, begin_stay, attempt_now, transmit, clean_up, take_answer, receive, transmit_and_receive, poll, end_state, enter, exchange_at}
use Rattle.dhcp_history.specs.Client.{view_of, silent}
use Rattle.dhcp_history.specs.Schedule.{HasNextAttempt}
use Rattle.dhcp_history.specs.Seen.{seen}
use Rattle.dhcp_history.specs.Run.{input_of, waiting_of, UnlessNoMemory, OnNoMemory, sent_by, handed_by, answer_by, HasPolled, HasReceived, HasDrawn, HasTransmitted, IsUnsent, IsSent, is_waiting, quiet_poll, HasPolledQuietly, IsShut}
use Rattle.dhcp_history.specs.Release.{release_by, HasReleased}

pub stopped_phase : (phase : Phase) → is_stopped phase ≡ true → phase ≡ Stopped
stopped_phase Unpolled h = absurd (cc h)
stopped_phase Pausing h = absurd (cc h)
stopped_phase Listening h = absurd (cc h)
stopped_phase Resting h = absurd (cc h)
stopped_phase Stopped h = refl

-- what holds where something is known holds of what is known
pub at_told : {A : Type 0} (P : A → Type 0) (told : Option A) (value : A) → told ≡ Some value → IfSome told P → P value
at_told {A} P told value e h = let family : Option A → Type 0 = λ (o : Option A). IfSome o P in subst family e h

-- a fact for each answer but out of memory goes over to another
pub on_run : {A : Type 0} {P Q : Type 0} (result : Result A RunError) → (P → Q) → UnlessNoMemory result P → UnlessNoMemory result Q
on_run (Ok a) f h = f h
on_run (Err run.TimedOut) f h = f h
on_run (Err run.OutOfMemory) f h = tt

-- out of memory with no attempt due: the client is as at entry
pub unsent_early : {A State Exchange : Type 0} (Sent : Type 0) (result : Result A RunError) (old new : Client State Exchange) (before after : Option Shown) →
    OnErr result (IsUnsent old new before after) → OnNoMemory result (IsUnsent old new before after ⊎ Sent)
unsent_early Sent (Ok a) old new before after unsent = tt
unsent_early Sent (Err run.TimedOut) old new before after unsent = tt
unsent_early Sent (Err run.OutOfMemory) old new before after unsent = inl unsent

-- out of memory with no attempt due: it was needed for the packet
pub needed_early : {A : Type 0} (Due : List ℕ → Type 0) (Needs : Type 0) (result : Result A RunError) (available : Option (List ℕ)) →
    OnErr result Needs → OnNoMemory result (IfSome available (λ words. Due words ⊎ Needs))
needed_early Due Needs (Ok a) available needs = tt
needed_early Due Needs (Err run.TimedOut) available needs = tt
needed_early Due Needs (Err run.OutOfMemory) None needs = tt
needed_early Due Needs (Err run.OutOfMemory) (Some words) needs = inr needs

-- a client has a next attempt where it was not polled in its state, or stands as one that has one
pub unpolled_armed : {State Exchange : Type 0} (has : State → Bool) (client : Client State Exchange) → is_unpolled client.standing.phase ≡ true → HasNextAttempt has client
unpolled_armed has client e = λ polled sends. absurd (cc (e, polled))

pub stays_armed : {State Exchange : Type 0} (has : State → Bool) (old new : Client State Exchange) → ((new.standing ≡ old.standing) × (new.state ≡ old.state)) ⊎ (is_unpolled new.standing.phase ≡ true) →
    (has old.state ≡ true → is_some old.standing.deadline ≡ true) → HasNextAttempt has new
stays_armed has old new (inl same) armed = λ polled sends. rw same.0 (armed (rw (← same.1) sends))
stays_armed has old new (inr e) armed = unpolled_armed has new e

pub waiting_same : {Packet : Type 0} (packet : Option Packet) → waiting_of (input_of packet) ≡ packet
waiting_same None = refl
waiting_same (Some packet) = refl

module _ {PublicState State Exchange Answer Lease : Type 0} (p : Protocol PublicState Packet Handed State Exchange Answer Lease) where
  -- a limit that is over counts from a first poll on
  pub over_polled : (now : ℕ) (view : View State Exchange) → limit_is_over p now view ≡ true → is_unpolled view.phase ≡ false
  over_polled now view = go view.phase
    where
      go : (phase : Phase) → limit_is_over_in p phase now view ≡ true → is_unpolled phase ≡ false
      go Unpolled e = absurd (cc e)
      go Pausing e = refl
      go Listening e = refl
      go Resting e = refl
      go Stopped e = refl

  -- what a poll does that uses neither words nor link, by what has come
  module _ (now : ℕ) (view : View State Exchange) where
    pub quiet_stopped : is_stopped view.phase ≡ true → quiet_poll p now view ≡ Some (stop Nothing view)
    quiet_stopped b = rw b

    pub quiet_over : is_stopped view.phase ≡ false → limit_is_over p now view ≡ true → quiet_poll p now view ≡ Some (stop Nothing view)
    quiet_over b f = rw (b, f)

    pub quiet_ended : is_stopped view.phase ≡ false → limit_is_over p now view ≡ false → has_ended p now view ≡ true → quiet_poll p now view ≡ Some (end_state p now Nothing view)
    quiet_ended b f e = rw (b, f, e)

    pub quiet_busy : is_stopped view.phase ≡ false → limit_is_over p now view ≡ false → has_ended p now view ≡ false → is_waiting p now view ≡ false → quiet_poll p now view ≡ None
    quiet_busy b f e w = rw (b, f, e, w)

    pub quiet_waits : is_stopped view.phase ≡ false → limit_is_over p now view ≡ false → has_ended p now view ≡ false → is_waiting p now view ≡ true →
        quiet_poll p now view ≡ Some (record { view = begin_stay p now view; handed = None; left = Nothing; change = None; failed = false })
    quiet_waits b f e w = rw (b, f, e, w)

    -- a polled client that waits does not listen
    pub waits_shut : is_unpolled view.phase ≡ false → is_waiting p now view ≡ true → has_open_attempt view.phase ≡ false
    waits_shut polled w = go (has_open_attempt view.phase) (rw polled at w)
      where
        go : (b : Bool) → not (b || has_come now view.deadline) ≡ true → b ≡ false
        go true h = absurd (cc h)
        go false h = refl

    -- an unpolled one does not send
    pub waits_silent : is_unpolled view.phase ≡ true → is_waiting p now view ≡ true → p.has_attempts view.state ≡ false
    waits_silent fresh w = go (p.has_attempts view.state) (rw fresh at w)
      where
        go : (b : Bool) → not b ≡ true → b ≡ false
        go true h = absurd (cc h)
        go false h = refl

  -- a client whose attempt is due does not wait
  pub due_busy : (now : ℕ) (client : Client State Exchange) (begun : Standing Exchange) (available : List ℕ) {Same : Type 0} → (is_unpolled client.standing.phase ≡ false → (begun ≡ client.standing) × Same) →
      (is_unpolled client.standing.phase ≡ true → p.has_attempts client.state ≡ false → (begun ≡ silent now client.standing.exchange) × Same) → has_come now begun.deadline ≡ true →
      is_waiting p now (view_of client available) ≡ false
  due_busy now client begun available same none due = go (is_unpolled client.standing.phase) refl
    where
      late : (a : Bool) → not (a || true) ≡ false
      late true = refl
      late false = refl

      sends : is_unpolled client.standing.phase ≡ true → (b : Bool) → p.has_attempts client.state ≡ b → not b ≡ false
      sends e true a = refl
      sends e false a =
          let never : has_come now None ≡ true = subst (λ (s : Standing Exchange). has_come now s.deadline ≡ true) (none e a).0 due in
          absurd (cc never)

      go : (b : Bool) → is_unpolled client.standing.phase ≡ b → is_waiting p now (view_of client available) ≡ false
      go true e = rw e (sends e (p.has_attempts client.state) refl)
      go false e =
          let come : has_come now client.standing.deadline ≡ true = subst (λ (s : Standing Exchange). has_come now s.deadline ≡ true) (same e).0 due in
          rw (e, come) (late (has_open_attempt client.standing.phase))

  begun_polled : (now : ℕ) (view : View State Exchange) → is_unpolled view.phase ≡ false → begin_stay p now view ≡ view
  begun_polled now view = go view.phase
    where
      go : (phase : Phase) → is_unpolled phase ≡ false → begin_in p phase now view ≡ view
      go Unpolled e = absurd (cc e)
      go Pausing e = refl
      go Listening e = refl
      go Resting e = refl
      go Stopped e = refl

  begun_silent : (now : ℕ) (view : View State Exchange) → is_unpolled view.phase ≡ true → p.has_attempts view.state ≡ false →
      begin_stay p now view ≡ record view { phase = Pausing; entered = now; deadline = None }
  begun_silent now view = go view.phase
    where
      go : (phase : Phase) → is_unpolled phase ≡ true → p.has_attempts view.state ≡ false → begin_in p phase now view ≡ record view { phase = Pausing; entered = now; deadline = None }
      go Unpolled e a = rw a
      go Pausing e a = absurd (cc e)
      go Listening e a = absurd (cc e)
      go Resting e a = absurd (cc e)
      go Stopped e a = absurd (cc e)

  -- a poll whose attempt is not due: the client waits, or the poll is not quiet
  pub early_quiet : (now : ℕ) (client new : Client State Exchange) (begun : Standing Exchange) (result : Result (Option PublicState) RunError) (available mid left : Option (List ℕ)) (before after : Option Shown) (failed failed' : ℕ) (words : List ℕ) →
      is_stopped client.standing.phase ≡ false → limit_is_over p now (view_of client words) ≡ false → has_ended p now (view_of client words) ≡ false →
      (is_unpolled client.standing.phase ≡ false → (begun ≡ client.standing) × (mid ≡ available)) →
      (is_unpolled client.standing.phase ≡ true → p.has_attempts client.state ≡ false → (begun ≡ silent now client.standing.exchange) × (mid ≡ available)) → new.timeout_sec ≡ client.timeout_sec →
      (has_open_attempt begun.phase ≡ false → IsShut result begun (seen client mid before failed) (seen new left after failed')) →
      IfSome (quiet_poll p now (view_of client words)) (λ once. HasPolledQuietly p once result words (seen client available before failed) (seen new left after failed'))
  early_quiet now client new begun result available mid left before after failed failed' words b f e same none timeout shut = go (is_waiting p now (view_of client words)) refl (is_unpolled client.standing.phase) refl
    where
      go : (w : Bool) → is_waiting p now (view_of client words) ≡ w → (u : Bool) → is_unpolled client.standing.phase ≡ u →
          IfSome (quiet_poll p now (view_of client words)) (λ once. HasPolledQuietly p once result words (seen client available before failed) (seen new left after failed'))
      go false w u h = rw (quiet_busy now (view_of client words) b f e w) tt
      go true w false h =
          let waits : has_open_attempt client.standing.phase ≡ false = waits_shut now (view_of client words) h w in
          let is : IsShut result begun (seen client mid before failed) (seen new left after failed') = shut (rw (same h).0 waits) in
          rw (quiet_waits now (view_of client words) b f e w, begun_polled now (view_of client words) h) (record {
            answer = is.answer;
            client = rw (is.state, is.standing, (same h).0, timeout);
            words = is.words ∙ (same h).1;
            link = is.link;
            faults = is.faults;
          })
      go true w true h =
          let quiet : p.has_attempts client.state ≡ false = waits_silent now (view_of client words) h w in
          let is : IsShut result begun (seen client mid before failed) (seen new left after failed') = shut (rw (none h quiet).0) in
          rw (quiet_waits now (view_of client words) b f e w, begun_silent now (view_of client words) h quiet) (record {
            answer = is.answer;
            client = rw (is.state, is.standing, (none h quiet).0, timeout);
            words = is.words ∙ (none h quiet).1;
            link = is.link;
            faults = is.faults;
          })

  -- the packet is taken the same way, whatever message was handed
  pub taken_with : (now : ℕ) (input : Input Packet) (handed : Option Handed) (view : View State Exchange) →
      receive p now input handed view ≡ record (receive p now input None view) { handed = handed }
  taken_with now input handed view = by_phase (has_open_attempt view.phase) refl
    where
      by_answer : (answer : Option Answer) (words : List ℕ) → take_answer p now handed view answer words ≡ record (take_answer p now None view answer words) { handed = handed }
      by_answer None words = refl
      by_answer (Some answer) words = refl

      by_phase : (b : Bool) → has_open_attempt view.phase ≡ b → receive p now input handed view ≡ record (receive p now input None view) { handed = handed }
      by_phase true e = rw e (let read = reading_of p view.state view.exchange view.words input in by_answer read.value read.left)
      by_phase false e = rw e

  pub taken_succeeds : (now : ℕ) (input : Input Packet) (handed : Option Handed) (view : View State Exchange) → (receive p now input handed view).failed ≡ false
  taken_succeeds now input handed view = by_phase (has_open_attempt view.phase) refl
    where
      by_answer : (answer : Option Answer) (words : List ℕ) → (take_answer p now handed view answer words).failed ≡ false
      by_answer None words = refl
      by_answer (Some answer) words = refl

      by_phase : (b : Bool) → has_open_attempt view.phase ≡ b → (receive p now input handed view).failed ≡ false
      by_phase true e = rw e (let read = reading_of p view.state view.exchange view.words input in by_answer read.value read.left)
      by_phase false e = rw e

  -- the answer of a poll that doesn't fail
  pub answer_same : (change : Option State) → Ok (option_map p.public_state change) ≡ answer_by p change false
  answer_same None = refl
  answer_same (Some next) = refl

  -- and of one whose next attempt is due
  pub polled_due : (now : ℕ) (waiting : Option Packet) (first mid : View State Exchange) (change : Option PublicState) (view : List ℕ → View State Exchange) (left : Option (List ℕ)) (before : Shown) (after : Option Shown) →
      has_come now first.deadline ≡ true → mid ≡ transmit p now before.refuses first →
      HasReceived p (receive p now (input_of waiting) None mid) change view left (with_message (attempt_now p now first).value.message (sent_by before.refuses) before) after →
      HasPolled p (transmit_and_receive p now before.refuses (input_of waiting) first) (Ok change) view left before after
  polled_due now waiting first mid change view left before after due client h =
      let message = (attempt_now p now first).value.message in
      let sent : Shown = with_message message (sent_by before.refuses) before in
      let h' : HasReceived p (receive p now (input_of waiting) None (transmit p now before.refuses first)) change view left sent after =
      subst (λ (v : View State Exchange). HasReceived p (receive p now (input_of waiting) None v) change view left sent after) client h in
      let last : View State Exchange = transmit p now before.refuses first in
      let quiet : PollEffect Packet Handed State Exchange = receive p now (input_of waiting) None last in
      let same : transmit_and_receive p now before.refuses (input_of waiting) first ≡ record quiet { handed = Some message } = rw due (taken_with now (input_of waiting) (Some message) last) in
      let none : quiet.handed ≡ None = ap (λ (o : PollEffect Packet Handed State Exchange). o.handed) (taken_with now (input_of waiting) None last) in
      subst (λ (o : PollEffect Packet Handed State Exchange). HasPolled p o (Ok change) view left before after) (sym same) (record {
        answer = ap (λ (c : Option PublicState). Ok c) h'.change ∙ (answer_same quiet.change ∙ ap (λ (f : Bool). answer_by p quiet.change f) (sym (taken_succeeds now (input_of waiting) None last)));
        client = h'.client;
        words = h'.words;
        link = h'.link ∙ ap (λ (handed : Option Handed). Some (record { refuses = before.refuses; waiting = waiting_of quiet.left; handed = handed_by before.refuses handed sent.handed })) none;
      })

  -- the steps of a poll, where words and link may or may not tell input they have
  module _ (now : ℕ) (available available' available'' : Option (List ℕ)) (shown shown' shown'' : Option Shown) (first second third : List ℕ → View State Exchange) where
    pub work_due : (change : Option PublicState) → ((words : List ℕ) → has_come now (first words).deadline ≡ true) →
        IfSome available (λ words. IfSome shown (λ before. HasTransmitted p now (first words) second available' before shown')) →
        IfSome available' (λ words. IfSome shown' (λ before. HasReceived p (receive p now (input_of before.waiting) None (second words)) change third available'' before shown'')) →
        IfSome available (λ words. IfSome shown (λ before. HasPolled p (transmit_and_receive p now before.refuses (input_of before.waiting) (first words)) (Ok change) third available'' before shown''))
    work_due change due attempts takes = go available shown attempts
      where
        go : (available₀ : Option (List ℕ)) (shown₀ : Option Shown) →
            IfSome available₀ (λ words. IfSome shown₀ (λ before. HasTransmitted p now (first words) second available' before shown')) →
            IfSome available₀ (λ words. IfSome shown₀ (λ before. HasPolled p (transmit_and_receive p now before.refuses (input_of before.waiting) (first words)) (Ok change) third available'' before shown''))
        go None shown₀ a = tt
        go (Some words) None a = tt
        go (Some words) (Some before) a =
            let last : View State Exchange = transmit p now before.refuses (first words) in
            let sent : Shown = with_message (attempt_now p now (first words)).value.message (sent_by before.refuses) before in
            polled_due now before.waiting (first words) (second last.words) change third available'' before shown'' (due words) a.client
            (at_told (λ (mid : Shown). HasReceived p (receive p now (input_of mid.waiting) None (second last.words)) change third available'' mid shown'') shown' sent a.link
            (at_told (λ (words' : List ℕ). IfSome shown' (λ mid. HasReceived p (receive p now (input_of mid.waiting) None (second words')) change third available'' mid shown'')) available' last.words a.words takes))

    -- the poll of a client that isn't at the end of its state, which is `first` before and `second` once it is polled
    pub poll_works : (result : Result (Option PublicState) RunError) → ((words : List ℕ) → is_stopped (first words).phase ≡ false) → ((words : List ℕ) → limit_is_over p now (first words) ≡ false) →
        ((words : List ℕ) → has_ended p now (first words) ≡ false) →
        IfSome available (λ words. HasDrawn (begin_stay p now (first words)) second available') →
        IfSome available' (λ words. IfSome shown (λ before. HasPolled p (transmit_and_receive p now before.refuses (input_of before.waiting) (second words)) result third available'' before shown'')) →
        IfSome available (λ words. IfSome shown (λ before. HasPolled p (poll p now before.refuses (input_of before.waiting) (first words)) result third available'' before shown''))
    poll_works result b f e draws works = go available shown draws works
      where
        go : (available₀ : Option (List ℕ)) (shown₀ : Option Shown) → IfSome available₀ (λ words. HasDrawn (begin_stay p now (first words)) second available') →
            IfSome available' (λ words. IfSome shown₀ (λ before. HasPolled p (transmit_and_receive p now before.refuses (input_of before.waiting) (second words)) result third available'' before shown'')) →
            IfSome available₀ (λ words. IfSome shown₀ (λ before. HasPolled p (poll p now before.refuses (input_of before.waiting) (first words)) result third available'' before shown''))
        go None shown₀ d w = tt
        go (Some words) None d w = tt
        go (Some words) (Some before) d w =
            let mid : View State Exchange = begin_stay p now (first words) in
            let same : poll p now before.refuses (input_of before.waiting) (first words) ≡ transmit_and_receive p now before.refuses (input_of before.waiting) mid = rw (b words, f words, e words) in
            let polled : HasPolled p (transmit_and_receive p now before.refuses (input_of before.waiting) (second mid.words)) result third available'' before shown'' =
            at_told (λ (words' : List ℕ). HasPolled p (transmit_and_receive p now before.refuses (input_of before.waiting) (second words')) result third available'' before shown'') available' mid.words d.words w in
            subst (λ (o : PollEffect Packet Handed State Exchange). HasPolled p o result third available'' before shown'') (sym same)
            (subst (λ (v : View State Exchange). HasPolled p (transmit_and_receive p now before.refuses (input_of before.waiting) v) result third available'' before shown'') d.client polled)

  -- out of memory with an attempt due: it is due after the pause that was drawn
  pub begun_due : {A : Type 0} (Needs : Type 0) (result : Result A RunError) (now : ℕ) (available available' : Option (List ℕ)) (first second : List ℕ → View State Exchange) →
      IfSome available (λ words. HasDrawn (begin_stay p now (first words)) second available') → ((words : List ℕ) → has_come now (second words).deadline ≡ true) →
      OnNoMemory result (IfSome available (λ words. (has_come now (begin_stay p now (first words)).deadline ≡ true) ⊎ Needs))
  begun_due Needs (Ok a) now available available' first second draws come = tt
  begun_due Needs (Err run.TimedOut) now available available' first second draws come = tt
  begun_due Needs (Err run.OutOfMemory) now None available' first second draws come = tt
  begun_due Needs (Err run.OutOfMemory) now (Some words) available' first second draws come =
      inl (subst (λ (v : View State Exchange). has_come now v.deadline ≡ true) draws.client (come (begin_stay p now (first words)).words))

  -- out of memory with an attempt due: the client is as at entry, or as right after its send
  pub unsent_due : {A : Type 0} (Unsent' : Type 0) (result : Result A RunError) (now : ℕ) (available available' : Option (List ℕ)) (shown after : Option Shown) (first second : List ℕ → View State Exchange) (client : Client State Exchange) →
      IfSome available (λ words. HasDrawn (begin_stay p now (first words)) second available') →
      OnErr result (Unsent' ⊎ IsSent p now second client available' shown after) →
      OnNoMemory result (Unsent' ⊎ IsSent p now (λ words. begin_stay p now (first words)) client available shown after)
  unsent_due Unsent' (Ok a) now available available' shown after first second client draws h = tt
  unsent_due Unsent' (Err run.TimedOut) now available available' shown after first second client draws h = tt
  unsent_due Unsent' (Err run.OutOfMemory) now available available' shown after first second client draws (inl h) = inl h
  unsent_due Unsent' (Err run.OutOfMemory) now available available' shown after first second client draws (inr h) =
      inr (record { listens = h.listens; moment = h.moment; view = go available draws; link = h.link })
    where
      go : (available₀ : Option (List ℕ)) → IfSome available₀ (λ words. HasDrawn (begin_stay p now (first words)) second available') →
          IfSome available₀ (λ words. IfSome shown (λ before. view_of client (transmit p now before.refuses (begin_stay p now (first words))).words ≡ transmit p now before.refuses (begin_stay p now (first words))))
      go None d = tt
      go (Some words) d =
          let family : View State Exchange → Type 0 = λ (v : View State Exchange). IfSome shown (λ before. view_of client (transmit p now before.refuses v).words ≡ transmit p now before.refuses v) in
          subst family d.client (at_told (λ (words' : List ℕ). family (second words')) available' (begin_stay p now (first words)).words d.words h.view)

  -- a poll that finds the state at its end: words and link are as they were
  module _ (now : ℕ) (available : Option (List ℕ)) (shown : Option Shown) (first last : List ℕ → View State Exchange) (kept : (words : List ℕ) → (first words).words ≡ words) where
    pub poll_ends : (result : PublicState) → ((words : List ℕ) → is_stopped (first words).phase ≡ false) → ((words : List ℕ) → limit_is_over p now (first words) ≡ false) → ((words : List ℕ) → has_ended p now (first words) ≡ true) →
        ((words : List ℕ) → last words ≡ enter (p.after_end (first words).state (exchange_at p now (first words))) (first words)) → ((words : List ℕ) → result ≡ p.public_state (last words).state) →
        IfSome available (λ words. IfSome shown (λ before. HasPolled p (poll p now before.refuses (input_of before.waiting) (first words)) (Ok (Some result)) last available before shown))
    poll_ends result b f e client reports = go available shown
      where
        go : (available₀ : Option (List ℕ)) (shown₀ : Option Shown) →
            IfSome available₀ (λ words. IfSome shown₀ (λ before. HasPolled p (poll p now before.refuses (input_of before.waiting) (first words)) (Ok (Some result)) last available₀ before shown₀))
        go None shown₀ = tt
        go (Some words) None = tt
        go (Some words) (Some before) =
            let same : poll p now before.refuses (input_of before.waiting) (first words) ≡ end_state p now (input_of before.waiting) (first words) = rw (b words, f words, e words) in
            subst (λ (o : PollEffect Packet Handed State Exchange). HasPolled p o (Ok (Some result)) last (Some words) before (Some before)) (sym same) (record {
              answer = ap (λ (r : PublicState). Ok (Some r)) (reports words ∙ ap (λ (v : View State Exchange). p.public_state v.state) (client words));
              client = ap last (kept words) ∙ client words;
              words = ap (λ (ws : List ℕ). Some ws) (sym (kept words));
              link = ap (λ (waiting : Option Packet). Some (record { refuses = before.refuses; waiting = waiting; handed = before.handed })) (sym (waiting_same before.waiting));
            })

  -- a release whose message the link took
  pub release_sent : (holds : Option Lease) (view new : List ℕ → View State Exchange) (message : Handed) (memory : Exchange) (shown after : Option Shown) →
      ((words : List ℕ) → (view words).exchange ≡ memory) → Some message ≡ option_map (λ lease. p.release_message lease memory) holds → HandsOver message Taken shown after →
      ((words : List ℕ) → new words ≡ clean_up p (view words)) →
      IfSome shown (λ before. (words : List ℕ) → HasReleased (release_by p holds before.refuses (view words)) (Ok true) (new words) before after)
  release_sent holds view new message memory None after remembers e sends client = tt
  release_sent None view new message memory (Some before) after remembers e sends client = absurd (cc e)
  release_sent (Some lease) view new message memory (Some before) after remembers e sends client = λ words.
      let takes : before.refuses ≡ false = sends.0 in
      let says : Some message ≡ Some (p.release_message lease (view words).exchange) = e ∙ ap (λ (m : Exchange). Some (p.release_message lease m)) (sym (remembers words)) in
      let link : after ≡ Some (record before { handed = handed_by false (Some (p.release_message lease (view words).exchange)) before.handed }) =
      sends.1 ∙ ap (λ (o : Option Handed). Some (record before { handed = handed_by false o before.handed })) says in
      rw takes (record { answer = refl; client = client words; link = rw takes at link })
