-- What one event can bring: at most seven polls, six changes and two messages; after it the client isn't past the end of its state.
use Rattle.std.proofs.Common.{subst, ◌≡◌, ℕ, suc, zero, ◌+◌, ◌≤◌, ◌<◌, List, [], ◌∷◌, ◌++◌, refl, ap, Bool, true, false, arith, ◌∙◌, sym, ◌⊎◌, inl, inr}
use Rattle.std.specs.Prelude.{Option, Some, None, ◌&&◌, ◌||◌}
use Rattle.dhcp_history.specs.Protocol.{Protocol, Lawful, has_come}
use Rattle.dhcp_history.specs.Script.{Input, Nothing, Arrival, Release, CleanUp, NumberedEvent, NumberedReport, Changed}
use Rattle.dhcp_history.specs.History.{limit_moment, reading_of}
use Rattle.dhcp_history.specs.Machine.{View, PollEffect, EventEffect, has_open_attempt, is_pausing, is_stopped, begin_stay, is_wait_over, exchange_at, has_ended, end_state, stop, attempt_now, transmit, receive, transmit_and_receive, poll, polls, after_poll, handed_output, failed_output}
use Rattle.dhcp_history.specs.Bounds.{count_of, is_change, is_send, poll_count, count_again}
use Rattle.dhcp_history.proofs.Polls.{not_due, tried_due, tried_early}
use Rattle.dhcp_history.proofs.Follows.{has_packet, rank, Moves, poll_on, poll_moves, poll_begun, poll_broken, poll_failed, poll_ended, poll_tried, begun_state}

pub count_of-append : {A : Type 0} (test : A → Bool) (xs ys : List A) → count_of test (xs ++ ys) ≡ count_of test xs + count_of test ys
count_of-append test [] ys = omega arith
count_of-append test (x ∷ xs) ys = omega (arith, count_of-append test xs ys)

module _ {PublicState Packet Message State Exchange Answer Lease : Type 0} (p : Protocol PublicState Packet Message State Exchange Answer Lease) (lawful : Lawful p) where
  moves : (now : ℕ) (refuse : Bool) (input : Input Packet) (view : View State Exchange) (next : State) → (poll p now refuse input view).change ≡ Some next → Moves p lawful view.state input (poll p now refuse input view)
  moves now refuse input view next e =
      let same : poll p now refuse input view ≡ poll_on p now refuse input (begin_stay p now view) = poll_begun p lawful now refuse input view in
      let change : (poll_on p now refuse input (begin_stay p now view)).change ≡ Some next = ap (λ (once : PollEffect Packet Message State Exchange). once.change) (sym same) ∙ e in
      subst (λ (once : PollEffect Packet Message State Exchange). Moves p lawful view.state input once) (sym same)
      (subst (λ (state : State). Moves p lawful state input (poll_on p now refuse input (begin_stay p now view))) (begun_state p now view)
      (poll_moves p lawful now refuse input (begin_stay p now view) next change))

  -- polls that go on until an answer None come to an end
  polls_fall : (fuel : ℕ) (v : NumberedEvent Packet) (view : View State Exchange) → poll_count p fuel v view ≤ suc (rank p lawful view.state v.input)
  polls_fall zero v view = omega arith
  polls_fall (suc fuel) v view = go once.change refl (λ left next. polls_fall fuel left next)
    where
      once : PollEffect Packet Message State Exchange
      once = poll p v.moment v.refuse v.input view

      go : (change : Option State) → once.change ≡ change → ((left : NumberedEvent Packet) (next : View State Exchange) → poll_count p fuel left next ≤ suc (rank p lawful next.state left.input)) →
          count_again p (poll_count p fuel) v change once ≤ suc (rank p lawful view.state v.input)
      go None e ih = omega arith
      go (Some next) e ih =
          let falls : suc (rank p lawful once.view.state once.left) ≤ rank p lawful view.state v.input = (moves v.moment v.refuse v.input view next e).falls in
          omega (arith, falls, ih (record v { input = once.left }) once.view)

  pub few_polls : (fuel : ℕ) (v : NumberedEvent Packet) (view : View State Exchange) → poll_count p fuel v view ≤ 7
  few_polls fuel v view = omega (arith, polls_fall fuel v view, lawful.rank_bound view.state (has_packet v.input))

  -- more polls than changes that are left change nothing
  polls_enough : (few all : ℕ) (v : NumberedEvent Packet) (view : View State Exchange) → rank p lawful view.state v.input < few → few ≤ all → polls p all v view ≡ polls p few v view
  polls_enough zero all v view h g = absurd (omega arith)
  polls_enough (suc few) zero v view h g = absurd (omega arith)
  polls_enough (suc few) (suc all) v view h g = go once.change refl (λ left next h'. polls_enough few all left next h' (omega arith))
    where
      once : PollEffect Packet Message State Exchange
      once = poll p v.moment v.refuse v.input view

      go : (change : Option State) → once.change ≡ change → ((left : NumberedEvent Packet) (next : View State Exchange) → rank p lawful next.state left.input < few → polls p all left next ≡ polls p few left next) →
          after_poll p (polls p all) v change once ≡ after_poll p (polls p few) v change once
      go None e ih = refl
      go (Some next) e ih =
          let falls : suc (rank p lawful once.view.state once.left) ≤ rank p lawful view.state v.input = (moves v.moment v.refuse v.input view next e).falls in
          ap (λ (rest : EventEffect PublicState Message State Exchange). record { outputs = handed_output v.number v.refuse once.handed ++ (record { event = v.number; report = Changed (p.public_state next) } ∷ rest.outputs); view = rest.view })
          (ih (record v { input = once.left }) once.view (omega (arith, falls)))

  pub seven_are_enough : (seven all : ℕ) → seven ≡ 7 → seven ≤ all → (v : NumberedEvent Packet) (view : View State Exchange) → polls p all v view ≡ polls p seven v view
  seven_are_enough seven all e h v view = polls_enough seven all v view (omega (arith, lawful.rank_bound view.state (has_packet v.input))) h

  -- what is counted among the outputs of a poll
  no_change_handed : (v : NumberedEvent Packet) (handed : Option Message) → count_of is_change (handed_output {PublicState = PublicState} v.number v.refuse handed) ≡ 0
  no_change_handed v None = refl
  no_change_handed v (Some message) = go v.refuse refl
    where
      go : (b : Bool) → v.refuse ≡ b → count_of is_change (handed_output {PublicState = PublicState} v.number v.refuse (Some message)) ≡ 0
      go true e = rw e
      go false e = rw e

  no_change_failed : (v : NumberedEvent Packet) (failed : Bool) → count_of is_change (failed_output {PublicState = PublicState} {Message = Message} v.number failed) ≡ 0
  no_change_failed v true = refl
  no_change_failed v false = refl

  no_send_failed : (v : NumberedEvent Packet) (failed : Bool) → count_of is_send (failed_output {PublicState = PublicState} {Message = Message} v.number failed) ≡ 0
  no_send_failed v true = refl
  no_send_failed v false = refl

  one_send : (v : NumberedEvent Packet) (handed : Option Message) → count_of is_send (handed_output {PublicState = PublicState} v.number v.refuse handed) ≤ 1
  one_send v None = omega arith
  one_send v (Some message) = go v.refuse refl
    where
      go : (b : Bool) → v.refuse ≡ b → count_of is_send (handed_output {PublicState = PublicState} v.number v.refuse (Some message)) ≤ 1
      go true e = rw e (omega arith)
      go false e = rw e (omega arith)

  -- each change of an event lowers the number of changes that are left
  changes_fall : (fuel : ℕ) (v : NumberedEvent Packet) (view : View State Exchange) → count_of is_change (polls p fuel v view).outputs ≤ rank p lawful view.state v.input
  changes_fall zero v view = omega arith
  changes_fall (suc fuel) v view = go once.change refl (λ left next. changes_fall fuel left next)
    where
      once : PollEffect Packet Message State Exchange
      once = poll p v.moment v.refuse v.input view

      go : (change : Option State) → once.change ≡ change → ((left : NumberedEvent Packet) (next : View State Exchange) → count_of is_change (polls p fuel left next).outputs ≤ rank p lawful next.state left.input) →
          count_of is_change (after_poll p (polls p fuel) v change once).outputs ≤ rank p lawful view.state v.input
      go None e ih =
          rw (count_of-append is_change (handed_output v.number v.refuse once.handed) (failed_output v.number once.failed), no_change_handed v once.handed, no_change_failed v once.failed) (omega arith)
      go (Some next) e ih =
          let falls : suc (rank p lawful once.view.state once.left) ≤ rank p lawful view.state v.input = (moves v.moment v.refuse v.input view next e).falls in
          let rest : List (NumberedReport PublicState Message) = (polls p fuel (record v { input = once.left }) once.view).outputs in
          let later : count_of is_change rest ≤ rank p lawful once.view.state once.left = ih (record v { input = once.left }) once.view in
          rw (count_of-append is_change (handed_output v.number v.refuse once.handed) (record { event = v.number; report = Changed (p.public_state next) } ∷ rest), no_change_handed v once.handed)
          (omega (arith, falls, later))

  pub few_changes : (fuel : ℕ) (v : NumberedEvent Packet) (view : View State Exchange) → count_of is_change (polls p fuel v view).outputs ≤ 6
  few_changes fuel v view = omega (arith, changes_fall fuel v view, lawful.rank_bound view.state (has_packet v.input))

  -- a poll that answers a change hands nothing and leaves the packet, or it has taken the packet
  record Hands (input : Input Packet) (once : PollEffect Packet Message State Exchange) : Type 0 where
    quiet : has_packet input ≡ false → once.handed ≡ None
    after_packet : (once.handed ≡ None) ⊎ (has_packet once.left ≡ false)
    less : has_packet input ≡ false → has_packet once.left ≡ false

  taken_hands : (now : ℕ) (input : Input Packet) (handed : Option Message) (view : View State Exchange) (next : State) → (receive p now input handed view).change ≡ Some next → Hands input (receive p now input handed view)
  taken_hands now input handed view next e = by_phase (has_open_attempt view.phase) refl
    where
      by_answer : (input' : Input Packet) → input ≡ input' → has_open_attempt view.phase ≡ true → (answer : Option Answer) → (reading_of p view.state view.exchange view.words input).value ≡ answer → Hands input (receive p now input handed view)
      by_answer input' w l None a = absurd (cc (rw (l, a) at e))
      by_answer Nothing w l (Some answer) a = absurd (cc (rw w at a))
      by_answer Release w l (Some answer) a = absurd (cc (rw w at a))
      by_answer CleanUp w l (Some answer) a = absurd (cc (rw w at a))
      by_answer (Arrival packet) w l (Some answer) a = rw (l, a) (record { quiet = λ h. absurd (cc (rw w at h)); after_packet = inr refl; less = λ h. refl })

      by_phase : (b : Bool) → has_open_attempt view.phase ≡ b → Hands input (receive p now input handed view)
      by_phase false l = absurd (cc (rw l at e))
      by_phase true l = by_answer input refl l (reading_of p view.state view.exchange view.words input).value refl

  tried_hands : (now : ℕ) (refuse : Bool) (input : Input Packet) (view : View State Exchange) (next : State) → (transmit_and_receive p now refuse input view).change ≡ Some next → Hands input (transmit_and_receive p now refuse input view)
  tried_hands now refuse input view next e = go (has_come now view.deadline) refl
    where
      go : (b : Bool) → has_come now view.deadline ≡ b → Hands input (transmit_and_receive p now refuse input view)
      go true d = rw (tried_due p now refuse input view d) (taken_hands now input (Some (attempt_now p now view).value.message) (transmit p now refuse view) next (rw (tried_due p now refuse input view d) at e))
      go false d = rw (tried_early p now refuse input view d) (taken_hands now input None view next (rw (tried_early p now refuse input view d) at e))

  -- what a poll leaves that answers no change and no error
  abbrev IsSettled : ℕ → View State Exchange → Type 0
  IsSettled now view = is_stopped view.phase ≡ false → has_ended p now view ≡ false

  -- what holds of each way that a poll can go holds of the poll
  module _ (now : ℕ) (refuse : Bool) (input : Input Packet) (Holds : PollEffect Packet Message State Exchange → Type 0)
      (by_broken : (view : View State Exchange) → Holds (stop input view)) (by_ended : (view : View State Exchange) → Holds (end_state p now input view))
      (by_tried : (view : View State Exchange) → has_ended p now view ≡ false → Holds (transmit_and_receive p now refuse input view)) where
    on_holds : (view : View State Exchange) → Holds (poll_on p now refuse input view)
    on_holds view = by_phase (is_stopped view.phase) refl
      where
        by_end : is_stopped view.phase ≡ false → has_come now (limit_moment p view.timeout_sec view.entered view.state) ≡ false → (b : Bool) → has_ended p now view ≡ b → Holds (poll_on p now refuse input view)
        by_end b f true e = rw (poll_ended p now refuse input view b f e) (by_ended view)
        by_end b f false e = rw (poll_tried p now refuse input view b f e) (by_tried view e)

        by_limit : is_stopped view.phase ≡ false → (b : Bool) → has_come now (limit_moment p view.timeout_sec view.entered view.state) ≡ b → Holds (poll_on p now refuse input view)
        by_limit b true f = rw (poll_failed p now refuse input view b f) (by_broken view)
        by_limit b false f = by_end b f (has_ended p now view) refl

        by_phase : (b : Bool) → is_stopped view.phase ≡ b → Holds (poll_on p now refuse input view)
        by_phase true b = rw (poll_broken p now refuse input view b) (by_broken view)
        by_phase false b = by_limit b (has_come now (limit_moment p view.timeout_sec view.entered view.state)) refl

    poll_holds : (view : View State Exchange) → Holds (poll p now refuse input view)
    poll_holds view = subst Holds (sym (poll_begun p lawful now refuse input view)) (on_holds (begin_stay p now view))

  poll_hands : (now : ℕ) (refuse : Bool) (input : Input Packet) (view : View State Exchange) (next : State) → (poll p now refuse input view).change ≡ Some next → Hands input (poll p now refuse input view)
  poll_hands now refuse input view =
      poll_holds now refuse input (λ once. (next : State) → once.change ≡ Some next → Hands input once)
      (λ w next e. absurd (cc e))
      (λ w next e. record { quiet = λ h. refl; after_packet = inl refl; less = λ h. h })
      (λ w lasts next e. tried_hands now refuse input w next e)
      view

  abbrev sends : List (NumberedReport PublicState Message) → ℕ
  sends outputs = count_of is_send outputs

  none_handed : (v : NumberedEvent Packet) (handed : Option Message) → handed ≡ None → sends (handed_output v.number v.refuse handed) ≡ 0
  none_handed v handed e = rw e

  -- without a packet an event has at most one message, and with one at most two
  record FewSends (fuel : ℕ) : Type 0 where
    without : (v : NumberedEvent Packet) (view : View State Exchange) → has_packet v.input ≡ false → sends (polls p fuel v view).outputs ≤ 1
    all : (v : NumberedEvent Packet) (view : View State Exchange) → sends (polls p fuel v view).outputs ≤ 2

  module _ (fuel : ℕ) (v : NumberedEvent Packet) (view : View State Exchange) where
    abbrev once : PollEffect Packet Message State Exchange
    once = poll p v.moment v.refuse v.input view

    last_sends : sends (handed_output v.number v.refuse once.handed ++ failed_output v.number once.failed) ≤ 1
    last_sends = rw (count_of-append is_send (handed_output v.number v.refuse once.handed) (failed_output v.number once.failed), no_send_failed v once.failed) (omega (arith, one_send v once.handed))

    more_sends : (next : State) (handed : ℕ) → sends (handed_output v.number v.refuse once.handed) ≡ handed → (rest : List (NumberedReport PublicState Message)) (bound : ℕ) → sends rest + handed ≤ bound →
        sends (handed_output v.number v.refuse once.handed ++ (record { event = v.number; report = Changed (p.public_state next) } ∷ rest)) ≤ bound
    more_sends next handed h rest bound few =
        rw (count_of-append is_send (handed_output v.number v.refuse once.handed) (record { event = v.number; report = Changed (p.public_state next) } ∷ rest), h) (omega (arith, few))

    sends_without : has_packet v.input ≡ false → FewSends fuel → (change : Option State) → once.change ≡ change → sends (after_poll p (polls p fuel) v change once).outputs ≤ 1
    sends_without h ih None e = last_sends
    sends_without h ih (Some next) e =
        let hands : Hands v.input once = poll_hands v.moment v.refuse v.input view next e in
        let left : NumberedEvent Packet = record v { input = once.left } in
        more_sends next 0 (none_handed v once.handed (hands.quiet h)) (polls p fuel left once.view).outputs 1 (omega (arith, ih.without left once.view (hands.less h)))

    sends_all : FewSends fuel → (change : Option State) → once.change ≡ change → sends (after_poll p (polls p fuel) v change once).outputs ≤ 2
    sends_all ih None e = omega (arith, last_sends)
    sends_all ih (Some next) e = go (poll_hands v.moment v.refuse v.input view next e).after_packet
      where
        left : NumberedEvent Packet
        left = record v { input = once.left }

        go : (once.handed ≡ None) ⊎ (has_packet once.left ≡ false) → sends (after_poll p (polls p fuel) v (Some next) once).outputs ≤ 2
        go (inl none) = more_sends next 0 (none_handed v once.handed none) (polls p fuel left once.view).outputs 2 (omega (arith, ih.all left once.view))
        go (inr gone) = more_sends next (sends (handed_output v.number v.refuse once.handed)) refl (polls p fuel left once.view).outputs 2 (omega (arith, ih.without left once.view gone, one_send v once.handed))

  few_sends : (fuel : ℕ) → FewSends fuel
  few_sends zero = record { without = λ v view h. omega arith; all = λ v view. omega arith }
  few_sends (suc fuel) = record {
    without = λ v view h. sends_without fuel v view h (few_sends fuel) (poll p v.moment v.refuse v.input view).change refl;
    all = λ v view. sends_all fuel v view (few_sends fuel) (poll p v.moment v.refuse v.input view).change refl;
  }

  pub two_sends : (fuel : ℕ) (v : NumberedEvent Packet) (view : View State Exchange) → count_of is_send (polls p fuel v view).outputs ≤ 2
  two_sends fuel v view = (few_sends fuel).all v view

  first_false : (a b : Bool) → (a || b) ≡ false → a ≡ false
  first_false true b e = e
  first_false false b e = refl

  taken_settles : (now : ℕ) (input : Input Packet) (handed : Option Message) (view : View State Exchange) → has_come now view.deadline ≡ false → has_come now (p.ending_moment view.state) ≡ false →
      (receive p now input handed view).change ≡ None → has_ended p now (receive p now input handed view).view ≡ false
  taken_settles now input handed view early lasts e = by_phase (has_open_attempt view.phase) refl
    where
      by_answer : has_open_attempt view.phase ≡ true → (answer : Option Answer) → (reading_of p view.state view.exchange view.words input).value ≡ answer → has_ended p now (receive p now input handed view).view ≡ false
      by_answer l None a = rw (l, a, lasts, l, early)
      by_answer l (Some answer) a = absurd (cc (rw (l, a) at e))

      by_phase : (b : Bool) → has_open_attempt view.phase ≡ b → has_ended p now (receive p now input handed view).view ≡ false
      by_phase true l = by_answer l (reading_of p view.state view.exchange view.words input).value refl
      by_phase false l = rw (l, lasts, l)

  tried_settles : (now : ℕ) (refuse : Bool) (input : Input Packet) (view : View State Exchange) → has_ended p now view ≡ false → (transmit_and_receive p now refuse input view).change ≡ None → has_ended p now (transmit_and_receive p now refuse input view).view ≡ false
  tried_settles now refuse input view lasts e = go (has_come now view.deadline) refl
    where
      open_ended : has_come now (p.ending_moment view.state) ≡ false
      open_ended = first_false (has_come now (p.ending_moment view.state)) (is_wait_over p now view && p.is_last_attempt view.state view.exchange) lasts

      wait : 0 < (attempt_now p now view).value.wait
      wait = lawful.wait_positive view.state (exchange_at p now view) (record { is_first = is_pausing view.phase; entered = view.entered; now = now }) view.words open_ended

      go : (b : Bool) → has_come now view.deadline ≡ b → has_ended p now (transmit_and_receive p now refuse input view).view ≡ false
      go true d = rw (tried_due p now refuse input view d)
          (taken_settles now input (Some (attempt_now p now view).value.message) (transmit p now refuse view) (not_due now (attempt_now p now view).value.wait wait) open_ended (rw (tried_due p now refuse input view d) at e))
      go false d = rw (tried_early p now refuse input view d) (taken_settles now input None view d open_ended (rw (tried_early p now refuse input view d) at e))

  poll_settles : (now : ℕ) (refuse : Bool) (input : Input Packet) (view : View State Exchange) → (poll p now refuse input view).change ≡ None → IsSettled now (poll p now refuse input view).view
  poll_settles now refuse input view =
      poll_holds now refuse input (λ once. once.change ≡ None → IsSettled now once.view)
      (λ w e works. absurd (cc works))
      (λ w e works. absurd (cc e))
      (λ w lasts e works. tried_settles now refuse input w lasts e)
      view

  polls_settle : (few : ℕ) (v : NumberedEvent Packet) (view : View State Exchange) → rank p lawful view.state v.input < few → IsSettled v.moment (polls p few v view).view
  polls_settle zero v view h = absurd (omega arith)
  polls_settle (suc few) v view h = go once.change refl (λ left next h'. polls_settle few left next h')
    where
      once : PollEffect Packet Message State Exchange
      once = poll p v.moment v.refuse v.input view

      go : (change : Option State) → once.change ≡ change → ((left : NumberedEvent Packet) (next : View State Exchange) → rank p lawful next.state left.input < few → IsSettled left.moment (polls p few left next).view) →
          IsSettled v.moment (after_poll p (polls p few) v change once).view
      go None e ih = poll_settles v.moment v.refuse v.input view e
      go (Some next) e ih =
          let falls : suc (rank p lawful once.view.state once.left) ≤ rank p lawful view.state v.input = (moves v.moment v.refuse v.input view next e).falls in
          ih (record v { input = once.left }) once.view (omega (arith, falls))

  -- after the polls of an event a client without an error isn't past the end of its state
  pub events_settle : (seven : ℕ) → seven ≡ 7 → (v : NumberedEvent Packet) (view : View State Exchange) → is_stopped (polls p seven v view).view.phase ≡ false → has_ended p v.moment (polls p seven v view).view ≡ false
  events_settle seven e v view works = polls_settle seven v view (omega (arith, lawful.rank_bound view.state (has_packet v.input))) works
