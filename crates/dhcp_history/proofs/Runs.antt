-- A run over any link is a script.
use Rattle.std.proofs.Common.{◌≡◌, ℕ, ◌<◌, List, [], ◌∷◌, ◌++◌, Bool, true, false, refl, ap, sym, subst, ◌∙◌, ◌⊎◌, inl, inr, arith}
use Rattle.std.specs.Prelude.{Option, Some, None}
use Rattle.dhcp_clock.specs.declared.link.Packet.{Packet}
use Rattle.dhcp_clock.specs.declared.link.Handed.{Handed}
use Rattle.dhcp_history.specs.Protocol.{Protocol, Lawful, has_come}
use Rattle.dhcp_history.specs.Script.{Input, Nothing, Arrival, NumberedEvent, NumberedReport, Script}
use Rattle.dhcp_history.specs.History.{limit_moment, reading_of, history, outputs}
use Rattle.dhcp_history.specs.Machine.{View, Phase, Unpolled, Pausing, Listening, Resting, Stopped, PollEffect, EventEffect, has_open_attempt, is_unpolled, is_stopped, is_pausing, has_ended, exchange_at, attempt_now, begin_stay, transmit, take_answer, receive, poll, polls, after_poll, stop, end_state, replay_from, first_view}
use Rattle.dhcp_history.specs.Run.{input_of}
use Rattle.dhcp_history.specs.EventLoop.{once_outputs}
use Rattle.dhcp_history.specs.RealRun.{Polled, event_with, with_input, joined, sent_first, NextAt, FollowedUp, once_of, run_from, Steady, events_of}
use Rattle.dhcp_history.proofs.Polls.{not_due, tried_due, tried_early}
use Rattle.dhcp_history.proofs.Follows.{poll_on, poll_begun, poll_broken, poll_failed, poll_ended, poll_tried}
use Rattle.dhcp_history.proofs.Events.{seven_are_enough}
use Rattle.dhcp_history.proofs.Running.{taken_with, taken_succeeds}
use Rattle.dhcp_history.proofs.Calls.{replay_history}

-- the first event of these is at this moment, with no input
abbrev Good : ℕ → List (NumberedEvent Packet) → Type 0
Good moment events =
    (refuse : Bool) × ((later : List (NumberedEvent Packet)) × (events ≡ record { number = moment; moment = moment; refuse = refuse; input = Nothing } ∷ later))

begun_deaf : (phase : Phase) → is_unpolled phase ≡ true → phase ≡ Unpolled
begun_deaf Unpolled e = refl
begun_deaf Pausing e = absurd (cc e)
begun_deaf Listening e = absurd (cc e)
begun_deaf Resting e = absurd (cc e)
begun_deaf Stopped e = absurd (cc e)

module _ {PublicState State Exchange Answer Lease : Type 0} (p : Protocol PublicState Packet Handed State Exchange Answer Lease) (lawful : Lawful p) where
  Effect : Type 0
  Effect = PollEffect Packet Handed State Exchange

  -- 1. What a poll can be.

  -- it answers no change, and is one event
  record Rests (q : Polled) (once : PollEffect Packet Handed State Exchange) : Type 0 where
    change : once.change ≡ None
    single : (events : List (NumberedEvent Packet)) → sent_first once.handed q.packet q events ≡ events

  -- it hands nothing, so that it is the same over every link
  record Frees (q : Polled) (view : View State Exchange) (once : PollEffect Packet Handed State Exchange) : Type 0 where
    handed : once.handed ≡ None
    left : once.left ≡ Nothing
    free : (refuse : Bool) → poll p q.moment refuse (input_of q.packet) view ≡ once

  -- it hands a message, and is then given a packet
  record Splits (q : Polled) (view : View State Exchange) (once : PollEffect Packet Handed State Exchange) : Type 0 where
    message : Handed
    packet : Packet
    mid : View State Exchange
    handed : once.handed ≡ Some message
    given : q.packet ≡ Some packet
    left : once.left ≡ Nothing
    succeeds : once.failed ≡ false
    before : poll p q.moment q.refuse Nothing view ≡ record { view = mid; handed = Some message; left = Nothing; change = None; failed = false }
    after : (refuse : Bool) → poll p q.moment refuse (Arrival packet) mid ≡ record once { handed = None }

  abbrev Kind : Polled → View State Exchange → PollEffect Packet Handed State Exchange → Type 0
  Kind q view once = once.left ≡ Nothing → Rests q once ⊎ (Frees q view once ⊎ Splits q view once)

  none_handed : (now : ℕ) (input : Input Packet) (view : View State Exchange) → (receive p now input None view).handed ≡ None
  none_handed now input view = ap (λ (once : PollEffect Packet Handed State Exchange). once.handed) (taken_with p now input None view)

  module _ (now : ℕ) (view : View State Exchange) where
    abbrev v : View State Exchange
    v = begin_stay p now view

    abbrev q_of : Bool → Option Packet → Polled
    q_of refuse packet = record { moment = now; refuse = refuse; packet = packet }

    module _ (b : is_stopped v.phase ≡ false) (f : has_come now (limit_moment p v.timeout_sec v.entered v.state) ≡ false) (e : has_ended p now v ≡ false) where
      lasts : has_come now (p.ending_moment v.state) ≡ false
      lasts = go (has_come now (p.ending_moment v.state)) refl
        where
          go : (c : Bool) → has_come now (p.ending_moment v.state) ≡ c → has_come now (p.ending_moment v.state) ≡ false
          go true h = absurd (cc (rw h at e))
          go false h = h

      early_is : (refuse : Bool) (input : Input Packet) → has_come now v.deadline ≡ false → poll p now refuse input view ≡ receive p now input None v
      early_is refuse input d = poll_begun p lawful now refuse input view ∙ (poll_tried p now refuse input v b f e ∙ tried_early p now refuse input v d)

      due_is : (refuse : Bool) (input : Input Packet) → has_come now v.deadline ≡ true →
          poll p now refuse input view ≡ receive p now input (Some (attempt_now p now v).value.message) (transmit p now refuse v)
      due_is refuse input d = poll_begun p lawful now refuse input view ∙ (poll_tried p now refuse input v b f e ∙ tried_due p now refuse input v d)

      -- once the message is taken, a poll takes the packet alone
      mid_is : (refuse : Bool) (input : Input Packet) → poll p now refuse input (transmit p now false v) ≡ receive p now input None (transmit p now false v)
      mid_is refuse input =
          let w : View State Exchange = transmit p now false v in
          let wait : 0 < (attempt_now p now v).value.wait = lawful.wait_positive v.state (exchange_at p now v) (record { is_first = is_pausing v.phase; entered = v.entered; now = now }) v.words lasts in
          let early : has_come now w.deadline ≡ false = not_due now (attempt_now p now v).value.wait wait in
          let stays : has_ended p now w ≡ false = rw (lasts, early) in
          poll_begun p lawful now refuse input w ∙ (poll_tried p now refuse input w refl f stays ∙ tried_early p now refuse input w early)

      by_due : (refuse : Bool) (packet : Option Packet) → has_come now v.deadline ≡ true →
          Kind (q_of refuse packet) view (receive p now (input_of packet) (Some (attempt_now p now v).value.message) (transmit p now refuse v))
      by_due true None d = λ left. inl (record { change = refl; single = λ events. refl })
      by_due true (Some packet) d = λ left. absurd (cc left)
      by_due false None d = λ left. inl (record { change = refl; single = λ events. refl })
      by_due false (Some packet) d = λ left.
          let message : Handed = (attempt_now p now v).value.message in
          let w : View State Exchange = transmit p now false v in
          inr (inr (record {
            message = message;
            packet = packet;
            mid = w;
            handed = ap (λ (once : PollEffect Packet Handed State Exchange). once.handed) (taken_with p now (Arrival packet) (Some message) w);
            given = refl;
            left = left;
            succeeds = taken_succeeds p now (Arrival packet) (Some message) w;
            before = due_is false Nothing d;
            after = λ refuse.
                mid_is refuse (Arrival packet)
                ∙ (taken_with p now (Arrival packet) None w
                ∙ ap (λ (once : PollEffect Packet Handed State Exchange). record once { handed = None }) (sym (taken_with p now (Arrival packet) (Some message) w)));
          }))

      by_early : (refuse : Bool) (packet : Option Packet) → has_come now v.deadline ≡ false → Kind (q_of refuse packet) view (receive p now (input_of packet) None v)
      by_early refuse packet d = λ left.
          let handed : (receive p now (input_of packet) None v).handed ≡ None = none_handed now (input_of packet) v in
          inr (inl (record { handed = handed; left = left; free = λ r. early_is r (input_of packet) d }))

      by_work : (refuse : Bool) (packet : Option Packet) (c : Bool) → has_come now v.deadline ≡ c → Kind (q_of refuse packet) view (poll_on p now refuse (input_of packet) v)
      by_work refuse packet true d =
          subst (λ (once : PollEffect Packet Handed State Exchange). Kind (q_of refuse packet) view once)
          (sym (poll_tried p now refuse (input_of packet) v b f e ∙ tried_due p now refuse (input_of packet) v d)) (by_due refuse packet d)
      by_work refuse packet false d =
          subst (λ (once : PollEffect Packet Handed State Exchange). Kind (q_of refuse packet) view once)
          (sym (poll_tried p now refuse (input_of packet) v b f e ∙ tried_early p now refuse (input_of packet) v d)) (by_early refuse packet d)

    module _ (refuse : Bool) (packet : Option Packet) where
      stops : Kind (q_of refuse packet) view (stop (input_of packet) v)
      stops = λ left. inl (record { change = refl; single = λ events. refl })

      by_end : is_stopped v.phase ≡ false → has_come now (limit_moment p v.timeout_sec v.entered v.state) ≡ false → (c : Bool) → has_ended p now v ≡ c →
          Kind (q_of refuse packet) view (poll_on p now refuse (input_of packet) v)
      by_end b f true e =
          subst (λ (once : PollEffect Packet Handed State Exchange). Kind (q_of refuse packet) view once) (sym (poll_ended p now refuse (input_of packet) v b f e))
          (λ left. inr (inl (record {
            handed = refl;
            left = left;
            free = λ r. poll_begun p lawful now r (input_of packet) view ∙ poll_ended p now r (input_of packet) v b f e;
          })))
      by_end b f false e = by_work b f e refuse packet (has_come now v.deadline) refl

      by_limit : is_stopped v.phase ≡ false → (c : Bool) → has_come now (limit_moment p v.timeout_sec v.entered v.state) ≡ c →
          Kind (q_of refuse packet) view (poll_on p now refuse (input_of packet) v)
      by_limit b true f = subst (λ (once : PollEffect Packet Handed State Exchange). Kind (q_of refuse packet) view once) (sym (poll_failed p now refuse (input_of packet) v b f)) stops
      by_limit b false f = by_end b f (has_ended p now v) refl

      by_phase : (c : Bool) → is_stopped v.phase ≡ c → Kind (q_of refuse packet) view (poll_on p now refuse (input_of packet) v)
      by_phase true b = subst (λ (once : PollEffect Packet Handed State Exchange). Kind (q_of refuse packet) view once) (sym (poll_broken p now refuse (input_of packet) v b)) stops
      by_phase false b = by_limit b (has_come now (limit_moment p v.timeout_sec v.entered v.state)) refl

  kind_of : (q : Polled) (view : View State Exchange) → Kind q view (once_of p q view)
  kind_of q view =
      subst (λ (once : PollEffect Packet Handed State Exchange). Kind q view once) (sym (poll_begun p lawful q.moment q.refuse (input_of q.packet) view))
      (by_phase q.moment view q.refuse q.packet (is_stopped (begin_stay p q.moment view).phase) refl)

  -- 2. What holds of a poll in each way that it can go.

  module _ (now : ℕ) (refuse : Bool) (input : Input Packet) (view : View State Exchange) (Holds : PollEffect Packet Handed State Exchange → Type 0)
      (by_stop : Holds (stop input (begin_stay p now view))) (by_ended : Holds (end_state p now input (begin_stay p now view)))
      (by_sent : has_come now (begin_stay p now view).deadline ≡ true →
      Holds (receive p now input (Some (attempt_now p now (begin_stay p now view)).value.message) (transmit p now refuse (begin_stay p now view))))
      (by_taken : Holds (receive p now input None (begin_stay p now view))) where
    poll_holds : Holds (poll p now refuse input view)
    poll_holds = subst Holds (sym (poll_begun p lawful now refuse input view)) (phases (is_stopped w.phase) refl)
      where
        w : View State Exchange
        w = begin_stay p now view

        dues : is_stopped w.phase ≡ false → has_come now (limit_moment p w.timeout_sec w.entered w.state) ≡ false → has_ended p now w ≡ false → (c : Bool) → has_come now w.deadline ≡ c →
            Holds (poll_on p now refuse input w)
        dues b f e true d = subst Holds (sym (poll_tried p now refuse input w b f e ∙ tried_due p now refuse input w d)) (by_sent d)
        dues b f e false d = subst Holds (sym (poll_tried p now refuse input w b f e ∙ tried_early p now refuse input w d)) by_taken

        ends : is_stopped w.phase ≡ false → has_come now (limit_moment p w.timeout_sec w.entered w.state) ≡ false → (c : Bool) → has_ended p now w ≡ c → Holds (poll_on p now refuse input w)
        ends b f true e = subst Holds (sym (poll_ended p now refuse input w b f e)) by_ended
        ends b f false e = dues b f e (has_come now w.deadline) refl

        limits : is_stopped w.phase ≡ false → (c : Bool) → has_come now (limit_moment p w.timeout_sec w.entered w.state) ≡ c → Holds (poll_on p now refuse input w)
        limits b true f = subst Holds (sym (poll_failed p now refuse input w b f)) by_stop
        limits b false f = ends b f (has_ended p now w) refl

        phases : (c : Bool) → is_stopped w.phase ≡ c → Holds (poll_on p now refuse input w)
        phases true b = subst Holds (sym (poll_broken p now refuse input w b)) by_stop
        phases false b = limits b (has_come now (limit_moment p w.timeout_sec w.entered w.state)) refl

  -- a client whose state has changed was not polled there yet
  abbrev IsAnew : PollEffect Packet Handed State Exchange → Type 0
  IsAnew once = (next : State) → once.change ≡ Some next → is_unpolled once.view.phase ≡ true

  taken_anew : (now : ℕ) (input : Input Packet) (handed : Option Handed) (view : View State Exchange) → IsAnew (receive p now input handed view)
  taken_anew now input handed view = go (has_open_attempt view.phase) refl
    where
      by_answer : (answer : Option Answer) (words : List ℕ) → IsAnew (take_answer p now handed view answer words)
      by_answer None words next e = absurd (cc e)
      by_answer (Some answer) words next e = refl

      go : (c : Bool) → has_open_attempt view.phase ≡ c → IsAnew (receive p now input handed view)
      go true l = rw l (let read = reading_of p view.state view.exchange view.words input in by_answer read.value read.left)
      go false l = rw l (λ next e. absurd (cc e))

  polled_anew : (q : Polled) (view : View State Exchange) → IsAnew (once_of p q view)
  polled_anew q view =
      poll_holds q.moment q.refuse (input_of q.packet) view IsAnew (λ next e. absurd (cc e)) (λ next e. refl)
      (λ d. taken_anew q.moment (input_of q.packet) (Some (attempt_now p q.moment (begin_stay p q.moment view)).value.message) (transmit p q.moment q.refuse (begin_stay p q.moment view)))
      (taken_anew q.moment (input_of q.packet) None (begin_stay p q.moment view))

  -- a client that was not polled yet, and hands nothing, takes no packet
  abbrev IsDeaf : Input Packet → PollEffect Packet Handed State Exchange → Type 0
  IsDeaf input once = once.handed ≡ None → once.left ≡ input

  polled_deaf : (q : Polled) (view : View State Exchange) → is_unpolled view.phase ≡ true → IsDeaf (input_of q.packet) (once_of p q view)
  polled_deaf q view unpolled =
      let now : ℕ = q.moment in
      let input : Input Packet = input_of q.packet in
      let w : View State Exchange = begin_stay p now view in
      let fresh : view.phase ≡ Unpolled = begun_deaf view.phase unpolled in
      let message : Handed = (attempt_now p now w).value.message in
      let deaf : has_open_attempt w.phase ≡ false = rw fresh in
      poll_holds now q.refuse input view (IsDeaf input) (λ e. refl) (λ e. refl)
      (λ d e. absurd (cc (sym (ap (λ (once : PollEffect Packet Handed State Exchange). once.handed) (taken_with p now input (Some message) (transmit p now q.refuse w))) ∙ e)))
      (λ e. rw deaf)

  -- 3. One poll, and the events that follow.

  module _ (later : List (NumberedEvent Packet)) where
    abbrev then_later : EventEffect PublicState Handed State Exchange → List (NumberedReport PublicState Handed)
    then_later effect = effect.outputs ++ replay_from p effect.view later

    -- an event whose input is a packet or none begins with its polls
    opens_with : (now : ℕ) (refuse : Bool) (packet : Option Packet) (view : View State Exchange) →
        let event : NumberedEvent Packet = record { number = now; moment = now; refuse = refuse; input = input_of packet } in
        replay_from p view (event ∷ later) ≡ then_later (polls p 7 event view)
    opens_with now refuse None view = refl
    opens_with now refuse (Some packet) view = refl

    -- the first of them, after which as many may follow
    first_poll : (event : NumberedEvent Packet) (view : View State Exchange) →
        let once = poll p event.moment event.refuse event.input view in
        polls p 7 event view ≡ after_poll p (polls p 7) event once.change once
    first_poll event view = sym (seven_are_enough p lawful 7 8 refl (omega arith) event view)

    one : (now : ℕ) (refuse : Bool) (packet : Option Packet) (view : View State Exchange) (once : PollEffect Packet Handed State Exchange) → poll p now refuse (input_of packet) view ≡ once →
        let event : NumberedEvent Packet = record { number = now; moment = now; refuse = refuse; input = input_of packet } in
        replay_from p view (event ∷ later) ≡ then_later (after_poll p (polls p 7) event once.change once)
    one now refuse packet view once is =
        let event : NumberedEvent Packet = record { number = now; moment = now; refuse = refuse; input = input_of packet } in
        opens_with now refuse packet view
        ∙ (ap then_later (first_poll event view)
        ∙ ap (λ (o : PollEffect Packet Handed State Exchange). then_later (after_poll p (polls p 7) event o.change o)) is)

    -- it answers no change: the event is over
    event_rests : (now : ℕ) (refuse : Bool) (packet : Option Packet) (view : View State Exchange) (once : PollEffect Packet Handed State Exchange) → poll p now refuse (input_of packet) view ≡ once →
        once.change ≡ None →
        replay_from p view (record { number = now; moment = now; refuse = refuse; input = input_of packet } ∷ later) ≡ once_outputs p now refuse once.change once ++ replay_from p once.view later
    event_rests now refuse packet view once is same = one now refuse packet view once is ∙ rw same

  -- it answers a change: the event goes on
  event_goes_on : (now : ℕ) (refuse refuse' : Bool) (packet : Option Packet) (view : View State Exchange) (once : PollEffect Packet Handed State Exchange) (next : State) (later : List (NumberedEvent Packet)) →
      poll p now refuse' (input_of packet) view ≡ once → once.change ≡ Some next → once.handed ≡ None → once.left ≡ Nothing →
      replay_from p view (record { number = now; moment = now; refuse = refuse'; input = input_of packet } ∷ later) ≡
      once_outputs p now refuse once.change once ++ replay_from p once.view (record { number = now; moment = now; refuse = refuse'; input = Nothing } ∷ later)
  event_goes_on now refuse refuse' packet view once next later is changes handed left =
      one later now refuse' packet view once is ∙ rw (changes, handed, left)

  -- what follows a poll, where no message comes before it
  goes_on : (now : ℕ) (refuse : Bool) (packet : Option Packet) (view : View State Exchange) (once : PollEffect Packet Handed State Exchange) (later : List (NumberedEvent Packet)) →
      ((r : Bool) → poll p now r (input_of packet) view ≡ once) → once.handed ≡ None → once.left ≡ Nothing →
      ((next : State) → once.change ≡ Some next → Good now later) → (change : Option State) → once.change ≡ change →
      replay_from p view (joined change (record { moment = now; refuse = refuse; packet = packet }) later) ≡ once_outputs p now refuse once.change once ++ replay_from p once.view later
  goes_on now refuse packet view once later is handed left good None e = event_rests later now refuse packet view once (is refuse) e
  goes_on now refuse packet view once later is handed left good (Some next) e =
      let more = good next e in
      rw (more.1.1) (event_goes_on now refuse more.0 packet view once next more.1.0 (is more.0) e handed left)

  -- a poll, and what follows it
  poll_replayed : (q : Polled) (view : View State Exchange) (later : List (NumberedEvent Packet)) →
      let once = once_of p q view in
      ((next : State) → once.change ≡ Some next → Good q.moment later) →
      Rests q once ⊎ (Frees q view once ⊎ Splits q view once) →
      replay_from p view (sent_first once.handed q.packet q (joined once.change q later)) ≡ once_outputs p q.moment q.refuse once.change once ++ replay_from p once.view later
  poll_replayed q view later good (inl rests) =
      let once : PollEffect Packet Handed State Exchange = once_of p q view in
      ap (replay_from p view) (rests.single (joined once.change q later))
      ∙ (ap (λ (change : Option State). replay_from p view (joined change q later)) rests.change ∙ event_rests later q.moment q.refuse q.packet view once refl rests.change)
  poll_replayed q view later good (inr (inl frees)) =
      let once : PollEffect Packet Handed State Exchange = once_of p q view in
      ap (λ (handed : Option Handed). replay_from p view (sent_first handed q.packet q (joined once.change q later))) frees.handed
      ∙ goes_on q.moment q.refuse q.packet view once later frees.free frees.handed frees.left good once.change refl
  poll_replayed q view later good (inr (inr splits)) =
      let once : PollEffect Packet Handed State Exchange = once_of p q view in
      let rest : PollEffect Packet Handed State Exchange = record once { handed = None } in
      let events : List (NumberedEvent Packet) = joined once.change q later in
      let two : sent_first once.handed q.packet q events ≡ event_with q Nothing ∷ events =
      ap (λ (handed : Option Handed). sent_first handed q.packet q events) splits.handed ∙ ap (λ (packet : Option Packet). sent_first (Some splits.message) packet q events) splits.given in
      let of_packet : events ≡ joined once.change (record q { packet = Some splits.packet }) later = ap (λ (packet : Option Packet). joined once.change (record q { packet = packet }) later) splits.given in
      let more : replay_from p splits.mid events ≡ once_outputs p q.moment q.refuse once.change rest ++ replay_from p once.view later =
      ap (replay_from p splits.mid) of_packet ∙ goes_on q.moment q.refuse (Some splits.packet) splits.mid rest later splits.after refl splits.left good once.change refl in
      ap (replay_from p view) two
      ∙ (event_rests events q.moment q.refuse None view _ splits.before refl
      ∙ (ap (λ (outs : List (NumberedReport PublicState Handed)). once_outputs p q.moment q.refuse None (record rest { handed = Some splits.message; change = None; failed = false }) ++ outs) more
      ∙ whole q once later splits.message splits.handed splits.succeeds once.change))
    where
      whole : (q : Polled) (once : PollEffect Packet Handed State Exchange) (later : List (NumberedEvent Packet)) (message : Handed) → once.handed ≡ Some message → once.failed ≡ false → (change : Option State) →
          once_outputs p q.moment q.refuse None (record once { handed = Some message; change = None; failed = false }) ++
          (once_outputs p q.moment q.refuse change (record once { handed = None }) ++ replay_from p once.view later) ≡
          once_outputs p q.moment q.refuse change once ++ replay_from p once.view later
      whole q once later message handed succeeds None = rw (handed, succeeds)
      whole q once later message handed succeeds (Some next) = rw handed

  -- 4. A run.

  -- a run that goes on after a change begins with no input
  good_events : (moment : ℕ) (view : View State Exchange) (qs : List Polled) → is_unpolled view.phase ≡ true → Steady p view qs → NextAt moment qs → Good moment (events_of p view qs)
  good_events moment view [] unpolled steady comes = absurd comes
  good_events moment view (q ∷ qs) unpolled steady comes =
      subst (λ (m : ℕ). Good m (events_of p view (q ∷ qs))) comes
      (go (λ next e. good_events q.moment (once_of p q view).view qs (polled_anew q view next e) steady.1.1
      (subst (λ (change : Option State). FollowedUp change q.moment qs) e steady.1.0)) (kind_of q view steady.0))
    where
      once : PollEffect Packet Handed State Exchange
      once = once_of p q view

      later : List (NumberedEvent Packet)
      later = events_of p once.view qs

      no_packet : once.handed ≡ None → (packet : Option Packet) → q.packet ≡ packet → packet ≡ None
      no_packet handed None e = refl
      no_packet handed (Some packet) e = absurd (cc (sym (polled_deaf q view unpolled handed ∙ ap input_of e) ∙ steady.0))

      -- the events of a poll with no packet, which is one event
      alone : ((next : State) → once.change ≡ Some next → Good q.moment later) → q.packet ≡ None → (change : Option State) → once.change ≡ change → Good q.moment (joined change q later)
      alone again none None e = (q.refuse, (later, ap (λ (packet : Option Packet). event_with q (input_of packet) ∷ later) none))
      alone again none (Some next) e =
          let more = again next e in
          (more.0, (more.1.0, ap (λ (packet : Option Packet). with_input (input_of packet) later) none ∙ ap (λ (events : List (NumberedEvent Packet)). with_input Nothing events) more.1.1))

      single_alone : (handed : Option Handed) (packet : Option Packet) → once.handed ≡ handed → q.packet ≡ packet →
          ((events : List (NumberedEvent Packet)) → sent_first handed packet q events ≡ events) → q.packet ≡ None
      single_alone None packet h e single = e ∙ no_packet h packet e
      single_alone (Some message) None h e single = e
      single_alone (Some message) (Some packet) h e single = absurd (cc (single []))

      go : ((next : State) → once.change ≡ Some next → Good q.moment later) → Rests q once ⊎ (Frees q view once ⊎ Splits q view once) → Good q.moment (sent_first once.handed q.packet q (joined once.change q later))
      go again (inl rests) =
          subst (λ (events : List (NumberedEvent Packet)). Good q.moment events) (sym (rests.single (joined once.change q later)))
          (alone again (single_alone once.handed q.packet refl refl rests.single) once.change refl)
      go again (inr (inl frees)) =
          subst (λ (handed : Option Handed). Good q.moment (sent_first handed q.packet q (joined once.change q later))) (sym frees.handed)
          (alone again (no_packet frees.handed q.packet refl) once.change refl)
      go again (inr (inr splits)) = (
        q.refuse,
        (
          joined once.change q later,
          ap (λ (handed : Option Handed). sent_first handed q.packet q (joined once.change q later)) splits.handed
              ∙ ap (λ (packet : Option Packet). sent_first (Some splits.message) packet q (joined once.change q later)) splits.given,
        ),
      )

  -- what a run reports is what its script reports
  pub run_replayed : (view : View State Exchange) (qs : List Polled) → Steady p view qs → replay_from p view (events_of p view qs) ≡ (run_from p view qs).outputs
  run_replayed view [] steady = refl
  run_replayed view (q ∷ qs) steady =
      let once : PollEffect Packet Handed State Exchange = once_of p q view in
      poll_replayed q view (events_of p once.view qs)
      (λ next e. good_events q.moment once.view qs (polled_anew q view next e) steady.1.1 (subst (λ (change : Option State). FollowedUp change q.moment qs) e steady.1.0))
      (kind_of q view steady.0)
      ∙ ap (λ (more : List (NumberedReport PublicState Handed)). once_outputs p q.moment q.refuse once.change once ++ more) (run_replayed once.view qs steady.1.1)

  -- and what its history reports
  pub run_history : (script : Script Packet State Exchange) (qs : List Polled) → Steady p (first_view script) qs → script.events ≡ events_of p (first_view script) qs →
      (run_from p (first_view script) qs).outputs ≡ outputs p (history p script)
  run_history script qs steady is =
      sym (run_replayed (first_view script) qs steady)
      ∙ (ap (λ (events : List (NumberedEvent Packet)). replay_from p (first_view script) events) (sym is) ∙ replay_history p lawful script)
