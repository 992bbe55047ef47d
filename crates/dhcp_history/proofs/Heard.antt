-- A change that a poll reports comes from a packet that it was given, or from the end of the state.
use Rattle.std.proofs.Common.{◌≡◌, ℕ, List, Bool, true, false, refl, ap, sym, subst, ◌∙◌, ◌⊎◌, inl, inr}
use Rattle.std.specs.Prelude.{Option, Some, None, Ok}
use Rattle.dhcp_clock.specs.declared.link.Packet.{Packet}
use Rattle.dhcp_clock.specs.declared.link.Handed.{Handed}
use Rattle.dhcp_clock.specs.Link.{Turn}
use Rattle.dhcp_history.specs.Protocol.{Protocol, has_come}
use Rattle.dhcp_history.specs.Script.{Input, Arrival}
use Rattle.dhcp_history.specs.Machine.{View, Phase, Unpolled, Pausing, Listening, Resting, Stopped, PollEffect, has_open_attempt, is_stopped, limit_is_over, has_ended, attempt_now, begin_stay, begin_in, transmit, receive, transmit_and_receive, poll}
use Rattle.dhcp_history.specs.Run.{input_of, answer_of}
use Rattle.dhcp_history.specs.Traced.{asks_in, asks, IsPollBy}
use Rattle.dhcp_history.specs.HeardBy.{IsHeard, IsEnded}
use Rattle.dhcp_history.proofs.Polls.{tried_due, tried_early}
use Rattle.dhcp_history.proofs.Follows.{begun_state}

module _ {PublicState State Exchange Answer Lease : Type 0} (p : Protocol PublicState Packet Handed State Exchange Answer Lease) where
  pub begun_exchange : (now : ℕ) (view : View State Exchange) → (begin_stay p now view).exchange ≡ view.exchange
  begun_exchange now view = go view.phase
    where
      go : (phase : Phase) → (begin_in p phase now view).exchange ≡ view.exchange
      go Unpolled = refl
      go Pausing = refl
      go Listening = refl
      go Resting = refl
      go Stopped = refl

  -- a change that comes of what is received was read from a packet
  record IsRead (now : ℕ) (packet : Option Packet) (w : View State Exchange) (state : State) : Type 0 where
    heard : Packet
    answer : Answer
    given : packet ≡ Some heard
    read : (p.reading w.state w.exchange heard w.words).value ≡ Some answer
    next : state ≡ (p.after_answer w.state answer now w.exchange).state

  read_from : (now : ℕ) (packet : Option Packet) (handed : Option Handed) (w : View State Exchange) (next : State) → has_open_attempt w.phase ≡ true →
      (receive p now (input_of packet) handed w).change ≡ Some next → IsRead now packet w (receive p now (input_of packet) handed w).view.state
  read_from now None handed w next l e = absurd (cc (rw l at e))
  read_from now (Some packet) handed w next l e = go (p.reading w.state w.exchange packet w.words).value refl
    where
      go : (answer : Option Answer) → (p.reading w.state w.exchange packet w.words).value ≡ answer → IsRead now (Some packet) w (receive p now (Arrival packet) handed w).view.state
      go None r = absurd (cc (rw (l, r) at e))
      go (Some answer) r = record { heard = packet; answer = answer; given = refl; read = r; next = rw (l, r) }

  deaf : (now : ℕ) (input : Input Packet) (handed : Option Handed) (w : View State Exchange) (next : State) → has_open_attempt w.phase ≡ false → (receive p now input handed w).change ≡ Some next → ⊥
  deaf now input handed w next l e = absurd (cc (rw l at e))

  module _ (now : ℕ) (refuse : Bool) (packet : Option Packet) (old : View State Exchange) where
    abbrev w : View State Exchange
    w = begin_stay p now old

    abbrev Changes : PollEffect Packet Handed State Exchange → Type 0
    Changes once = (next : State) → once.change ≡ Some next → IsEnded p now old once.view ⊎ IsHeard p now refuse packet old once.view

    module _ (b : is_stopped old.phase ≡ false) (f : limit_is_over p now old ≡ false) (e : has_ended p now old ≡ false) where
      asking : asks_in p now refuse w ≡ true → asks p now refuse old ≡ true
      asking h = rw (b, f, e) h

      works_in : (r : Bool) → refuse ≡ r → (c : Bool) → has_come now w.deadline ≡ c → (l : Bool) → has_open_attempt w.phase ≡ l →
          (next : State) → (transmit_and_receive p now refuse (input_of packet) w).change ≡ Some next →
          IsHeard p now refuse packet old (transmit_and_receive p now refuse (input_of packet) w).view
      works_in true rr true d l ll next h =
          absurd (deaf now (input_of packet) (Some (attempt_now p now w).value.message) (transmit p now true w) next refl (rw (rr, tried_due p now true (input_of packet) w d) at h))
      works_in false rr true d l ll next h =
          let message : Handed = (attempt_now p now w).value.message in
          let sent : View State Exchange = transmit p now false w in
          let is : transmit_and_receive p now refuse (input_of packet) w ≡ receive p now (input_of packet) (Some message) sent =
          ap (λ (x : Bool). transmit_and_receive p now x (input_of packet) w) rr ∙ tried_due p now false (input_of packet) w d in
          let of = read_from now packet (Some message) sent next refl (sym (ap (λ (once : PollEffect Packet Handed State Exchange). once.change) is) ∙ h) in
          record {
            heard = of.heard;
            answer = of.answer;
            exchange = (attempt_now p now w).value.exchange;
            words = sent.words;
            asked = asking (rw (rr, d));
            given = of.given;
            open_attempt = inr refl;
            read = ap (λ (s : State). (p.reading s sent.exchange of.heard sent.words).value) (sym (begun_state p now old)) ∙ of.read;
            next =
                ap (λ (once : PollEffect Packet Handed State Exchange). once.view.state) is
                ∙ (of.next ∙ ap (λ (s : State). (p.after_answer s of.answer now sent.exchange).state) (begun_state p now old));
          }
      works_in r rr false d true ll next h =
          let is : transmit_and_receive p now refuse (input_of packet) w ≡ receive p now (input_of packet) None w = tried_early p now refuse (input_of packet) w d in
          let of = read_from now packet None w next ll (sym (ap (λ (once : PollEffect Packet Handed State Exchange). once.change) is) ∙ h) in
          record {
            heard = of.heard;
            answer = of.answer;
            exchange = w.exchange;
            words = w.words;
            asked = asking (rw (d, ll));
            given = of.given;
            open_attempt = inl (begun_exchange now old);
            read = ap (λ (s : State). (p.reading s w.exchange of.heard w.words).value) (sym (begun_state p now old)) ∙ of.read;
            next =
                ap (λ (once : PollEffect Packet Handed State Exchange). once.view.state) is
                ∙ (of.next ∙ ap (λ (s : State). (p.after_answer s of.answer now w.exchange).state) (begun_state p now old));
          }
      works_in r rr false d false ll next h =
          absurd (deaf now (input_of packet) None w next ll
          (sym (ap (λ (once : PollEffect Packet Handed State Exchange). once.change) (tried_early p now refuse (input_of packet) w d)) ∙ h))

      worked : Changes (poll p now refuse (input_of packet) old)
      worked =
          let same : poll p now refuse (input_of packet) old ≡ transmit_and_receive p now refuse (input_of packet) w = rw (b, f, e) in
          subst Changes (sym same) (λ next h. inr (works_in refuse refl (has_come now w.deadline) refl (has_open_attempt w.phase) refl next h))

    by_end : is_stopped old.phase ≡ false → limit_is_over p now old ≡ false → (c : Bool) → has_ended p now old ≡ c → Changes (poll p now refuse (input_of packet) old)
    by_end b f true e = rw (b, f, e) (λ next h. inl refl)
    by_end b f false e = worked b f e

    by_limit : is_stopped old.phase ≡ false → (c : Bool) → limit_is_over p now old ≡ c → Changes (poll p now refuse (input_of packet) old)
    by_limit b true f = rw (b, f) (λ next h. absurd (cc h))
    by_limit b false f = by_end b f (has_ended p now old) refl

    by_phase : (c : Bool) → is_stopped old.phase ≡ c → Changes (poll p now refuse (input_of packet) old)
    by_phase true b = rw b (λ next h. absurd (cc h))
    by_phase false b = by_limit b (limit_is_over p now old) refl

    -- what a change is whose report this is
    reported_change : (once : PollEffect Packet Handed State Exchange) (reported : PublicState) (change : Option State) → once.change ≡ change → (failed : Bool) → once.failed ≡ failed →
        Ok (Some reported) ≡ answer_of p once → (next : State) × (once.change ≡ Some next)
    reported_change once reported None c true f h = absurd (cc (rw (c, f) at h))
    reported_change once reported None c false f h = absurd (cc (rw (c, f) at h))
    reported_change once reported (Some next) c failed f h = (next, c)

  -- over every link: a reported state comes from a packet that this poll was given, or from the end of the state before
  pub comes_from : (now : ℕ) (refuse : Bool) (packet : Option Packet) (turns : List Turn) (reported : PublicState) (old new : View State Exchange) →
      IsPollBy p now refuse packet turns (Ok (Some reported)) old new →
      IsEnded p now old new ⊎ IsHeard p now refuse packet old new
  comes_from now refuse packet turns reported old new is =
      let once : PollEffect Packet Handed State Exchange = poll p now refuse (input_of packet) old in
      let change = reported_change now refuse packet old once reported once.change refl once.failed refl is.answer in
      subst (λ (v : View State Exchange). IsEnded p now old v ⊎ IsHeard p now refuse packet old v) (sym is.client)
      (by_phase now refuse packet old (is_stopped old.phase) refl change.0 change.1)
