-- After a poll that answers no change nothing is due, by a lawful protocol.
use Rattle.std.proofs.Common.{◌≡◌, ℕ, ◌<◌, min, List, [], ◌++◌, Bool, true, false, refl, ap, sym, subst, ◌∙◌, arith}
use Rattle.std.specs.Prelude.{Option, Some, None, Result, Ok, Err}
use Rattle.std.proofs.lemmas.Bool.{lt-leb, leb-false}
use Rattle.dhcp_clock.specs.declared.link.Packet.{Packet}
use Rattle.dhcp_clock.specs.declared.link.Handed.{Handed}
use Rattle.dhcp_clock.specs.Link.{Turn}
use Rattle.dhcp_history.specs.declared.client.Client.{Client}
use Rattle.dhcp_history.specs.declared.machine.RunError.{RunError}
use Rattle.dhcp_history.specs.Protocol.{Protocol, Lawful, has_come}
use Rattle.dhcp_history.specs.Script.{Input}
use Rattle.dhcp_history.specs.History.{limit_moment, reading_of}
use Rattle.dhcp_history.specs.Client.{view_of}
use Rattle.dhcp_history.specs.Machine.{View, Phase, Unpolled, Pausing, Listening, Resting, Stopped, PollEffect, phase_by, is_unpolled, is_stopped, has_open_attempt, is_pausing, has_ended, exchange_at, begin_stay, begin_in, attempt_now, transmit, take_answer, receive, poll}
use Rattle.dhcp_history.specs.Run.{input_of, answer_of, UnlessNoMemory}
use Rattle.dhcp_history.specs.Schedule.{IsSettled, earlier, next_moment, next_poll_in}
use Rattle.dhcp_history.specs.Traced.{IsPollBy, Traces}
use Rattle.dhcp_history.proofs.Polls.{not_due, tried_due, tried_early}
use Rattle.dhcp_history.proofs.Follows.{poll_on, poll_begun, poll_broken, poll_failed, poll_ended, poll_tried}

-- the earlier of two moments has not come where neither has
earlier_not : (now : ℕ) (first second : Option ℕ) → has_come now first ≡ false → has_come now second ≡ false → has_come now (earlier first second) ≡ false
earlier_not now None second f s = s
earlier_not now (Some a) None f s = f
earlier_not now (Some a) (Some b) f s = lt-leb (min a b) now (omega (arith, leb-false a now f, leb-false b now s))

module _ {PublicState State Exchange Answer Lease : Type 0} (p : Protocol PublicState Packet Handed State Exchange Answer Lease) where
  -- a view in which nothing is due
  record IsCalm (now : ℕ) (view : View State Exchange) : Type 0 where
    polled : is_unpolled view.phase ≡ false
    attempt : has_come now view.deadline ≡ false
    state : has_come now (p.ending_moment view.state) ≡ false
    limit : has_come now (limit_moment p view.timeout_sec view.entered view.state) ≡ false

  calm_settled : (now : ℕ) (client : Client State Exchange) (words : List ℕ) → IsCalm now (view_of client words) → IsSettled p now client
  calm_settled now client words calm = record { polled = calm.polled; lasts = calm.state; later = go client.standing.phase calm.polled }
    where
      next : has_come now (next_moment p client) ≡ false
      next = earlier_not now client.standing.deadline (earlier (p.ending_moment client.state) (limit_moment p client.timeout_sec client.standing.entered client.state)) calm.attempt
          (earlier_not now (p.ending_moment client.state) (limit_moment p client.timeout_sec client.standing.entered client.state) calm.state calm.limit)

      go : (phase : Phase) → is_unpolled phase ≡ false → has_come now (next_poll_in p phase client) ≡ false
      go Unpolled e = absurd (cc e)
      go Pausing e = next
      go Listening e = next
      go Resting e = next
      go Stopped e = refl

  -- an effect that answers nothing leaves nothing due
  abbrev Calms : ℕ → PollEffect Packet Handed State Exchange → Type 0
  Calms now once = Ok None ≡ answer_of p once → IsCalm now once.view

  module _ (now : ℕ) (input : Input Packet) (handed : Option Handed) where
    -- what is received leaves what it found, but for the words
    received : (view : View State Exchange) → IsCalm now view → Calms now (receive p now input handed view)
    received view calm = go (has_open_attempt view.phase) refl
      where
        by_answer : (answer : Option Answer) (words : List ℕ) → Calms now (take_answer p now handed view answer words)
        by_answer None words is = record { polled = calm.polled; attempt = calm.attempt; state = calm.state; limit = calm.limit }
        by_answer (Some answer) words is = absurd (cc is)

        go : (b : Bool) → has_open_attempt view.phase ≡ b → Calms now (receive p now input handed view)
        go true l = rw l (let read = reading_of p view.state view.exchange view.words input in by_answer read.value read.left)
        go false l = rw l (λ is. calm)

  begun_polled : (now : ℕ) (view : View State Exchange) → is_unpolled (begin_stay p now view).phase ≡ false
  begun_polled now view = go view.phase refl
    where
      go : (phase : Phase) → view.phase ≡ phase → is_unpolled (begin_in p phase now view).phase ≡ false
      go Unpolled e = refl
      go Pausing e = ap is_unpolled e
      go Listening e = ap is_unpolled e
      go Resting e = ap is_unpolled e
      go Stopped e = ap is_unpolled e

  by_refusal : (refuse : Bool) → is_unpolled (phase_by refuse) ≡ false
  by_refusal true = refl
  by_refusal false = refl

  module _ (lawful : Lawful p) (now : ℕ) (refuse : Bool) (input : Input Packet) (view : View State Exchange) where
    abbrev v : View State Exchange
    v = begin_stay p now view

    module _ (b : is_stopped v.phase ≡ false) (f : has_come now (limit_moment p v.timeout_sec v.entered v.state) ≡ false) (e : has_ended p now v ≡ false) where
      lasts : has_come now (p.ending_moment v.state) ≡ false
      lasts = go (has_come now (p.ending_moment v.state)) refl
        where
          go : (c : Bool) → has_come now (p.ending_moment v.state) ≡ c → has_come now (p.ending_moment v.state) ≡ false
          go true h = absurd (cc (rw h at e))
          go false h = h

      by_due : (c : Bool) → has_come now v.deadline ≡ c → Calms now (poll_on p now refuse input v)
      by_due true d =
          let wait : 0 < (attempt_now p now v).value.wait = lawful.wait_positive v.state (exchange_at p now v) (record { is_first = is_pausing v.phase; entered = v.entered; now = now }) v.words lasts in
          let calm : IsCalm now (transmit p now refuse v) = record { polled = by_refusal refuse; attempt = not_due now (attempt_now p now v).value.wait wait; state = lasts; limit = f } in
          subst (λ (once : PollEffect Packet Handed State Exchange). Calms now once) (sym (poll_tried p now refuse input v b f e ∙ tried_due p now refuse input v d))
          (received now input (Some (attempt_now p now v).value.message) (transmit p now refuse v) calm)
      by_due false d =
          let calm : IsCalm now v = record { polled = begun_polled now view; attempt = d; state = lasts; limit = f } in
          subst (λ (once : PollEffect Packet Handed State Exchange). Calms now once) (sym (poll_tried p now refuse input v b f e ∙ tried_early p now refuse input v d))
          (received now input None v calm)

    by_end : is_stopped v.phase ≡ false → has_come now (limit_moment p v.timeout_sec v.entered v.state) ≡ false → (c : Bool) → has_ended p now v ≡ c → Calms now (poll_on p now refuse input v)
    by_end b f true e = subst (λ (once : PollEffect Packet Handed State Exchange). Calms now once) (sym (poll_ended p now refuse input v b f e)) (λ is. absurd (cc is))
    by_end b f false e = by_due b f e (has_come now v.deadline) refl

    by_limit : is_stopped v.phase ≡ false → (c : Bool) → has_come now (limit_moment p v.timeout_sec v.entered v.state) ≡ c → Calms now (poll_on p now refuse input v)
    by_limit b true f = subst (λ (once : PollEffect Packet Handed State Exchange). Calms now once) (sym (poll_failed p now refuse input v b f)) (λ is. absurd (cc is))
    by_limit b false f = by_end b f (has_ended p now v) refl

    by_phase : (c : Bool) → is_stopped v.phase ≡ c → Calms now (poll_on p now refuse input v)
    by_phase true b = subst (λ (once : PollEffect Packet Handed State Exchange). Calms now once) (sym (poll_broken p now refuse input v b)) (λ is. absurd (cc is))
    by_phase false b = by_limit b (has_come now (limit_moment p v.timeout_sec v.entered v.state)) refl

    polled_calm : Calms now (poll p now refuse input view)
    polled_calm = subst (λ (once : PollEffect Packet Handed State Exchange). Calms now once) (sym (poll_begun p lawful now refuse input view)) (by_phase (is_stopped v.phase) refl)

  module _ {Source Link : Type 0} (gives : ℕ → Source → Source → Type 0) (moves : Turn → Link → Link → Type 0) where
    -- over every link: after a poll that answers no change nothing is due
    pub traced_settles : (now : ℕ) (result : Result (Option PublicState) RunError) (old new : Client State Exchange) (words words' : Source) (link link' : Link) →
        UnlessNoMemory result (Traces p gives moves now result old new words words' link link') → Lawful p → result ≡ Ok None → IsSettled p now new
    traced_settles now (Ok None) old new words words' link link' t lawful is =
        let by : IsPollBy p now t.refuse t.packet t.turns (Ok None) (view_of old (t.taken ++ [])) (view_of new []) = t.polled [] in
        calm_settled now new [] (subst (λ (view : View State Exchange). IsCalm now view) (sym by.client) (polled_calm lawful now t.refuse (input_of t.packet) (view_of old (t.taken ++ [])) by.answer))
    traced_settles now (Ok (Some state)) old new words words' link link' t lawful is = absurd (cc is)
    traced_settles now (Err error) old new words words' link link' t lawful is = absurd (cc is)
