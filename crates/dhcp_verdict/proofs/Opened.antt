-- An open attempt: when it is, and what a poll then makes of a packet.
use Rattle.std.proofs.Common.{◌≡◌, ℕ, List, [], Bool, true, false, refl, ap, sym, subst, ◌∙◌}
use Rattle.std.specs.Prelude.{not, ◌&&◌, ◌||◌, Option, Some, None, is_some}
use Rattle.dhcp_history.specs.declared.client.Client.{Client}
use Rattle.dhcp_history.specs.Client.{view_of}
use Rattle.dhcp_history.specs.declared.client.Phase.{Phase}
use Rattle.dhcp_history.specs.declared.client.Phase.TheVariants.{Unpolled, Pausing, Listening, Resting, Stopped}
use Rattle.dhcp_history.specs.declared.script.Input.TheVariants.{Arrival}
use Rattle.dhcp_history.specs.Machine.{View, has_ended, has_open_attempt, limit_is_over, poll, take_answer}
use Rattle.dhcp_history.specs.Protocol.{Protocol, has_come}
use Rattle.dhcp_verdict.specs.OpenAttempt.{IsAnswerTest, answers_with, changes_with, is_open}

-- both parts of a test
left_of : (a b : Bool) → (a && b) ≡ true → a ≡ true
left_of true b e = refl
left_of false b e = e

right_of : (a b : Bool) → (a && b) ≡ true → b ≡ true
right_of true b e = e
right_of false b e = absurd (cc e)

neither : (a b : Bool) → not (a || b) ≡ true → (a ≡ false) × (b ≡ false)
neither true b e = absurd (cc e)
neither false true e = absurd (cc e)
neither false false e = (refl, refl)

-- an attempt is open in one phase alone
listens_in : (phase : Phase) → has_open_attempt phase ≡ true → phase ≡ Listening
listens_in Unpolled e = absurd (cc e)
listens_in Pausing e = absurd (cc e)
listens_in Listening e = refl
listens_in Resting e = absurd (cc e)
listens_in Stopped e = absurd (cc e)

module _ {PublicState Packet Message State Exchange Answer Lease : Type 0}
    (p : Protocol PublicState Packet Message State Exchange Answer Lease) where
  -- what a client reads changes its state if and only if it is an answer
  change_of : (now : ℕ) (handed : Option Message) (view : View State Exchange) (answer : Option Answer) (words : List ℕ) →
      is_some (take_answer p now handed view answer words).change ≡ is_some answer
  change_of now handed view None words = refl
  change_of now handed view (Some answer) words = refl

  -- a client in the same state, whose last message the link took
  abbrev listening_at : View State Exchange → View State Exchange
  listening_at view = record view { phase = Listening }

  at_once : (view : View State Exchange) → view.phase ≡ Listening → listening_at view ≡ view
  at_once view e = ap (λ (phase : Phase). record view { phase = phase }) (sym e)

  reads_listening : (now : ℕ) (refuse : Bool) (packet : Packet) (view : View State Exchange) → limit_is_over p now (listening_at view) ≡ false → has_ended p now (listening_at view) ≡ false →
      has_come now view.deadline ≡ false → is_some (poll p now refuse (Arrival packet) (listening_at view)).change ≡ is_some (p.reading view.state view.exchange packet view.words).value
  reads_listening now refuse packet view limit ended early =
      rw (limit, ended, early) (change_of now None (listening_at view) (p.reading view.state view.exchange packet view.words).value (p.reading view.state view.exchange packet view.words).left)

  -- a poll that neither stops, ends the state nor sends changes the state of a client that listens if and only if the packet answers
  poll_reads : (now : ℕ) (refuse : Bool) (packet : Packet) (view : View State Exchange) → view.phase ≡ Listening → limit_is_over p now view ≡ false → has_ended p now view ≡ false →
      has_come now view.deadline ≡ false → is_some (poll p now refuse (Arrival packet) view).change ≡ is_some (p.reading view.state view.exchange packet view.words).value
  poll_reads now refuse packet view e =
      subst
      (λ (v : View State Exchange). limit_is_over p now v ≡ false → has_ended p now v ≡ false → has_come now v.deadline ≡ false →
      is_some (poll p now refuse (Arrival packet) v).change ≡ is_some (p.reading v.state v.exchange packet v.words).value)
      (at_once view e)
      (reads_listening now refuse packet view)

  module _ (now : ℕ) (packet : Packet) (client : Client State Exchange) where
    -- so does a poll of a client with an open attempt, if no further one is due
    poll_opened : is_open p now client ≡ true → has_come now client.standing.deadline ≡ false → (refuse : Bool) (words : List ℕ) → changes_with p now refuse client packet words ≡ answers_with p client packet words
    poll_opened going early refuse words =
        let phase = listens_in client.standing.phase (left_of _ _ going) in
        let lasts = neither _ _ (right_of (has_open_attempt client.standing.phase) _ going) in
        poll_reads now refuse packet (view_of client words) phase
        (same_limit words phase ∙ lasts.0) lasts.1 early
      where
        same_limit : (words : List ℕ) → client.standing.phase ≡ Listening → limit_is_over p now (view_of client words) ≡ limit_is_over p now (view_of client [])
        same_limit words e = rw e refl

    -- a test of a packet by what it answers to an open attempt
    pub answer_test : (found : Bool) → (found ≡ true → is_open p now client ≡ true) → (found ≡ true → (words : List ℕ) → answers_with p client packet words ≡ true) →
        (found ≡ false → is_open p now client ≡ true → (words : List ℕ) × (answers_with p client packet words ≡ false)) → IsAnswerTest p now packet found client
    answer_test found listens answers dropped = record {
      listens = listens;
      answers = answers;
      dropped = dropped;
      changes = λ e early refuse words. poll_opened (listens e) early refuse words ∙ answers e words;
      stays = λ going early refuse words none. poll_opened going early refuse words ∙ none;
    }
