-- When a client asks its link for a packet, by what it can tell without its words.
use Rattle.std.proofs.Common.{◌≡◌, ℕ, List, Bool, true, false, refl, ap, sym, ◌∙◌}
use Rattle.std.specs.Prelude.{not, ◌&&◌, ◌||◌, if◌then◌else◌}
use Rattle.dhcp_clock.specs.declared.link.Packet.{Packet}
use Rattle.dhcp_clock.specs.declared.link.Handed.{Handed}
use Rattle.dhcp_history.specs.declared.client.Client.{Client}
use Rattle.dhcp_history.specs.Protocol.{Protocol, has_come}
use Rattle.dhcp_history.specs.Calls.{HasListening}
use Rattle.dhcp_history.specs.Client.{view_of}
use Rattle.dhcp_history.specs.Machine.{View, Phase, Unpolled, Pausing, Listening, Resting, Stopped, has_open_attempt, is_unpolled, is_stopped, has_ended, limit_is_over, begin_in, begin_stay}
use Rattle.dhcp_history.specs.Listening.{is_listening}
use Rattle.dhcp_history.specs.Traced.{asks_in, asks}

-- the open attempt, or the one that is due
pub open_or_due : (due listens : Bool) → (due || listens) ≡ ((due && not false) || (not due && listens))
open_or_due true true = refl
open_or_due true false = refl
open_or_due false true = refl
open_or_due false false = refl

neither_asks : (due listens refuse : Bool) → (due || listens) ≡ false → ((due && not refuse) || (not due && listens)) ≡ false
neither_asks true listens refuse e = absurd (cc e)
neither_asks false true refuse e = absurd (cc e)
neither_asks false false refuse e = refl

module _ {PublicState State Exchange Answer Lease : Type 0} (p : Protocol PublicState Packet Handed State Exchange Answer Lease) where
  begun_same : (now : ℕ) (view : View State Exchange) → is_unpolled view.phase ≡ false → begin_stay p now view ≡ view
  begun_same now view = go view.phase
    where
      go : (phase : Phase) → is_unpolled phase ≡ false → begin_in p phase now view ≡ view
      go Unpolled e = absurd (cc e)
      go Pausing e = refl
      go Listening e = refl
      go Resting e = refl
      go Stopped e = refl

  -- a client that was polled in its state asks if and only if it is listening
  pub asks_polled : (now : ℕ) (view : View State Exchange) → is_unpolled view.phase ≡ false → is_listening p now view ≡ asks p now false view
  asks_polled now view polled =
      rw (polled, begun_same now view polled)
      (ap (λ (b : Bool). not (is_stopped view.phase || (limit_is_over p now view || has_ended p now view)) && b) (open_or_due (has_come now view.deadline) (has_open_attempt view.phase)))

  -- one that is not listening does not
  pub asks_none : (now : ℕ) (refuse : Bool) (view : View State Exchange) → is_listening p now view ≡ false → asks p now refuse view ≡ false
  asks_none now refuse view = by_end (not (is_stopped view.phase || (limit_is_over p now view || has_ended p now view))) view.phase refl
    where
      silent : (phase : Phase) → view.phase ≡ phase → is_unpolled phase ≡ true → p.has_attempts view.state ≡ false → asks_in p now refuse (begin_stay p now view) ≡ false
      silent Unpolled is e none = rw (is, none) refl
      silent Pausing is e none = absurd (cc e)
      silent Listening is e none = absurd (cc e)
      silent Resting is e none = absurd (cc e)
      silent Stopped is e none = absurd (cc e)

      by_phase : (unpolled : Bool) → is_unpolled view.phase ≡ unpolled →
          (if unpolled then p.has_attempts view.state else (has_come now view.deadline || has_open_attempt view.phase)) ≡ false → asks_in p now refuse (begin_stay p now view) ≡ false
      by_phase true e none = silent view.phase refl e none
      by_phase false e none = rw (begun_same now view e) (neither_asks (has_come now view.deadline) (has_open_attempt view.phase) refuse none)

      by_end : (lasts : Bool) (phase : Phase) → view.phase ≡ phase →
          (lasts && (if is_unpolled view.phase then p.has_attempts view.state else (has_come now view.deadline || has_open_attempt view.phase))) ≡ false → (lasts && asks_in p now refuse (begin_stay p now view)) ≡ false
      by_end false phase is e = refl
      by_end true phase is e = by_phase (is_unpolled view.phase) refl e

  module _ (now : ℕ) where
    -- what is told of a client, whatever its words
    pub listening_of : (result : Bool) (client : Client State Exchange) → ((available : List ℕ) → result ≡ is_listening p now (view_of client available)) → HasListening p now result client
    listening_of result client is = record {
      listening = is;
      asking = λ polled available. is available ∙ asks_polled now (view_of client available) polled;
      deaf = λ none refuse available. asks_none now refuse (view_of client available) (sym (is available) ∙ none);
    }

    abbrev over : Client State Exchange → List ℕ → Bool
    over client available = is_stopped client.standing.phase || (limit_is_over p now (view_of client available) || has_ended p now (view_of client available))

    -- of one whose poll neither sends nor takes a packet, and of one whose poll does
    pub over_deaf : (client : Client State Exchange) (available : List ℕ) → over client available ≡ true → false ≡ is_listening p now (view_of client available)
    over_deaf client available e = rw e refl

    pub ready_asks : (result : Bool) (client : Client State Exchange) (available : List ℕ) → over client available ≡ false →
        result ≡ (if is_unpolled client.standing.phase then p.has_attempts client.state else (has_come now client.standing.deadline || has_open_attempt client.standing.phase)) →
        result ≡ is_listening p now (view_of client available)
    ready_asks result client available e is = rw e is
