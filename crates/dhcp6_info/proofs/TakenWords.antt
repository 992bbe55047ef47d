-- What a client draws, by the words that were taken from any source.
use Rattle.std.proofs.Common.{◌≡◌, ℕ, true, List, sym, subst}
use Rattle.dhcp_clock.specs.declared.link.Handed.{Handed}
use Rattle.dhcp_clock.specs.Wait.{draw}
use Rattle.dhcp_clock.specs.Words.{Drawn, DrawsBy, drawn_then, drawn_word, undrawn}
use Rattle.dhcp_clock.proofs.Taken.{taken_both, taken_nothing, taken_word}
use Rattle.dhcp_history.specs.declared.rules.AttemptStart.{AttemptStart}
use Rattle.dhcp_history.specs.declared.rules.NewAttempt.{NewAttempt}
use Rattle.dhcp6_msg.specs.Config.{Config}
use Rattle.dhcp6_msg.specs.Exchange.{new_id}
use Rattle.dhcp6_info.specs.declared.client_state.ClientState.{ClientState}
use Rattle.dhcp6_info.specs.declared.client_state.Exchange.{Exchange}
use Rattle.dhcp6_info.specs.Rules.{attempt, attempt_with, first_pause, transaction_id, wait}

module _ {Source : Type 0} (gives : ℕ → Source → Source → Type 0) where
  -- a value that the next word gives
  taken_next : {X : Type 0} (old new : Source) (word : ℕ) (of : ℕ → X) → gives word old new → DrawsBy gives (drawn_then drawn_word (λ word. undrawn (of word))) old (of word) new
  taken_next old new word of given =
      taken_both gives old new new drawn_word (λ word. undrawn (of word)) word (of word) (taken_word gives old new word given) (taken_nothing gives new (of word))

  -- the pause before the first message
  pub pause_taken : (old new : Source) (word pause : ℕ) → gives word old new → pause ≡ draw 0 1000 word → DrawsBy gives first_pause old pause new
  pause_taken old new word pause given is =
      subst (λ (value : ℕ). DrawsBy gives first_pause old value new) (sym is) (taken_next old new word (λ word. draw 0 1000 word) given)

  -- a new transaction id
  pub id_taken : (old new : Source) (word xid : ℕ) (exchange : Exchange) → gives word old new → xid ≡ new_id word → DrawsBy gives (transaction_id true exchange) old xid new
  id_taken old new word xid exchange given is =
      subst (λ (value : ℕ). DrawsBy gives (transaction_id true exchange) old value new) (sym is) (taken_next old new word new_id given)

  -- an attempt: its transaction id and its wait, in this order
  pub attempt_taken : (s0 s1 s2 : Source) (config : Config) (state : ClientState) (exchange : Exchange) (start : AttemptStart) (xid time : ℕ) (made : NewAttempt Exchange Handed) →
      DrawsBy gives (transaction_id start.is_first exchange) s0 xid s1 → DrawsBy gives (wait exchange) s1 time s2 →
      made ≡ attempt_with config start xid time → DrawsBy gives (attempt config state exchange start) s0 made s2
  attempt_taken s0 s1 s2 config state exchange start xid time made one two is =
      let whole : NewAttempt Exchange Handed = attempt_with config start xid time in
      let last : ℕ → ℕ → List ℕ → Drawn (NewAttempt Exchange Handed) = λ xid time. undrawn (attempt_with config start xid time) in
      let later : ℕ → List ℕ → Drawn (NewAttempt Exchange Handed) = λ xid. drawn_then (wait exchange) (last xid) in
      subst (λ (value : NewAttempt Exchange Handed). DrawsBy gives (attempt config state exchange start) s0 value s2) (sym is)
      (taken_both gives s0 s1 s2 (transaction_id start.is_first exchange) later xid whole one
      (taken_both gives s1 s2 s2 (wait exchange) (last xid) time whole two (taken_nothing gives s2 whole)))
