-- What a client draws, by the words that were taken from any source.
use Rattle.std.proofs.Common.{◌≡◌, ℕ, true, List, sym, subst, ◌∙◌}
use Rattle.dhcp_clock.specs.declared.link.Handed.{Handed}
use Rattle.dhcp_clock.specs.Wait.{draw}
use Rattle.dhcp_clock.specs.Words.{Drawn, DrawsBy, drawn_then, drawn_word, undrawn}
use Rattle.dhcp_clock.proofs.Taken.{taken_both, taken_nothing, taken_word}
use Rattle.dhcp_history.specs.declared.rules.AttemptStart.{AttemptStart}
use Rattle.dhcp_history.specs.declared.rules.NewAttempt.{NewAttempt}
use Rattle.dhcp6_opt.specs.declared.duid.DhcpV6Duid.{DhcpV6Duid}
use Rattle.dhcp6_opt.specs.DrawnDuid.{DrawsDuid}
use Rattle.dhcp6_msg.specs.Config.{Config, client_duid}
use Rattle.dhcp6_msg.specs.Exchange.{new_id}
use Rattle.dhcp6_client.specs.declared.client_state.ClientState.{ClientState}
use Rattle.dhcp6_client.specs.declared.client_state.Exchange.{Exchange}
use Rattle.dhcp6_client.specs.Client.{FirstDraws, first_draws}
use Rattle.dhcp6_client.specs.Rules.{association_id, attempt, attempt_with, first_pause, id_for, transaction_id, wait}

module _ {Source : Type 0} (gives : ℕ → Source → Source → Type 0) where
  -- a value that the next word gives
  taken_next : {X : Type 0} (old new : Source) (word : ℕ) (of : ℕ → X) → gives word old new → DrawsBy gives (drawn_then drawn_word (λ word. undrawn (of word))) old (of word) new
  taken_next old new word of given =
      taken_both gives old new new drawn_word (λ word. undrawn (of word)) word (of word) (taken_word gives old new word given) (taken_nothing gives new (of word))

  -- the pause before the first Solicit
  pub pause_taken : (old new : Source) (word pause : ℕ) → gives word old new → pause ≡ draw 0 1000 word → DrawsBy gives first_pause old pause new
  pause_taken old new word pause given is =
      subst (λ (value : ℕ). DrawsBy gives first_pause old value new) (sym is) (taken_next old new word (λ word. draw 0 1000 word) given)

  -- a new transaction id
  pub id_taken : (old new : Source) (word xid : ℕ) (exchange : Exchange) → gives word old new → xid ≡ new_id word → DrawsBy gives (id_for true exchange) old xid new
  id_taken old new word xid exchange given is =
      subst (λ (value : ℕ). DrawsBy gives (id_for true exchange) old value new) (sym is) (taken_next old new word new_id given)

  -- an attempt: its transaction id, its wait and its association, in this order
  pub attempt_taken : (s0 s1 s2 s3 : Source) (config : Config) (state : ClientState) (exchange : Exchange) (start : AttemptStart) (xid time iaid : ℕ) (made : NewAttempt Exchange Handed) →
      DrawsBy gives (transaction_id state start.is_first exchange) s0 xid s1 → DrawsBy gives (wait state exchange start.now) s1 time s2 → DrawsBy gives (association_id state) s2 iaid s3 →
      made ≡ attempt_with config state exchange start xid time iaid → DrawsBy gives (attempt config state exchange start) s0 made s3
  attempt_taken s0 s1 s2 s3 config state exchange start xid time iaid made one two three is =
      let whole : NewAttempt Exchange Handed = attempt_with config state exchange start xid time iaid in
      let last : ℕ → ℕ → ℕ → List ℕ → Drawn (NewAttempt Exchange Handed) = λ xid time iaid. undrawn (attempt_with config state exchange start xid time iaid) in
      let later : ℕ → ℕ → List ℕ → Drawn (NewAttempt Exchange Handed) = λ xid time. drawn_then (association_id state) (last xid time) in
      subst (λ (value : NewAttempt Exchange Handed). DrawsBy gives (attempt config state exchange start) s0 value s3) (sym is)
      (taken_both gives s0 s1 s3 (transaction_id state start.is_first exchange) (λ xid. drawn_then (wait state exchange start.now) (later xid)) xid whole one
      (taken_both gives s1 s2 s3 (wait state exchange start.now) (later xid) time whole two
      (taken_both gives s2 s3 s3 (association_id state) (last xid time) iaid whole three (taken_nothing gives s3 whole))))

  -- what is drawn for a new client: its identifier, and then its transaction id
  pub first_taken : (s0 s1 s2 : Source) (given new config : Config) (word xid : ℕ) → DrawsDuid gives (client_duid given) s0 s1 (λ duid. new ≡ record given { duid = duid }) →
      gives word s1 s2 → config ≡ new → xid ≡ new_id word → DrawsBy gives (first_draws given) s0 (record { config = config; xid = xid }) s2
  first_taken s0 s1 s2 given new config word xid drawn next same is =
      let of : Config → ℕ → FirstDraws = λ config word. record { config = config; xid = new_id word } in
      let later : DhcpV6Duid → List ℕ → Drawn FirstDraws = λ duid. drawn_then drawn_word (λ word. undrawn (of (record given { duid = duid }) word)) in
      let whole : Config = record given { duid = drawn.0 } in
      let all : DrawsBy gives (first_draws given) s0 (of whole word) s2 =
      taken_both gives s0 s1 s2 (client_duid given) later drawn.0 (of whole word) drawn.1.0 (taken_next s1 s2 word (of whole) next) in
      let with_config : DrawsBy gives (first_draws given) s0 (of config word) s2 =
      subst (λ (config : Config). DrawsBy gives (first_draws given) s0 (of config word) s2) (sym (same ∙ drawn.1.1)) all in
      subst (λ (xid : ℕ). DrawsBy gives (first_draws given) s0 (record { config = config; xid = xid }) s2) (sym is) with_config
