-- The table of states is lawful: its waits are at least 1 and over by the end of the state, and the changes of one event come
-- to an end.
use Rattle.std.proofs.Common.{◌≡◌, ℕ, suc, zero, ◌≤◌, ◌<◌, ◌⊎◌, inl, inr, List, refl, Bool, true, false, arith}
use Rattle.dhcp_clock.specs.Wait.{retransmit_wait}
use Rattle.dhcp_clock.proofs.Waits.{retransmit_far}
use Rattle.dhcp_history.specs.Protocol.{Lawful}
use Rattle.dhcp6_msg.specs.Config.{Config}
use Rattle.dhcp6_info.specs.declared.client_state.ClientState.{ClientState}
use Rattle.dhcp6_info.specs.declared.client_state.ClientState.TheVariants.{Inform, Done}
use Rattle.dhcp6_info.specs.Rules.{protocol}

-- a wait after none, or after one that was 1 at least
any_before : (previous : ℕ) → (previous ≡ 0) ⊎ (1 ≤ previous)
any_before zero = inl refl
any_before (suc previous) = inr (omega arith)

-- a wait whose first time is a second at least
next_positive : (previous first longest : ℕ) (words : List ℕ) → 1000 ≤ first → first ≤ longest → 0 < (retransmit_wait previous first longest words).value
next_positive previous first longest words h within =
    let long : 1 ≤ (retransmit_wait previous first longest words).value = retransmit_far 1 previous first longest words (any_before previous) (omega (arith, h)) within in
    omega (arith, long)

-- how many changes one event can bring at most: the way down to the request, and back by an answer
abbrev rank : ClientState → Bool → ℕ
rank Inform false = 0
rank (Done bound) false = 1
rank Inform true = 2
rank (Done bound) true = 3

-- so all laws of histories hold of this client
pub protocol_lawful : (config : Config) → Lawful (protocol config)
protocol_lawful config = record {
  wait_positive = λ state exchange start words h. grind (arith, next_positive);
  wait_within = λ state exchange start words moment a e h. grind arith;
  ended_draws_none = λ state exchange words now h. grind arith;
  rank = rank;
  rank_bound = λ state has_packet. grind arith;
  rank_ended = λ state exchange after has_packet now h. grind arith;
  rank_answered = λ state exchange packet words answer now h. grind arith;
}
