-- The table of states is lawful: its waits are at least 1 and over by the end of the state, and the changes of one event come
-- to an end.
use Rattle.std.proofs.Common.{◌≡◌, ℕ, ◌+◌, ◌-◌, ◌*◌, ◌%◌, ◌^◌, min, ◌≤◌, ◌<◌, Bool, true, false, arith}
use Rattle.std.proofs.lemmas.Nat.{pow_pos, pow-add}
use Rattle.dhcp_clock.specs.Wait.{discovery_seconds, discovery_wait}
use Rattle.dhcp_history.specs.Protocol.{Lawful}
use Rattle.dhcp4_lease.specs.Config.{Config}
use Rattle.dhcp4_client.specs.declared.client_state.ClientState.{ClientState}
use Rattle.dhcp4_client.specs.declared.client_state.ClientState.TheVariants.{InitReboot, Selecting, Rebooting, Done, Renewing, Rebinding}
use Rattle.dhcp4_client.specs.Rules.{protocol}

-- a search waits for three seconds at least
pub discovery_wait_long : (count word : ℕ) → 3000 ≤ discovery_wait count word
unfolding discovery_seconds
discovery_wait_long count word = go (2 ^ count) (2 ^ (count + 2)) (pow_pos count) (pow-add 2 count 2)
  where
    go : (one four : ℕ) → 0 < one → four ≡ one * 4 → 3000 ≤ min (four - 1) 62 * 1000 + word % 2000
    go one four h e = omega arith

-- how many changes one event can bring at most: the way down to the search, and back by an answer
abbrev rank : ClientState → Bool → ℕ
rank InitReboot false = 0
rank (Selecting offer) false = 1
rank (Rebooting held) false = 1
rank (Done bound) false = 3
rank (Renewing bound) false = 2
rank (Rebinding bound) false = 1
rank InitReboot true = 2
rank (Selecting offer) true = 4
rank (Rebooting held) true = 4
rank (Done bound) true = 6
rank (Renewing bound) true = 5
rank (Rebinding bound) true = 4

-- so all laws of histories hold of this client
pub protocol_lawful : (config : Config) → Lawful (protocol config)
protocol_lawful config = record {
  wait_positive = λ state exchange start words h. grind (arith, discovery_wait_long);
  wait_within = λ state exchange start words moment a e h. grind arith;
  ended_draws_none = λ state exchange words now h. grind arith;
  rank = rank;
  rank_bound = λ state has_packet. grind arith;
  rank_ended = λ state exchange after has_packet now h. grind arith;
  rank_answered = λ state exchange packet words answer now h. grind arith;
}
