-- The traffic of a client's history: its waits, by the laws of histories.
use Rattle.std.proofs.Common.{◌≡◌, ℕ, suc, zero, ◌*◌, ◌≤◌, List, refl, Bool, true, arith, ◌⊎◌, inl, inr}
use Rattle.std.specs.Prelude.{All, nat_le}
use Rattle.std.proofs.lemmas.Bool.{leb-true, le-leb}
use Rattle.dhcp_clock.specs.declared.link.Packet.{Packet}
use Rattle.dhcp_clock.specs.Wait.{retransmit_wait}
use Rattle.dhcp_clock.proofs.Waits.{retransmit_far}
use Rattle.dhcp_history.specs.Script.{Script}
use Rattle.dhcp_history.specs.History.{history}
use Rattle.dhcp_history.specs.Bounds.{IsKept, Distant, IsTakenDistant, KeepsDistance}
use Rattle.dhcp_history.proofs.Traffic.{keeps_distance}
use Rattle.dhcp6_msg.specs.Config.{Config}
use Rattle.dhcp6_info.specs.declared.client_state.ClientState.{ClientState}
use Rattle.dhcp6_info.specs.declared.client_state.Exchange.{Exchange}
use Rattle.dhcp6_info.specs.Bounds.{distance}
use Rattle.dhcp6_info.specs.Rules.{protocol}

-- the previous wait is none, or so long at least
abbrev is_long : ℕ → ℕ → Bool
is_long least zero = true
is_long least (suc previous) = nat_le least (suc previous)

abbrev good : ℕ → Exchange → Bool
good least exchange = is_long least exchange.previous_wait

long : (least wait : ℕ) → least ≤ wait → is_long least wait ≡ true
long least zero h = refl
long least (suc wait) h = le-leb least (suc wait) h

long_before : (least previous : ℕ) → is_long least previous ≡ true → (previous ≡ 0) ⊎ (least ≤ previous)
long_before least zero h = inl refl
long_before least (suc previous) h = inr (leb-true least (suc previous) h)

-- a wait after none, or after one so long, is so long too
next_far : (least first longest : ℕ) (exchange : Exchange) (words : List ℕ) → good least exchange ≡ true → least * 1000 ≤ first * 900 → first ≤ longest →
    least ≤ (retransmit_wait exchange.previous_wait first longest words).value
next_far least first longest exchange words g h within =
    retransmit_far least exchange.previous_wait first longest words (long_before least exchange.previous_wait g) h within

-- a new state begins with no previous wait
kept : (config : Config) (least : ℕ) → IsKept (protocol config) (good least)
kept config least = record {
  after_wait = λ exchange h. h;
  cleaned = λ exchange. refl;
  answered = λ state info now exchange. grind arith;
  ended = λ state exchange. grind arith;
}

-- each wait is so long at least
distant : (config : Config) (state : ClientState) → Distant (protocol config) (good (distance state)) state (distance state)
distant config state = record { far = λ exchange start words g h. grind (arith, next_far, long) }

pub far_history : (config : Config) →
    ((test : Exchange → Bool) → IsKept (protocol config) test → (script : Script Packet ClientState Exchange) → test script.exchange ≡ true →
    All (IsTakenDistant (protocol config) test) (history (protocol config) script)) →
    (script : Script Packet ClientState Exchange) → script.exchange.previous_wait ≡ 0 → All (KeepsDistance distance) (history (protocol config) script)
far_history config law script e =
    keeps_distance (protocol config) good distance (distant config) (history (protocol config) script)
    (λ least. law (good least) (kept config least) script (rw e refl))
