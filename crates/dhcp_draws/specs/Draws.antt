-- How many words a drawing takes at most, where it looks at no more.
use Rattle.std.specs.Prelude.{◌≡◌, ◌≤◌, ◌+◌, ℕ, List, ◌++◌, length}
use Rattle.dhcp_clock.specs.Words.{Drawn}
use Rattle.dhcp_history.specs.Protocol.{Protocol}
use Rattle.dhcp_history.specs.declared.rules.AttemptStart.{AttemptStart}

-- what was drawn, with further words behind those that are left
abbrev pub followed_by : {X : Type 0} → List ℕ → Drawn X → Drawn X
followed_by more drawn = record { value = drawn.value; left = drawn.left ++ more }

-- A drawing takes at most this many words, and looks at no more: where so many are left, words
-- behind them change neither what is drawn nor which of them are left.
pub record DrawsAtMost {X : Type 0} (most : ℕ) (draws : List ℕ → Drawn X) : Type 0 where
  pub leaves : (words : List ℕ) → length words ≤ length (draws words).left + most
  pub alike : (words more : List ℕ) → most ≤ length words →
      draws (words ++ more) ≡ followed_by more (draws words)

-- how many words a protocol draws at most: for the pause of a state, for an attempt, and to read a
-- packet
pub record Limits : Type 0 where
  pub pause : ℕ
  pub attempt : ℕ
  pub reading : ℕ

-- a protocol draws within these limits
pub record DrawsWithin {PublicState Packet Message State Exchange Answer Lease : Type 0}
    (limits : Limits) (p : Protocol PublicState Packet Message State Exchange Answer Lease)
    : Type 0 where
  pub pauses : (state : State) (exchange : Exchange) →
      DrawsAtMost limits.pause (p.pause state exchange)
  pub attempts : (state : State) (exchange : Exchange) (start : AttemptStart) →
      DrawsAtMost limits.attempt (p.attempt state exchange start)
  pub readings : (state : State) (exchange : Exchange) (packet : Packet) →
      DrawsAtMost limits.reading (p.reading state exchange packet)
