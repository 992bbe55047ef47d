-- What the rules of a protocol answer.
use Rattle.std.specs.Prelude.{◌≡◌, ℕ, List, Option, Some, None}
use Rattle.dhcp_clock.specs.Words.{Drawn}
use Rattle.dhcp_history.specs.Protocol.{NextState}

-- This value was drawn, by this definition, from a source that exposed the words `before`, and
-- exposes the words `after`. A source that exposes none may give any words, and exposes none
-- afterwards.
abbrev pub GivesDrawn : {A : Type 0} → (List ℕ → Drawn A) → Option (List ℕ) → A → Option (List ℕ) →
    Type 0
GivesDrawn draws None value after = after ≡ None
GivesDrawn draws (Some words) value after =
    (value ≡ (draws words).value) × (after ≡ Some (draws words).left)

-- this state and exchange are what comes next
pub record IsNext {State Exchange : Type 0} (next : NextState State Exchange)
    (new_state : State) (new_exchange : Exchange) : Type 0 where
  pub state : new_state ≡ next.state
  pub exchange : new_exchange ≡ next.exchange
