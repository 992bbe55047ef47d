-- The traffic of a client, state by state: how many messages a stay has at most, and how far apart they are.
use Rattle.std.proofs.Common.{ℕ, List, Bool}
use Rattle.std.specs.Prelude.{All}
use Rattle.std.specs.List.{Contains}
use Rattle.std.proofs.lemmas.List.Elements.{All-contains, All-contains_itself, All-weaker}
use Rattle.dhcp_history.specs.Protocol.{Protocol}
use Rattle.dhcp_history.specs.History.{Stay}
use Rattle.dhcp_history.specs.Bounds.{Distant, EndsAfter, HasAtMost, IsTakenDistant, KeepsDistance, TakesAtMost}

module _ {PublicState Packet Message State Exchange Answer Lease : Type 0} (p : Protocol PublicState Packet Message State Exchange Answer Lease) where
  -- states that end after so many taken attempts have no more of them in a stay
  pub takes_at_most : {Held : Type 0} (most : ℕ) (state_of : Held → State) → ((held : Held) → EndsAfter p (state_of held) most) →
      (stays : List (Stay State Message)) → All (HasAtMost p) stays → All (TakesAtMost most state_of) stays
  takes_at_most most state_of ends_after stays law =
      All-weaker (HasAtMost p) (TakesAtMost most state_of) (λ stay few held e. few most (rw e (ends_after held))) stays law

  -- what each state has as its distance, with the test for so long a distance, its stays keep
  pub keeps_distance : (good : ℕ → Exchange → Bool) (distance : State → ℕ) → ((state : State) → Distant p (good (distance state)) state (distance state)) →
      (stays : List (Stay State Message)) → ((least : ℕ) → All (IsTakenDistant p (good least)) stays) → All (KeepsDistance distance) stays
  keeps_distance good distance distant stays law =
      All-weaker (Contains stays) (KeepsDistance distance)
      (λ stay at. All-contains (IsTakenDistant p (good (distance stay.setting.state))) stays stay (law (distance stay.setting.state)) at
      (distance stay.setting.state) (distant stay.setting.state))
      stays (All-contains_itself stays)
