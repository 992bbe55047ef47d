-- One word that was taken.
use Rattle.std.proofs.Common.{◌≡◌, ℕ, List, [], ◌∷◌, refl}
use Rattle.dhcp_clock.specs.Words.{Drawn, DrawsBy}

pub taken_next : {X Source : Type 0} (gives : ℕ → Source → Source → Type 0) (old new : Source) (word : ℕ) (draws : List ℕ → Drawn X) (value : X) → gives word old new →
    ((rest : List ℕ) → draws (word ∷ rest) ≡ record { value = value; left = rest }) → DrawsBy gives draws old value new
taken_next gives old new word draws value given is = (word ∷ [], ((new, (given, refl)), is))
