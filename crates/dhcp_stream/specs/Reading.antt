-- Readers of printed texts.
use Rattle.std.specs.Prelude.{◌≡◌, ℕ, List, Option, Some, None, Result, Ok, Err}
use Rattle.dhcp_wire.specs.Error.{ErrorParts, no_memory}

-- What a reader of a printed text returns: a value in range that is printed as this text; none if
-- no value in range is.
abbrev pub IsReading : {X : Type 0} → (X → List ℕ) → (X → Type 0) → Option X → List ℕ → Type 0
IsReading {X} print InRange (Some x) text = (print x ≡ text) × InRange x
IsReading {X} print InRange None text = (x : X) → InRange x → print x ≡ text → ⊥

-- The same of a reader that allocates: or out of memory.
abbrev pub GivesReading : {X : Type 0} → (X → List ℕ) → (X → Type 0)
    → Result (Option X) ErrorParts → List ℕ → Type 0
GivesReading print InRange (Ok answer) text = IsReading print InRange answer text
GivesReading print InRange (Err e) text = e ≡ no_memory
