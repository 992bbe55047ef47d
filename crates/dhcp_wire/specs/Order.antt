-- Values in the order of a comparison.
use Rattle.std.specs.Prelude.{◌≡◌, List, [], ◌∷◌}
use Rattle.std.specs.declared.cmp.Ordering.{Ordering}
use Rattle.std.specs.declared.cmp.Ordering.TheVariants.{Less}

-- each value of a list is less than the next
abbrev pub IsRisingBy : {X : Type 0} → (X → X → Ordering) → List X → Type 0
IsRisingBy compare [] = Unit {0}
IsRisingBy compare (x ∷ []) = Unit {0}
IsRisingBy compare (x ∷ y ∷ rest) = (compare x y ≡ Less) × IsRisingBy compare (y ∷ rest)
