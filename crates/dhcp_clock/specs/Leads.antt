-- How one value leads to another, step by step.
use Rattle.std.specs.Prelude.{◌≡◌, List, [], ◌∷◌}

-- these steps, one after the other, lead from the first value to the second
abbrev pub Leads : {Step Value : Type 0} → (Step → Value → Value → Type 0) →
    Value → List Step → Value → Type 0
Leads moves old [] new = new ≡ old
Leads moves old (step ∷ steps) new =
    (between : _) × (moves step old between × Leads moves between steps new)
