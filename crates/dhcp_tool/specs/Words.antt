-- What the words of the command line ask for, over a type of requests.
use Rattle.std.specs.Prelude.{◌≡◌, ℕ, List, [], ◌∷◌, codes, Option, Some, None}

-- the words are `run` alone
abbrev pub AsksForRun : List (List ℕ) → Type 0
AsksForRun words = words ≡ codes "run" ∷ []

-- some words ask for this
abbrev pub IsAskedFor : {R : Type 0} → (List (List ℕ) → R → Type 0) → R → Type 0
IsAskedFor AsksFor request = (words : List (List ℕ)) × AsksFor words request

-- the words ask for nothing that there is
abbrev pub AsksForNothing : {R : Type 0} → (List (List ℕ) → R → Type 0) → List (List ℕ) → Type 0
AsksForNothing {R} AsksFor words = (request : R) → ¬ (AsksFor words request)

-- what the words ask for; none if they ask for nothing that there is
abbrev pub IsRequestIn : {R : Type 0} → (List (List ℕ) → R → Type 0) → Option R
    → List (List ℕ) → Type 0
IsRequestIn AsksFor (Some request) words = AsksFor words request
IsRequestIn AsksFor None words = AsksForNothing AsksFor words
