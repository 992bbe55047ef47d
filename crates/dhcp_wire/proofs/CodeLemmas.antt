-- Codes by a table of names: the first name that has a number, and else a code of the number itself.
use Rattle.std.proofs.Common.{◌≡◌, ℕ, Bool, true, false, ◌==◌, cond, List, [], ◌∷◌, Some, find, refl}
use Rattle.std.specs.Prelude.{unwrap_or}
use Rattle.std.proofs.lemmas.Bool.{eqb-true}

-- what a search finds passes its test; and else there is the default
found_or : {X : Type 0} (test : X → Bool) (P : X → Type 0) (xs : List X) (default : X) → ((x : X) → test x ≡ true → P x) → P default → P (unwrap_or (find test xs) default)
found_or test P [] default passes other = other
found_or test P (x ∷ xs) default passes other =
    elim (test x) as (λ b. test x ≡ b → P (unwrap_or (cond b (Some x) (find test xs)) default)) [
      | true ↦ λ is. passes x is
      | false ↦ λ is. found_or test P xs default passes other
    ] refl

-- the number of the code of a number is that number
pub number_of-code_of : {Code : Type 0} (number_of : Code → ℕ) (names : List Code) (number : ℕ) (other : Code) → number_of other ≡ number →
    number_of (unwrap_or (find (λ code. number_of code == number) names) other) ≡ number
number_of-code_of number_of names number other own =
    found_or (λ code. number_of code == number) (λ code. number_of code ≡ number) names other (λ code is. eqb-true _ _ is) own
