-- The lowest number that passes a test, found one by one; a table with one binding changed.
use Rattle.std.proofs.Common.{◌≡◌, ℕ, suc, zero, ◌+◌, ◌-◌, ◌<◌, ◌≤◌, List, [], ◌∷◌, length, refl, sym, ap, arith, Bool, true, false, ◌∙◌, subst}
use Rattle.std.specs.Prelude.{Option, Some, None, nat_le, nat_lt, option_map, slice_get, slice_set, if◌then◌else◌}
use Rattle.std.proofs.lemmas.Bool.Decides.{nat_tests}
use Rattle.std.proofs.lemmas.Grind.{get_or-set_at}
use Rattle.std.proofs.lemmas.List.{get_or-set_other, length-set}
use Rattle.std.proofs.lemmas.Option.{slice_get-get_or, slice_get_past}
use Rattle.dhcp4_server.specs.declared.binding.Binding.{Binding}
use Rattle.dhcp4_server.specs.Binding.{Rebinds, bound_at, bound_in, is_free_by, is_over_by, is_own_by}
use Rattle.dhcp4_server.specs.Decision.{lowest}
use Rattle.dhcp4_server.specs.Blocks.{IsLowestIn, is_over_at}

pub lowest_found : (test : ℕ → Bool) (first count i : ℕ) → i < count → ((k : ℕ) → k < i → test (first + k) ≡ false) → test (first + i) ≡ true → lowest test first count ≡ Some (first + i)
lowest_found test first zero i below before here = absurd (omega (arith, below))
lowest_found test first (suc count) zero below before here =
    let same : first + 0 ≡ first = omega arith in
    rw (subst (λ (place : ℕ). test place ≡ true) same here) (ap (λ (place : ℕ). Some place) (sym same))
lowest_found test first (suc count) (suc i) below before here =
    let zero_is : first + 0 ≡ first = omega arith in
    let passed : test first ≡ false = subst (λ (place : ℕ). test place ≡ false) zero_is (before 0 (omega arith)) in
    let moved : (k : ℕ) → suc first + k ≡ first + suc k = λ k. omega arith in
    rw passed
    (lowest_found test (suc first) count i (omega (arith, below)) (λ k less. subst (λ (place : ℕ). test place ≡ false) (sym (moved k)) (before (suc k) (omega (arith, less))))
    (subst (λ (place : ℕ). test place ≡ true) (sym (moved i)) here) ∙ ap (λ (place : ℕ). Some place) (moved i))

pub lowest_none : (test : ℕ → Bool) (first count : ℕ) → ((k : ℕ) → k < count → test (first + k) ≡ false) → lowest test first count ≡ None
lowest_none test first zero before = refl
lowest_none test first (suc count) before =
    let zero_is : first + 0 ≡ first = omega arith in
    let passed : test first ≡ false = subst (λ (place : ℕ). test place ≡ false) zero_is (before 0 (omega arith)) in
    let moved : (k : ℕ) → suc first + k ≡ first + suc k = λ k. omega arith in
    rw passed (lowest_none test (suc first) count (λ k less. subst (λ (place : ℕ). test place ≡ false) (sym (moved k)) (before (suc k) (omega (arith, less)))))

-- what is at a place of a list with one place changed: there, and elsewhere
get_set : {A : Type 0} (xs : List A) (i : ℕ) (x : A) → i < length xs → slice_get (slice_set xs i x) i ≡ Some x
get_set {A} xs i x below =
    let inside : i < length (slice_set xs i x) = omega (arith, length-set xs i x, below) in
    slice_get-get_or (slice_set xs i x) i x inside ∙ ap (λ (one : A). Some one) (get_or-set_at xs i i x x refl below)

get_other : {A : Type 0} (xs : List A) (i k : ℕ) (x : A) → (k ≡ i → ⊥) → slice_get (slice_set xs i x) k ≡ slice_get xs k
get_other {A} xs i k x other = go (nat_lt k (length xs)) refl
  where
    go : (test : Bool) → nat_lt k (length xs) ≡ test → slice_get (slice_set xs i x) k ≡ slice_get xs k
    go true is =
        let inside : k < length xs = grind (arith, nat_tests) in
        let still : k < length (slice_set xs i x) = omega (arith, length-set xs i x, inside) in
        slice_get-get_or (slice_set xs i x) k x still ∙ ap (λ (one : A). Some one) (get_or-set_other xs i k x x other) ∙ sym (slice_get-get_or xs k x inside)
    go false is =
        let past : length xs ≤ k = grind (arith, nat_tests) in
        slice_get_past (slice_set xs i x) k (omega (arith, length-set xs i x, past)) ∙ sym (slice_get_past xs k past)

pub table_rebound : (first address place : ℕ) (places : List (Option Binding)) (binding : Binding) → first ≤ address → place ≡ address - first → place < length places →
    Rebinds address binding (bound_in first places) (bound_in first (slice_set places place (Some binding)))
table_rebound first address place places binding low is below = record {
  bound = subst (λ (at : ℕ). (if nat_le first address then bound_at (slice_get (slice_set places place (Some binding)) at) else None) ≡ Some binding) is
      (ap (λ (test : Bool). if test then bound_at (slice_get (slice_set places place (Some binding)) place) else None) inside
      ∙ ap bound_at (get_set places place (Some binding) below));
  others = λ other differs. other_place other differs (nat_le first other) refl;
}
  where
    inside : nat_le first address ≡ true
    inside = grind (arith, nat_tests)

    other_place : (other : ℕ) → (other ≡ address → ⊥) → (test : Bool) → nat_le first other ≡ test → bound_in first (slice_set places place (Some binding)) other ≡ bound_in first places other
    other_place other differs false t = rw t
    other_place other differs true t =
        let reached : first ≤ other = grind (arith, nat_tests) in
        rw t (ap bound_at (get_other places place (other - first) (Some binding) (λ same. differs (omega (arith, same, is, reached, low)))))

-- the address at a place
pub at_place : (first : ℕ) (places : List (Option Binding)) (k : ℕ) → bound_in first places (first + k) ≡ bound_at (slice_get places k)
at_place first places k =
    let reached : nat_le first (first + k) ≡ true = grind (arith, nat_tests) in
    let place : (first + k) - first ≡ k = omega arith in
    rw (reached, place) refl

-- what is the lowest of the places is the lowest of the addresses
pub lowest_of_places : (first now : ℕ) (places : List (Option Binding)) (result : Option ℕ) → IsLowestIn (is_over_at places now) 0 (length places) result →
    option_map (λ place. first + place) result ≡ lowest (λ address. is_over_by (bound_in first places address) now) first (length places)
lowest_of_places first now places None none =
    sym (lowest_none (λ address. is_over_by (bound_in first places address) now) first (length places)
    (λ k less. ap (λ (binding : Option Binding). is_over_by binding now) (at_place first places k) ∙ none k (omega arith) less))
lowest_of_places first now places (Some place) found =
    sym (lowest_found (λ address. is_over_by (bound_in first places address) now) first (length places) place found.1
    (λ k less. ap (λ (binding : Option Binding). is_over_by binding now) (at_place first places k) ∙ found.3 k (omega arith) less)
    (ap (λ (binding : Option Binding). is_over_by binding now) (at_place first places place) ∙ found.2))

-- where none passes, none before passes
pub none_passes : (test : ℕ → Bool) (first count : ℕ) → lowest test first count ≡ None → (k : ℕ) → k < count → test (first + k) ≡ false
none_passes test first zero none k less = absurd (omega (arith, less))
none_passes test first (suc count) none k less = go (test first) refl k less (λ rest j below. none_passes test (suc first) count rest j below)
  where
    go : (here : Bool) → test first ≡ here → (k : ℕ) → k < suc count → (lowest test (suc first) count ≡ None → (j : ℕ) → j < count → test (suc first + j) ≡ false) → test (first + k) ≡ false
    go true is k less later = absurd (cc (rw is at none))
    go false is zero less later = let same : first + 0 ≡ first = omega arith in rw same is
    go false is (suc k) less later = let moved : first + suc k ≡ suc first + k = omega arith in rw moved (later (rw is at none) k (omega (arith, less)))

pub lowest_same_in : (one other : ℕ → Bool) (first count : ℕ) → ((k : ℕ) → k < count → one (first + k) ≡ other (first + k)) → lowest one first count ≡ lowest other first count
lowest_same_in one other first zero same = refl
lowest_same_in one other first (suc count) same =
    let here : one first ≡ other first = let zero_is : first + 0 ≡ first = omega arith in subst (λ (place : ℕ). one place ≡ other place) zero_is (same 0 (omega arith)) in
    let rest : lowest one (suc first) count ≡ lowest other (suc first) count =
    lowest_same_in one other (suc first) count (λ k less. let moved : first + suc k ≡ suc first + k = omega arith in subst (λ (place : ℕ). one place ≡ other place) moved (same (suc k) (omega (arith, less)))) in
    ap (λ (test : Bool). if test then Some first else lowest one (suc first) count) here
    ∙ ap (λ (rest : Option ℕ). if other first then Some first else rest) rest

free_or_over : (binding : Option Binding) (xid now : ℕ) → is_own_by binding xid ≡ false → is_free_by binding xid now ≡ is_over_by binding now
free_or_over None xid now other = grind (arith, nat_tests)
free_or_over (Some binding) xid now other = rw other refl

-- for a client without an address of its own, the lowest that is free for it is the lowest that is free for every client
pub free_is_over : (first now xid : ℕ) (places : List (Option Binding)) → lowest (λ address. is_own_by (bound_in first places address) xid) first (length places) ≡ None →
    lowest (λ address. is_free_by (bound_in first places address) xid now) first (length places) ≡ lowest (λ address. is_over_by (bound_in first places address) now) first (length places)
free_is_over first now xid places none =
    lowest_same_in (λ address. is_free_by (bound_in first places address) xid now) (λ address. is_over_by (bound_in first places address) now) first (length places)
    (λ k less. free_or_over (bound_in first places (first + k)) xid now (none_passes (λ address. is_own_by (bound_in first places address) xid) first (length places) none k less))
