-- The set of owners: how its keys compare, and what it lists once an address is bound.
use Rattle.std.proofs.Common.{◌≡◌, ℕ, ◌+◌, ◌-◌, ◌^◌, ◌<◌, ◌≤◌, List, [], ◌∷◌, length, refl, sym, ap, Bool, true, false, ◌∙◌, subst, arith}
use Rattle.std.specs.Prelude.{◌==◌, ◌&&◌, ◌||◌, nat_le, nat_lt, Option, Some, None, option_map, slice_get, slice_set, if◌then◌else◌}
use Rattle.std.specs.BTreeMap.{is_at}
use Rattle.std.specs.BTreeMap.Range.{IsInRange}
use Rattle.std.specs.BTreeSet.{BTreeSet, IsKeyRangeOf, Updates, contains}
use Rattle.std.specs.Ordering.{is_eq, is_gt, nat_cmp, ordering_then}
use Rattle.std.specs.Cmp.{unsigned_tied}
use Rattle.std.specs.declared.cmp.Ordering.{Ordering}
use Rattle.std.specs.declared.cmp.Ordering.TheVariants.{Less, Equal, Greater}
use Rattle.std.specs.declared.ops.Bound.TheVariants.{Included}
use Rattle.std.proofs.lemmas.Option.{slice_get_within}
use Rattle.std.proofs.lemmas.Bool.Decides.{nat_tests}
use Rattle.dhcp4_server.specs.declared.binding.Binding.{Binding}
use Rattle.dhcp4_server.specs.Binding.{Rebinds, bound_at, bound_in, is_own_by}
use Rattle.dhcp4_server.specs.Decision.{lowest}
use Rattle.dhcp4_server.specs.Table.{ChangesOwner, ListsOwners, pair_order}
use Rattle.dhcp4_server.proofs.TableLemmas.{lowest_found, lowest_none, table_rebound}

then_equal : (o p : Ordering) → is_eq (ordering_then o p) ≡ (is_eq o && is_eq p)
then_equal Less p = refl
then_equal Equal p = refl
then_equal Greater p = refl

-- two keys are equal where both their numbers are
pub key_is : (x a y b : ℕ) → is_at (pair_order (x, a)) (y, b) ≡ ((x == y) && (a == b))
key_is x a y b =
    then_equal (nat_cmp x y) (nat_cmp a b)
    ∙ ap (λ (test : Bool). test && is_eq (nat_cmp a b)) (unsigned_tied x y)
    ∙ ap (λ (test : Bool). (x == y) && test) (unsigned_tied a b)

same_key : (x a : ℕ) → is_at (pair_order (x, a)) (x, a) ≡ true
same_key x a = key_is x a x a ∙ grind (arith, nat_tests)

other_owner : (x a y b : ℕ) → (x ≡ y → ⊥) → is_at (pair_order (x, a)) (y, b) ≡ false
other_owner x a y b differ = let no : (x == y) ≡ false = grind (arith, nat_tests) in key_is x a y b ∙ rw no refl

other_address : (x a y b : ℕ) → (a ≡ b → ⊥) → is_at (pair_order (x, a)) (y, b) ≡ false
other_address x a y b differ = go (x == y) refl
  where
    no : (a == b) ≡ false
    no = grind (arith, nat_tests)

    go : (test : Bool) → (x == y) ≡ test → is_at (pair_order (x, a)) (y, b) ≡ false
    go true t = key_is x a y b ∙ rw (t, no) refl
    go false t = key_is x a y b ∙ rw t refl

-- once an address is bound, the set lists its new owner for it, no other, and for other addresses what it did
pub lists_bound : (before after : BTreeSet (ℕ × ℕ)) (first address place : ℕ) (places : List (Option Binding)) (binding : Binding) →
    ListsOwners before first places → first ≤ address → place ≡ address - first → place < length places →
    ChangesOwner address binding.xid before after →
    ListsOwners after first (slice_set places place (Some binding))
lists_bound before after first address place places binding lists low is below changes x a = by_address (a == address) refl
  where
    rebound : Rebinds address binding (bound_in first places) (bound_in first (slice_set places place (Some binding)))
    rebound = table_rebound first address place places binding low is below

    by_owner : (test : Bool) → (binding.xid == x) ≡ test → contains pair_order after (x, address) ≡ (binding.xid == x)
    by_owner true t = let same : binding.xid ≡ x = grind (arith, nat_tests) in subst (λ (one : ℕ). contains pair_order after (one, address) ≡ true) same changes.own ∙ sym t
    by_owner false t = changes.others x (λ same. grind (arith, nat_tests)) ∙ sym t

    by_address : (test : Bool) → (a == address) ≡ test → contains pair_order after (x, a) ≡ is_own_by (bound_in first (slice_set places place (Some binding)) a) x
    by_address true t =
        let same : a ≡ address = grind (arith, nat_tests) in
        subst (λ (one : ℕ). contains pair_order after (x, one) ≡ is_own_by (bound_in first (slice_set places place (Some binding)) one) x) (sym same)
        (by_owner (binding.xid == x) refl ∙ ap (λ (one : Option Binding). is_own_by one x) (sym rebound.bound))
    by_address false t =
        let differ : a ≡ address → ⊥ = λ same. grind (arith, nat_tests) in
        changes.away x a differ ∙ lists x a ∙ ap (λ (one : Option Binding). is_own_by one x) (sym (rebound.others a differ))

-- an owner is no other
pub not_owner : (owner xid x : ℕ) → owner ≡ xid → (x ≡ xid → ⊥) → (owner == x) ≡ false
not_owner owner xid x same differ = go (owner == x) refl
  where
    go : (test : Bool) → (owner == x) ≡ test → (owner == x) ≡ false
    go true t = let is : owner ≡ x = grind (arith, nat_tests) in absurd (differ (sym is ∙ same))
    go false t = t

-- the address had no other owner, and the new one is added
pub owner_added : (address xid : ℕ) (before after : BTreeSet (ℕ × ℕ)) → ((x : ℕ) → (x ≡ xid → ⊥) → contains pair_order before (x, address) ≡ false) →
    Updates pair_order before after (xid, address) true → ChangesOwner address xid before after
owner_added address xid before after none added = record {
  own = added.1;
  others = λ x differ. added.2 (x, address) (other_owner xid address x address (λ same. differ (sym same))) ∙ none x differ;
  away = λ x a differ. added.2 (x, a) (other_address xid address x a (λ same. differ (sym same)));
}

-- the address had another owner, which is removed once the new one is added
pub owner_moved : (address xid old : ℕ) (before added after : BTreeSet (ℕ × ℕ)) → ((x : ℕ) → contains pair_order before (x, address) ≡ (old == x)) → (old ≡ xid → ⊥) →
    Updates pair_order before added (xid, address) true → Updates pair_order added after (old, address) false → ChangesOwner address xid before after
owner_moved address xid old before added after had differ adds removes = record {
  own = removes.2 (xid, address) (other_owner old address xid address differ) ∙ adds.1;
  others = λ x not_new. by_owner x not_new (old == x) refl;
  away = λ x a elsewhere. removes.2 (x, a) (other_address old address x a (λ same. elsewhere (sym same)))
      ∙ adds.2 (x, a) (other_address xid address x a (λ same. elsewhere (sym same)));
}
  where
    by_owner : (x : ℕ) → (x ≡ xid → ⊥) → (test : Bool) → (old == x) ≡ test → contains pair_order after (x, address) ≡ false
    by_owner x not_new true t = let same : old ≡ x = grind (arith, nat_tests) in subst (λ (one : ℕ). contains pair_order after (one, address) ≡ false) same removes.1
    by_owner x not_new false t =
        removes.2 (x, address) (other_owner old address x address (λ same. grind (arith, nat_tests)))
        ∙ adds.2 (x, address) (other_owner xid address x address (λ same. not_new (sym same)))
        ∙ had x ∙ t

-- which keys are not above which
then_above : (o p : Ordering) → is_gt (ordering_then o p) ≡ (is_gt o || (is_eq o && is_gt p))
then_above Less p = refl
then_above Equal p = refl
then_above Greater p = refl

above : (x y : ℕ) → is_gt (nat_cmp x y) ≡ nat_lt y x
above x y = go (nat_lt x y) refl (x == y) refl
  where
    go : (less : Bool) → nat_lt x y ≡ less → (same : Bool) → (x == y) ≡ same → is_gt (nat_cmp x y) ≡ nat_lt y x
    go true l same s = let no : nat_lt y x ≡ false = grind (arith, nat_tests) in rw (l, no) refl
    go false l true s = let no : nat_lt y x ≡ false = grind (arith, nat_tests) in rw (l, s, no) refl
    go false l false s = let yes : nat_lt y x ≡ true = grind (arith, nat_tests) in rw (l, s, yes) refl

pair_above : (x a y b : ℕ) → is_gt (pair_order (x, a) (y, b)) ≡ (nat_lt y x || ((x == y) && nat_lt b a))
pair_above x a y b =
    then_above (nat_cmp x y) (nat_cmp a b)
    ∙ ap (λ (test : Bool). test || (is_eq (nat_cmp x y) && is_gt (nat_cmp a b))) (above x y)
    ∙ ap (λ (test : Bool). nat_lt y x || (test && is_gt (nat_cmp a b))) (unsigned_tied x y)
    ∙ ap (λ (test : Bool). nat_lt y x || ((x == y) && test)) (above a b)

-- a key that is not above another has no greater owner, and with the same owner no greater address
at_most : (x a y b : ℕ) → is_gt (pair_order (x, a) (y, b)) ≡ false → (x ≤ y) × (x ≡ y → a ≤ b)
at_most x a y b below = (grind (arith, nat_tests), λ same. grind (arith, nat_tests))
  where
    tests : (nat_lt y x || ((x == y) && nat_lt b a)) ≡ false
    tests = sym (pair_above x a y b) ∙ below

not_above : (x a b : ℕ) → a ≤ b → is_gt (pair_order (x, a) (x, b)) ≡ false
not_above x a b le =
    let less : nat_lt x x ≡ false = grind (arith, nat_tests) in
    let no : nat_lt b a ≡ false = grind (arith, nat_tests) in
    pair_above x a x b ∙ rw (less, no) (go (x == x))
  where
    go : (test : Bool) → (false || (test && false)) ≡ false
    go true = refl
    go false = refl

-- an address that is bound to a client has a place
own_inside : (first address xid : ℕ) (places : List (Option Binding)) → is_own_by (bound_in first places address) xid ≡ true → (first ≤ address) × (address - first < length places)
own_inside first address xid places own = go (nat_le first address) refl own
  where
    at : (place : ℕ) → is_own_by (bound_at (slice_get places place)) xid ≡ true → place < length places
    at place own = by_place (slice_get places place) refl own
      where
        by_place : (found : Option (Option Binding)) → slice_get places place ≡ found → is_own_by (bound_at found) xid ≡ true → place < length places
        by_place None is own = absurd (cc own)
        by_place (Some binding) is own = slice_get_within places place binding is

    go : (test : Bool) → nat_le first address ≡ test → is_own_by (if test then bound_at (slice_get places (address - first)) else None) xid ≡ true → (first ≤ address) × (address - first < length places)
    go true t own = (grind (arith, nat_tests), at (address - first) own)
    go false t own = absurd (cc own)

-- the keys of a client
abbrev pub IsRangeOfOwner : ℕ → BTreeSet (ℕ × ℕ) → List (ℕ × ℕ) → Type 0
IsRangeOfOwner xid owned keys = IsKeyRangeOf pair_order (Included (xid, 0)) (Included (xid, 4294967295)) owned keys

-- the first key in the range of a client is its lowest address
pub lowest_of_owner : (owned : BTreeSet (ℕ × ℕ)) (first xid : ℕ) (places : List (Option Binding)) (keys : List (ℕ × ℕ)) → ListsOwners owned first places → first + length places ≤ 2 ^ 32 →
    IsRangeOfOwner xid owned keys →
    option_map (λ (key : ℕ × ℕ). key.1) (slice_get keys 0) ≡ lowest (λ address. is_own_by (bound_in first places address) xid) first (length places)
lowest_of_owner owned first xid places keys lists small range = by_keys keys range
  where
    test : ℕ → Bool
    test address = is_own_by (bound_in first places address) xid

    inside : (k : ℕ) → k < length places → IsInRange pair_order (Included (xid, 0)) (Included (xid, 4294967295)) (xid, first + k)
    inside k less = (not_above xid 0 (first + k) (omega arith), not_above xid (first + k) 4294967295 (omega (arith, less, small)))

    by_keys : (keys : List (ℕ × ℕ)) → IsRangeOfOwner xid owned keys →
        option_map (λ (key : ℕ × ℕ). key.1) (slice_get keys 0) ≡ lowest (λ address. is_own_by (bound_in first places address) xid) first (length places)
    by_keys [] range =
        sym (lowest_none (λ address. is_own_by (bound_in first places address) xid) first (length places)
        (λ k less. sym (lists xid (first + k)) ∙ range.5 refl (xid, first + k) (inside k less)))
    by_keys ((owner, address) ∷ keys) range =
        let low : (xid ≤ owner) × (xid ≡ owner → 0 ≤ address) = at_most xid 0 owner address range.1.0.0 in
        let high : (owner ≤ xid) × (owner ≡ xid → address ≤ 4294967295) = at_most owner address xid 4294967295 range.1.0.1 in
        let same : owner ≡ xid = omega (arith, low.0, high.0) in
        let own : is_own_by (bound_in first places address) xid ≡ true = subst (λ (one : ℕ). is_own_by (bound_in first places address) one ≡ true) same (sym (lists owner address) ∙ range.1.1) in
        let placed : (first ≤ address) × (address - first < length places) = own_inside first address xid places own in
        let is : first + (address - first) ≡ address = omega (arith, placed.0) in
        subst (λ (one : ℕ). Some one ≡ lowest (λ address. is_own_by (bound_in first places address) xid) first (length places)) is
        (sym (lowest_found (λ address. is_own_by (bound_in first places address) xid) first (length places) (address - first) placed.1
        (λ k less. before k (omega (arith, less, placed.1)) (λ le. omega (arith, le, less, placed.0)) same (is_own_by (bound_in first places (first + k)) xid) refl)
        (subst (λ (one : ℕ). is_own_by (bound_in first places one) xid ≡ true) (sym is) own)))
      where
        before : (k : ℕ) → k < length places → (address ≤ first + k → ⊥) → owner ≡ xid → (here : Bool) → is_own_by (bound_in first places (first + k)) xid ≡ here → is_own_by (bound_in first places (first + k)) xid ≡ false
        before k less below same false t = t
        before k less below same true t = absurd (below ((at_most owner address xid (first + k) (range.2 (xid, first + k) (inside k less) (lists xid (first + k) ∙ t))).1 same))
