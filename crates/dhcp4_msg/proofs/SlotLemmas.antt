-- Options in a list, with a table of their places.
use Rattle.std.proofs.Common.{◌≡◌, ℕ, zero, suc, ◌+◌, ◌<◌, ◌≤◌, Bool, true, false, ◌==◌, cond, ltb, List, [], ◌∷◌, ◌++◌, length, get_or, take, drop, set, replicate, Option, Some, None, IsTrue, is_some, slice_get, filter_map, refl, sym, ap, subst, ◌∙◌, arith, length-append, append-nil, drop-cons, get_or-set_same, get_or-set_other}
use Rattle.std.specs.Prelude.{position}
use Rattle.std.specs.List.{All, count_by, position_or_len, position_from, find}
use Rattle.std.specs.Option.{option_eq}
use Rattle.std.specs.FinMap as map
use Rattle.std.specs.Cmp.{nat_cmp_total, unsigned_tied}
use Rattle.std.specs.Ordering.{nat_cmp}
use Rattle.std.specs.FinMap.{nat_cmp-IsAntisymmetric}
use Rattle.std.proofs.lemmas.Bool.{ltb-true, ltb-false, eqb-true, eq-eqb, false≢true}
use Rattle.std.specs.List.{cons_option}
use Rattle.std.proofs.lemmas.List.{length-set, length-replicate, get_or-replicate, get_or_default, take_all, take_more, take-append-drop, take-take, drop_all}
use Rattle.std.proofs.lemmas.List.Elements.{All-set, All-append, filter_map-append}
use Rattle.std.proofs.lemmas.List.Folds.{find_at, find-set}
use Rattle.std.proofs.lemmas.List.Quantifiers.{position-Some}
use Rattle.std.proofs.lemmas.Iterator.Adapters.{position_from-zero}
use Rattle.std.proofs.lemmas.List.Sums.{count_by-le-length, count_by_more_yes, sum_by-append, sum_by-set, passes_at_first}
use Rattle.std.proofs.lemmas.Option.{none-some, same_Some, slice_get-get_or, slice_get_past, slice_get_within, get_or_from_slice_get}
use Rattle.dhcp4_msg.specs.declared.option.DhcpV4Option.{DhcpV4Option}
use Rattle.dhcp4_msg.specs.Options.{OptionMap}
use Rattle.dhcp4_msg.specs.Options.{by_number, map_of, has_number, kept_in, CanBeKept, IsIndexed}
use Rattle.dhcp4_msg.specs.Laws.{HasWidths, AllStand}
use Rattle.dhcp4_msg.specs.Value.{option_number, fits}
use Rattle.dhcp4_msg.specs.contracts.option.DhcpV4OptionPartialEq.TheImpl.{ghosts}
use Rattle.dhcp_wire.proofs.Entries.{is_passed}
use Rattle.dhcp4_msg.proofs.RisingLemmas.{Rising, Rising-is_sorted, values_of-rising, pairs_eq, equal_at, equal_in_pairs}

-- the first place that passes, where there is one
at_position : {X : Type 0} (p : X → Bool) (xs : List X) (i : ℕ) → position p xs ≡ Some i → (position_or_len p xs ≡ i) × (i < length xs)
at_position p xs i =
    elim (ltb (position_or_len p xs) (length xs)) as (λ b. ltb (position_or_len p xs) (length xs) ≡ b → cond b (Some (position_or_len p xs)) None ≡ Some i → (position_or_len p xs ≡ i) × (i < length xs)) [
      | true ↦ λ below is. (same_Some _ _ is, subst (λ n. n < length xs) (same_Some _ _ is) (ltb-true _ _ below))
      | false ↦ λ _ is. absurd (none-some _ is)
    ] refl

-- where none passes the search goes to the end
past_position : {X : Type 0} (p : X → Bool) (xs : List X) → position p xs ≡ None → length xs ≤ position_or_len p xs
past_position p xs =
    elim (ltb (position_or_len p xs) (length xs)) as (λ b. ltb (position_or_len p xs) (length xs) ≡ b → cond b (Some (position_or_len p xs)) None ≡ None → length xs ≤ position_or_len p xs) [
      | true ↦ λ _ is. absurd (none-some _ (sym is))
      | false ↦ λ past _. let least = ltb-false _ _ past in omega (arith, least)
    ] refl

-- ---- the first place in a list that is changed

-- a write of an element that is tested alike
position_from-set : {X : Type 0} (p : X → Bool) (from i : ℕ) (xs : List X) (y d : X) → p y ≡ p (get_or xs i d) → position_from p from (set xs i y) ≡ position_from p from xs
position_from-set p from i [] y d same = refl
position_from-set p from zero (x ∷ xs) y d same = ap (λ b. cond b (Some from) (position_from p (from + 1) xs)) same
position_from-set p from (suc i) (x ∷ xs) y d same = ap (cond (p x) (Some from)) (position_from-set p (from + 1) i xs y d same)

position-set : {X : Type 0} (p : X → Bool) (i : ℕ) (xs : List X) (y d : X) → p y ≡ p (get_or xs i d) → position p (set xs i y) ≡ position p xs
position-set p i xs y d same = position_from-zero p (set xs i y) ∙ position_from-set p 0 i xs y d same ∙ sym (position_from-zero p xs)

-- one more element, which fails
position_from-push_other : {X : Type 0} (p : X → Bool) (from : ℕ) (xs : List X) (y : X) → p y ≡ false → position_from p from (xs ++ y ∷ []) ≡ position_from p from xs
position_from-push_other p from [] y fails = ap (λ b. cond b (Some from) None) fails
position_from-push_other p from (x ∷ xs) y fails = ap (cond (p x) (Some from)) (position_from-push_other p (from + 1) xs y fails)

position-push_other : {X : Type 0} (p : X → Bool) (xs : List X) (y : X) → p y ≡ false → position p (xs ++ y ∷ []) ≡ position p xs
position-push_other p xs y fails = position_from-zero p (xs ++ y ∷ []) ∙ position_from-push_other p 0 xs y fails ∙ sym (position_from-zero p xs)

-- one more element, the first that passes
position_from-push : {X : Type 0} (p : X → Bool) (from : ℕ) (xs : List X) (y : X) → position_from p from xs ≡ None → p y ≡ true → position_from p from (xs ++ y ∷ []) ≡ Some (from + length xs)
position_from-push p from [] y none passes = ap (λ b. cond b (Some from) None) passes ∙ ap Some (omega arith)
position_from-push p from (x ∷ xs) y none passes =
    elim (p x) as (λ b. cond b (Some from) (position_from p (from + 1) xs) ≡ None → cond b (Some from) (position_from p (from + 1) (xs ++ y ∷ [])) ≡ Some (from + length (x ∷ xs))) [
      | true ↦ λ is. absurd (none-some _ (sym is))
      | false ↦ λ is. position_from-push p (from + 1) xs y is passes ∙ ap Some (omega arith)
    ] none

position-push : {X : Type 0} (p : X → Bool) (xs : List X) (y : X) → position p xs ≡ None → p y ≡ true → position p (xs ++ y ∷ []) ≡ Some (length xs)
position-push p xs y none passes =
    position_from-zero p (xs ++ y ∷ []) ∙ position_from-push p 0 xs y (sym (position_from-zero p xs) ∙ none) passes ∙ ap Some (omega arith)

-- a write of one that fails, over one that fails
find-set_other : {X : Type 0} (p : X → Bool) (i : ℕ) (xs : List X) (y d : X) → p y ≡ false → p (get_or xs i d) ≡ false → find p (set xs i y) ≡ find p xs
find-set_other p i [] y d fails other = refl
find-set_other p zero (x ∷ xs) y d fails other = ap (λ b. cond b (Some y) (find p xs)) fails ∙ sym (ap (λ b. cond b (Some x) (find p xs)) other)
find-set_other p (suc i) (x ∷ xs) y d fails other = ap (cond (p x) (Some x)) (find-set_other p i xs y d fails other)

-- ---- what the map of the options has

find-by_number : (kept : List DhcpV4Option) (q : ℕ) → map.find nat_cmp q (by_number kept) ≡ find (has_number q) kept
find-by_number [] q = refl
find-by_number (option ∷ kept) q =
    ap (λ b. cond b (Some option) (map.find nat_cmp q (by_number kept))) (unsigned_tied q (option_number option))
    ∙ ap (cond (q == option_number option) (Some option)) (find-by_number kept q)

-- the first option of that number
pub get-map_of : (kept : List DhcpV4Option) (q : ℕ) → map.get (map_of kept) q ≡ find (has_number q) kept
get-map_of kept q = map.get-from_entries nat_cmp_total (by_number kept) q ∙ find-by_number kept q

-- that at its place,
pub get_placed : (kept : List DhcpV4Option) (q i : ℕ) (d : DhcpV4Option) → position (has_number q) kept ≡ Some i → map.get (map_of kept) q ≡ Some (get_or kept i d)
get_placed kept q i d is =
    let at = at_position (has_number q) kept i is in
    get-map_of kept q ∙ find_at (has_number q) kept ∙ ap (slice_get kept) at.0 ∙ slice_get-get_or kept i d at.1

-- or none.
pub get_missing : (kept : List DhcpV4Option) (q : ℕ) → position (has_number q) kept ≡ None → map.get (map_of kept) q ≡ None
get_missing kept q is =
    get-map_of kept q ∙ find_at (has_number q) kept ∙ slice_get_past kept _ (past_position (has_number q) kept is)

-- the option at the place of a number has it
pub number_placed : (kept : List DhcpV4Option) (q i : ℕ) (d : DhcpV4Option) → position (has_number q) kept ≡ Some i → option_number (get_or kept i d) ≡ q
number_placed kept q i d is = sym (eqb-true _ _ (position-Some (has_number q) kept i d is).1)

-- the map with one option in place of another of its number
pub map_of-set : (kept : List DhcpV4Option) (i : ℕ) (option : DhcpV4Option) → position (has_number (option_number option)) kept ≡ Some i → map_of (set kept i option) ≡ map.insert (map_of kept) (option_number option) option
map_of-set kept i option is =
    let n : ℕ = option_number option in
    map.same_map nat_cmp_total nat_cmp-IsAntisymmetric _ _ (λ q. get-map_of (set kept i option) q
    ∙ elim (q == n) as (λ b. (q == n) ≡ b → find (has_number q) (set kept i option) ≡ cond b (Some option) (map.get (map_of kept) q)) [
      | true ↦ λ same.
          let at = at_position (has_number n) kept i is in
          let here : q ≡ n = eqb-true _ _ same in
          find-set (has_number q) kept i option (rw here (sym at.0)) at.1 same
      | false ↦ λ other.
          find-set_other (has_number q) i kept option option other (ap (λ number. q == number) (number_placed kept n i option is) ∙ other)
          ∙ sym (get-map_of kept q)
    ] refl
    ∙ sym (ap (λ b. cond b (Some option) (map.get (map_of kept) q)) (unsigned_tied q n))
    ∙ sym (map.get-insert nat_cmp_total (map_of kept) n option q))

by_number-push : (kept : List DhcpV4Option) (option : DhcpV4Option) → by_number (kept ++ option ∷ []) ≡ by_number kept ++ (option_number option, option) ∷ []
by_number-push [] option = refl
by_number-push (first ∷ kept) option = ap (λ later. (option_number first, first) ∷ later) (by_number-push kept option)

-- the map with one more option
pub map_of-push : (kept : List DhcpV4Option) (option : DhcpV4Option) → position (has_number (option_number option)) kept ≡ None → map_of (kept ++ option ∷ []) ≡ map.insert (map_of kept) (option_number option) option
map_of-push kept option none =
    let n : ℕ = option_number option in
    ap map.from_entries (by_number-push kept option)
    ∙ map.from_entries_push nat_cmp_total nat_cmp-IsAntisymmetric (by_number kept) n option
    (find-by_number kept n ∙ sym (get-map_of kept n) ∙ get_missing kept n none)

-- ---- the table

-- no options
pub IsIndexed-nil : IsIndexed [] (replicate 256 None)
IsIndexed-nil = record {
  sized = length-replicate {0} {A = Option ℕ} 256 None;
  fit = λ k d below. absurd (omega arith);
  placed = λ number below. get_or-replicate 256 number None None below;
  counted = refl;
}

-- an option in place of another of its number
pub IsIndexed-set : (kept : List DhcpV4Option) (places : List (Option ℕ)) (i : ℕ) (option : DhcpV4Option) → IsIndexed kept places → CanBeKept option → position (has_number (option_number option)) kept ≡ Some i → IsIndexed (set kept i option) places
IsIndexed-set kept places i option indexed can is = record {
  sized = indexed.sized;
  fit = All-set CanBeKept kept i option can indexed.fit;
  placed = λ q below. indexed.placed q below
      ∙ sym (position-set (has_number q) i kept option option (ap (λ number. q == number) (sym (number_placed kept (option_number option) i option is))));
  counted = indexed.counted ∙ sym (length-set kept i option);
}

-- how many places are taken once one more is
counted_more : (places : List (Option ℕ)) (n i : ℕ) → n < length places → get_or places n None ≡ None → count_by is_some (set places n (Some i)) ≡ count_by is_some places + 1
counted_more places n i below free =
    let taken : Option ℕ → ℕ = λ place. cond (is_some place) 1 0 in
    let change = sum_by-set taken places n (Some i) None below in
    let none : taken (get_or places n None) ≡ 0 = ap taken free in
    omega (arith, change, none)

-- where a number has no place yet there are fewer options than numbers
pub fewer : (kept : List DhcpV4Option) (places : List (Option ℕ)) (n : ℕ) → IsIndexed kept places → n < 256 → get_or places n None ≡ None → length kept < 256
fewer kept places n indexed below free =
    let more = counted_more places n 0 (omega (arith, indexed.sized)) free in
    let least = count_by-le-length is_some (set places n (Some 0)) in
    omega (arith, more, least, indexed.counted, indexed.sized, length-set places n (Some 0))

-- one more option
pub IsIndexed-push : (kept : List DhcpV4Option) (places : List (Option ℕ)) (option : DhcpV4Option) → IsIndexed kept places → CanBeKept option → get_or places (option_number option) None ≡ None → IsIndexed (kept ++ option ∷ []) (set places (option_number option) (Some (length kept)))
IsIndexed-push kept places option indexed can free =
    let n : ℕ = option_number option in
    let below : n < length places = omega (arith, can.is_byte, indexed.sized) in
    let none : position (has_number n) kept ≡ None = sym (indexed.placed n can.is_byte) ∙ free in
    record {
      sized = length-set places n (Some (length kept)) ∙ indexed.sized;
      fit = All-append CanBeKept kept (option ∷ []) indexed.fit (alone option can);
      placed = λ q small. elim (q == n) as (λ b. (q == n) ≡ b → get_or (set places n (Some (length kept))) q None ≡ position (has_number q) (kept ++ option ∷ [])) [
        | true ↦ λ same.
            let here : q ≡ n = eqb-true _ _ same in
            rw here (get_or-set_same places n (Some (length kept)) None below ∙ sym (position-push (has_number n) kept option none (eq-eqb n n refl)))
        | false ↦ λ other.
            get_or-set_other places n q (Some (length kept)) None (λ here. false≢true (sym other ∙ eq-eqb q n here)) ∙ indexed.placed q small
            ∙ sym (position-push_other (has_number q) kept option other)
      ] refl;
      counted = let more = counted_more places n (length kept) below free in omega (arith, more, indexed.counted, length-append kept (option ∷ []));
    }
  where
    alone : (option : DhcpV4Option) → CanBeKept option → All CanBeKept (option ∷ [])
    alone option can zero d below = can
    alone option can (suc k) d below = absurd (omega arith)

-- what the table has for a number is the place of its option
pub place_is : (kept : List DhcpV4Option) (places : List (Option ℕ)) (q at : ℕ) (found : Option ℕ) → IsIndexed kept places → q < 256 → at ≡ q → get_or places at None ≡ found → position (has_number q) kept ≡ found
place_is kept places q at found indexed below same is = sym (indexed.placed q below) ∙ ap (λ i. get_or places i None) (sym same) ∙ is

-- ---- the options by rising number

-- a number under which an option is kept is a byte
kept_below : (kept : List DhcpV4Option) (places : List (Option ℕ)) (q : ℕ) (option : DhcpV4Option) → IsIndexed kept places → map.get (map_of kept) q ≡ Some option → q < 256
kept_below kept places q option indexed is =
    let p : DhcpV4Option → Bool = has_number q in
    let inside = slice_get_within kept (position_or_len p kept) option (sym (find_at p kept) ∙ sym (get-map_of kept q) ∙ is) in
    subst (λ n. n < 256) (sym (eqb-true _ _ (passes_at_first p kept option inside))) (indexed.fit (position_or_len p kept) option inside).is_byte

-- the entries of the map rise, and their numbers are bytes
pub entries_rise : (kept : List DhcpV4Option) (places : List (Option ℕ)) → IsIndexed kept places → Rising 0 256 (map.entries (map_of kept))
entries_rise kept places indexed =
    Rising-is_sorted 0 256 (map.entries (map_of kept)) (is_passed _ (map.entries_sorted (map_of kept))) (λ q option is.
    (omega arith, kept_below kept places q option indexed (map.get-entries (map_of kept) q ∙ is)))

-- what is at the first place that passes is what a search finds
kept_in-position : (kept : List DhcpV4Option) (p : DhcpV4Option → Bool) → kept_in kept (position p kept) ≡ find p kept
kept_in-position kept p =
    elim (ltb (position_or_len p kept) (length kept)) as (λ b. ltb (position_or_len p kept) (length kept) ≡ b → kept_in kept (cond b (Some (position_or_len p kept)) None) ≡ slice_get kept (position_or_len p kept)) [
      | true ↦ λ _. refl
      | false ↦ λ past. sym (slice_get_past kept _ (ltb-false _ _ past))
    ] refl
    ∙ sym (find_at p kept)

-- the options at the places of the table, number by number, are those of the map
pub values_kept : (kept : List DhcpV4Option) (places : List (Option ℕ)) → IsIndexed kept places → filter_map (kept_in kept) places ≡ map.values (map_of kept)
values_kept kept places indexed =
    values_of-rising (kept_in kept) places 0 (map.entries (map_of kept))
    (subst (λ n. Rising 0 n (map.entries (map_of kept))) (let ends : 256 ≡ 0 + length places = omega (arith, indexed.sized) in ends) (entries_rise kept places indexed))
    (λ i d inside.
    let number : 0 + i ≡ i = omega arith in
    ap (kept_in kept) (get_or_default places i d None inside ∙ indexed.placed i (omega (arith, indexed.sized)))
    ∙ kept_in-position kept (has_number i) ∙ sym (get-map_of kept i) ∙ map.get-entries (map_of kept) i
    ∙ ap (λ q. map.find nat_cmp q (map.entries (map_of kept))) (sym number))

-- ---- a walk over the table

-- the options at the places so far, then the one at the next place, if it has one, then the others
kept_so_far : (kept : List DhcpV4Option) (places : List (Option ℕ)) (i : ℕ) → i < length places → filter_map (kept_in kept) places ≡ filter_map (kept_in kept) (take i places) ++ cons_option (kept_in kept (get_or places i None)) (filter_map (kept_in kept) (drop (suc i) places))
kept_so_far kept places i inside =
    ap (filter_map (kept_in kept)) (sym (take-append-drop i places))
    ∙ filter_map-append (kept_in kept) (take i places) (drop i places)
    ∙ ap (λ later. filter_map (kept_in kept) (take i places) ++ filter_map (kept_in kept) later) (drop-cons places i None inside)

-- the option at a place that is taken
kept_in-taken : (kept : List DhcpV4Option) (i : ℕ) (place : Option ℕ) (option : DhcpV4Option) → place ≡ Some i → i < length kept → option ≡ get_or kept i option → kept_in kept place ≡ Some option
kept_in-taken kept i place option is inside here = ap (kept_in kept) is ∙ slice_get-get_or kept i option inside ∙ ap Some (sym here)

-- so the options are those so far, this one and the others
pub kept_split : (kept : List DhcpV4Option) (places : List (Option ℕ)) (i at : ℕ) (option : DhcpV4Option) → i < length places → get_or places i None ≡ Some at → at < length kept → option ≡ get_or kept at option → filter_map (kept_in kept) places ≡ filter_map (kept_in kept) (take i places) ++ option ∷ filter_map (kept_in kept) (drop (suc i) places)
kept_split kept places i at option inside is within here =
    kept_so_far kept places i inside
    ∙ ap (λ found. filter_map (kept_in kept) (take i places) ++ cons_option found (filter_map (kept_in kept) (drop (suc i) places))) (kept_in-taken kept at (get_or places i None) option is within here)

-- and one step further are those so far and this one,
pub kept_more : (kept : List DhcpV4Option) (places : List (Option ℕ)) (i at : ℕ) (option : DhcpV4Option) → i < length places → get_or places i None ≡ Some at → at < length kept → option ≡ get_or kept at option → filter_map (kept_in kept) (take (i + 1) places) ≡ filter_map (kept_in kept) (take i places) ++ option ∷ []
kept_more kept places i at option inside is within here =
    ap (filter_map (kept_in kept)) (take_more places i None inside) ∙ filter_map-append (kept_in kept) (take i places) (get_or places i None ∷ [])
    ∙ ap (λ found. filter_map (kept_in kept) (take i places) ++ cons_option found []) (kept_in-taken kept at (get_or places i None) option is within here)

-- or those so far alone.
pub kept_same : (kept : List DhcpV4Option) (places : List (Option ℕ)) (i : ℕ) → i < length places → get_or places i None ≡ None → filter_map (kept_in kept) (take (i + 1) places) ≡ filter_map (kept_in kept) (take i places)
kept_same kept places i inside none =
    ap (filter_map (kept_in kept)) (take_more places i None inside) ∙ filter_map-append (kept_in kept) (take i places) (get_or places i None ∷ [])
    ∙ ap (λ place. filter_map (kept_in kept) (take i places) ++ cons_option (kept_in kept place) []) none ∙ append-nil _

-- a place of the table is within the list
pub place_inside : (kept : List DhcpV4Option) (places : List (Option ℕ)) (q at : ℕ) → IsIndexed kept places → q < 256 → get_or places q None ≡ Some at → at < length kept
place_inside kept places q at indexed below is = (at_position (has_number q) kept at (sym (indexed.placed q below) ∙ is)).1

-- where no place is taken there are no options,
none_kept : (kept : List DhcpV4Option) (places : List (Option ℕ)) → count_by is_some places ≡ 0 → filter_map (kept_in kept) places ≡ []
none_kept kept [] none = refl
none_kept kept (None ∷ places) none = none_kept kept places none
none_kept kept (Some i ∷ places) none =
    let weight : Option ℕ → ℕ = λ place. cond (is_some place) 1 0 in
    let parts : count_by is_some (Some i ∷ places) ≡ 1 + count_by is_some places = sum_by-append weight (Some i ∷ []) places in
    absurd (omega (arith, parts, none))

-- and where so many were taken as there are options, those so far are all.
pub all_kept : (kept : List DhcpV4Option) (places : List (Option ℕ)) (i : ℕ) → IsIndexed kept places → count_by is_some (take i places) ≡ length kept → filter_map (kept_in kept) (take i places) ≡ filter_map (kept_in kept) places
all_kept kept places i indexed taken =
    let weight : Option ℕ → ℕ = λ place. cond (is_some place) 1 0 in
    let parts : count_by is_some (take i places ++ drop i places) ≡ count_by is_some (take i places) + count_by is_some (drop i places) = sum_by-append weight (take i places) (drop i places) in
    let whole : count_by is_some (take i places ++ drop i places) ≡ count_by is_some places = ap (count_by is_some) (take-append-drop i places) in
    let rest : count_by is_some (drop i places) ≡ 0 = omega (arith, parts, whole, taken, indexed.counted) in
    sym (ap (filter_map (kept_in kept)) (sym (take-append-drop i places))
    ∙ filter_map-append (kept_in kept) (take i places) (drop i places)
    ∙ ap (λ later. filter_map (kept_in kept) (take i places) ++ later) (none_kept kept (drop i places) rest)
    ∙ append-nil (filter_map (kept_in kept) (take i places)))

-- an option that is found is kept
pub some_kept : (kept : List DhcpV4Option) (q : ℕ) (option : DhcpV4Option) → map.get (map_of kept) q ≡ Some option → 1 ≤ length kept
some_kept [] q option is = absurd (none-some _ (sym (get-map_of [] q) ∙ is))
some_kept (first ∷ kept) q option is = omega arith

-- Where all others were taken, End, the last of all numbers, is the only one left.
pub end_left : (kept : List DhcpV4Option) (places : List (Option ℕ)) (i : ℕ) (option : DhcpV4Option) → IsIndexed kept places → i < 256 → count_by is_some (take i places) + 1 ≡ length kept → map.get (map_of kept) 255 ≡ Some option → filter_map (kept_in kept) places ≡ filter_map (kept_in kept) (take i places) ++ option ∷ []
end_left kept places i option indexed inside taken is =
    let below : 255 < length places = omega (arith, indexed.sized) in
    let found : kept_in kept (get_or places 255 None) ≡ Some option =
    ap (kept_in kept) (indexed.placed 255 (omega arith)) ∙ kept_in-position kept (has_number 255) ∙ sym (get-map_of kept 255) ∙ is in
    let before : List (Option ℕ) = take 255 places in
    let first : take i before ≡ take i places = take-take i 255 places (omega arith) in
    let one = count_by_more_yes is_some places 255 None below (taken_at kept _ option found) in
    let all : count_by is_some (take (255 + 1) places) ≡ length kept = ap (count_by is_some) (take_all (255 + 1) places (omega (arith, indexed.sized))) ∙ indexed.counted in
    let parts : count_by is_some (take i before ++ drop i before) ≡ count_by is_some (take i before) + count_by is_some (drop i before) = sum_by-append (λ place. cond (is_some place) 1 0) (take i before) (drop i before) in
    let whole : count_by is_some (take i before ++ drop i before) ≡ count_by is_some before = ap (count_by is_some) (take-append-drop i before) in
    let so_far : count_by is_some (take i before) ≡ count_by is_some (take i places) = ap (count_by is_some) first in
    let rest : count_by is_some (drop i before) ≡ 0 = omega (arith, one, all, parts, whole, so_far, taken) in
    let others : filter_map (kept_in kept) before ≡ filter_map (kept_in kept) (take i places) =
    ap (filter_map (kept_in kept)) (sym (take-append-drop i before))
    ∙ filter_map-append (kept_in kept) (take i before) (drop i before)
    ∙ ap (λ later. filter_map (kept_in kept) (take i before) ++ later) (none_kept kept (drop i before) rest)
    ∙ append-nil _ ∙ ap (filter_map (kept_in kept)) first in
    let last : filter_map (kept_in kept) (drop (suc 255) places) ≡ [] = ap (filter_map (kept_in kept)) (drop_all (suc 255) places (omega (arith, indexed.sized))) in
    kept_so_far kept places 255 below
    ∙ ap (λ front. front ++ cons_option (kept_in kept (get_or places 255 None)) (filter_map (kept_in kept) (drop (suc 255) places))) others
    ∙ ap (λ found. filter_map (kept_in kept) (take i places) ++ cons_option found (filter_map (kept_in kept) (drop (suc 255) places))) found
    ∙ ap (λ later. filter_map (kept_in kept) (take i places) ++ option ∷ later) last
  where
    taken_at : (kept : List DhcpV4Option) (place : Option ℕ) (option : DhcpV4Option) → kept_in kept place ≡ Some option → is_some place ≡ true
    taken_at kept None option is = absurd (none-some _ is)
    taken_at kept (Some i) option is = refl

-- ---- equality

-- whether two maps have equal options under a number, or none
abbrev pub agree_at : OptionMap → OptionMap → ℕ → Bool
agree_at one other q = option_eq ghosts.eq (map.get one q) (map.get other q)

-- whether the entries of two maps are equal
abbrev pub agree : OptionMap → OptionMap → Bool
agree one other = pairs_eq ghosts.eq (map.entries one) (map.entries other)

-- maps that are equal are equal at each number
pub agree-at : (one other : OptionMap) (q : ℕ) → agree_at one other q ≡ false → false ≡ agree one other
agree-at one other q differ =
    elim (agree one other) as (λ b. agree one other ≡ b → false ≡ b) [
      | true ↦ λ is.
          let same = equal_at ghosts.eq (map.entries one) (map.entries other) q is in
          absurd (false≢true (sym differ ∙ rw (map.get-entries one q, map.get-entries other q) same))
      | false ↦ λ _. refl
    ] refl

-- maps that are equal at each byte are equal
pub agree_everywhere : (kept others : List DhcpV4Option) (places theirs : List (Option ℕ)) → IsIndexed kept places → IsIndexed others theirs → ((q : ℕ) → q < 256 → agree_at (map_of kept) (map_of others) q ≡ true) → true ≡ agree (map_of kept) (map_of others)
agree_everywhere kept others places theirs indexed other at =
    sym (equal_in_pairs ghosts.eq 0 256 (map.entries (map_of kept)) (map.entries (map_of others)) (entries_rise kept places indexed) (entries_rise others theirs other)
    (λ q. rw (← map.get-entries (map_of kept) q, ← map.get-entries (map_of others) q) (elim (ltb q 256) as (λ b. ltb q 256 ≡ b → agree_at (map_of kept) (map_of others) q ≡ true) [
      | true ↦ λ below. at q (ltb-true _ _ below)
      | false ↦ λ past.
          let most = ltb-false _ _ past in
          rw (none_past kept places q indexed most, none_past others theirs q other most) refl
    ] refl)))
  where
    none_past : (kept : List DhcpV4Option) (places : List (Option ℕ)) (q : ℕ) → IsIndexed kept places → 256 ≤ q → map.get (map_of kept) q ≡ None
    none_past kept places q indexed most =
        elim (map.get (map_of kept) q) as (λ found. map.get (map_of kept) q ≡ found → found ≡ None) [
          | None ↦ λ _. refl
          | Some option ↦ λ is. let below = kept_below kept places q option indexed is in absurd (omega (arith, below))
        ] refl

-- ---- what all options that are kept have

-- each is kept under its number, which is a byte, and fits
pub AllStand-kept : (kept : List DhcpV4Option) (places : List (Option ℕ)) → IsIndexed kept places → All HasWidths kept → AllStand (map_of kept)
AllStand-kept kept places indexed widths q option is =
    let p : DhcpV4Option → Bool = has_number q in
    let i : ℕ = position_or_len p kept in
    let here : slice_get kept i ≡ Some option = sym (find_at p kept) ∙ sym (get-map_of kept q) ∙ is in
    let inside = slice_get_within kept i option here in
    let same : get_or kept i option ≡ option = get_or_from_slice_get kept i option option here in
    let can = indexed.fit i option inside in
    record {
      is_byte = kept_below kept places q option indexed is;
      is_own = sym (eqb-true _ _ (passes_at_first p kept option inside) ∙ ap option_number same);
      fit = subst (λ option. IsTrue (fits option)) same can.fit;
      widths = subst HasWidths same (widths i option inside);
    }
