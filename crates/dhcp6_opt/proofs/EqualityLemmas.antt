-- Options in code order are equal, one by one, if and only if the same codes have the same options.
use Rattle.std.proofs.Common.{◌≡◌, ◌≢◌, ◌==◌, ◌&&◌, ℕ, ◌<◌, Bool, true, false, cond, not, List, [], ◌∷◌, ◌++◌, IsTrue, length, refl, sym, ap, subst, ◌∙◌, arith}
use Rattle.std.specs.Cmp.Lexicographic.{pointwise}
use Rattle.std.specs.FinMap as map
use Rattle.std.specs.FinMap.Entries.{below_all}
use Rattle.std.specs.List.{AllByRecursion, filter, flat_map}
use Rattle.std.specs.Ordering.{nat_cmp}
use Rattle.std.proofs.lemmas.Bool.{and_parts, eqb-false, eqb-true, false≢true}
use Rattle.std.proofs.lemmas.List.Folds.{flat_map-map}
use Rattle.dhcp_wire.proofs.Entries.{is_passed}
use Rattle.dhcp6_opt.specs.declared.option.DhcpV6Option.{DhcpV6Option}
use Rattle.dhcp6_opt.specs.declared.option.DhcpV6Option.TheVariants.{RapidCommit}
use Rattle.dhcp6_opt.specs.declared.options.index.IndexEntry.{IndexEntry}
use Rattle.dhcp6_opt.specs.OptionIndex.{AreGroups, has_number, IsGroup, IsIndexed, same_entry}
use Rattle.dhcp6_opt.specs.Options.{lists_of, OptionLists}
use Rattle.dhcp6_opt.specs.Value.{option_number}
use Rattle.dhcp6_opt.proofs.ListLaws.{apart, each_entry, some_indexed}
use Rattle.dhcp6_opt.proofs.OptionListLemmas.{entries-lists_of}

-- options that have this number
abbrev OfNumber : ℕ → List DhcpV6Option → Type 0
OfNumber number options = AllByRecursion (λ option. option_number option ≡ number) options

-- the first option, if there is one, has another number
abbrev StartsPast : ℕ → List DhcpV6Option → Type 0
StartsPast number [] = Unit {0}
StartsPast number (option ∷ options) = option_number option ≢ number

-- the options of entries, one after the other
abbrev in_order : List (ℕ × List DhcpV6Option) → List DhcpV6Option
in_order es = flat_map (λ entry. entry.1) es

and_assoc : (a b c : Bool) → (a && (b && c)) ≡ ((a && b) && c)
and_assoc true b c = refl
and_assoc false b c = refl

-- what follows the options of a number that is below has another
starts_past : (number : ℕ) (es : List (ℕ × List DhcpV6Option)) → IsTrue (below_all nat_cmp number es) → AreGroups es → StartsPast number (in_order es)
starts_past number [] below groups = tt
starts_past number (e ∷ es) below groups = first e.1 (in_order es) groups.0.some groups.0.own
  where
    less : number < e.0
    less = apart number e.0 (and_parts _ _ below).0

    first : (options later : List DhcpV6Option) → options ≢ [] → OfNumber e.0 options → StartsPast number (options ++ later)
    first [] later some own = absurd (some refl)
    first (option ∷ options) later some own = λ is. omega (arith, is, own.0, less)

module _ (same : DhcpV6Option → DhcpV6Option → Bool) (numbered : (x y : DhcpV6Option) → same x y ≡ true → option_number x ≡ option_number y) where
  -- options of different numbers are not equal
  differ : (x y : DhcpV6Option) → option_number x ≢ option_number y → same x y ≡ false
  differ x y other =
      elim (same x y) as (λ b. same x y ≡ b → b ≡ false) [
        | true ↦ λ is. absurd (other (numbered x y is))
        | false ↦ λ _. refl
      ] refl

  -- options of one number, and then others
  one_group : (number : ℕ) (xs ys more others : List DhcpV6Option) → OfNumber number xs → OfNumber number ys → StartsPast number more → StartsPast number others → pointwise same (xs ++ more) (ys ++ others) ≡ (pointwise same xs ys && pointwise same more others)
  one_group number [] [] more others own their past beyond = refl
  one_group number [] (y ∷ ys) [] others own their past beyond = refl
  one_group number [] (y ∷ ys) (x ∷ more) others own their past beyond =
      ap (λ equal. equal && pointwise same more (ys ++ others)) (differ x y (λ is. past (is ∙ their.0)))
  one_group number (x ∷ xs) [] more [] own their past beyond = refl
  one_group number (x ∷ xs) [] more (y ∷ others) own their past beyond =
      ap (λ equal. equal && pointwise same (xs ++ more) others) (differ x y (λ is. beyond (sym is ∙ own.0)))
  one_group number (x ∷ xs) (y ∷ ys) more others own their past beyond =
      ap (λ later. same x y && later) (one_group number xs ys more others own.1 their.1 past beyond)
      ∙ and_assoc (same x y) (pointwise same xs ys) (pointwise same more others)

  -- options of two numbers
  two_groups : (number other : ℕ) (xs ys more others : List DhcpV6Option) → IsGroup number xs → IsGroup other ys → number ≢ other → pointwise same (xs ++ more) (ys ++ others) ≡ false
  two_groups number other [] ys more others mine theirs differs = absurd (mine.some refl)
  two_groups number other (x ∷ xs) [] more others mine theirs differs = absurd (theirs.some refl)
  two_groups number other (x ∷ xs) (y ∷ ys) more others mine theirs differs =
      ap (λ equal. equal && pointwise same (xs ++ more) (ys ++ others)) (differ x y (λ is. differs (sym mine.own.0 ∙ is ∙ theirs.own.0)))

  -- options against none
  none_first : (number : ℕ) (ys others : List DhcpV6Option) → IsGroup number ys → pointwise same [] (ys ++ others) ≡ false
  none_first number [] others theirs = absurd (theirs.some refl)
  none_first number (y ∷ ys) others theirs = refl

  none_second : (number : ℕ) (xs more : List DhcpV6Option) → IsGroup number xs → pointwise same (xs ++ more) [] ≡ false
  none_second number [] more mine = absurd (mine.some refl)
  none_second number (x ∷ xs) more mine = refl

  -- entries are equal if and only if their options are, one after the other
  by_entries : (es fs : List (ℕ × List DhcpV6Option)) → IsTrue (map.is_sorted nat_cmp es) → IsTrue (map.is_sorted nat_cmp fs) → AreGroups es → AreGroups fs → pointwise same (in_order es) (in_order fs) ≡ pointwise (same_entry same) es fs
  by_entries [] [] rise climb groups others = refl
  by_entries [] (f ∷ fs) rise climb groups others = none_first f.0 f.1 (in_order fs) others.0
  by_entries (e ∷ es) [] rise climb groups others = none_second e.0 e.1 (in_order es) groups.0
  by_entries (e ∷ es) (f ∷ fs) rise climb groups others =
      elim (e.0 == f.0) as (λ b. (e.0 == f.0) ≡ b → pointwise same (in_order (e ∷ es)) (in_order (f ∷ fs)) ≡ ((b && pointwise same e.1 f.1) && pointwise (same_entry same) es fs)) [
        | true ↦ λ is.
            let number : f.0 ≡ e.0 = sym (eqb-true e.0 f.0 is) in
            let later = and_parts _ _ rise in
            let beyond = and_parts _ _ climb in
            one_group e.0 e.1 f.1 (in_order es) (in_order fs) groups.0.own (subst (λ n. OfNumber n f.1) number others.0.own) (starts_past e.0 es later.0 groups.1) (subst (λ n. StartsPast n (in_order fs)) number (starts_past f.0 fs beyond.0 others.1))
            ∙ ap (λ rest. pointwise same e.1 f.1 && rest) (by_entries es fs later.1 beyond.1 groups.1 others.1)
        | false ↦ λ is. two_groups e.0 f.0 e.1 f.1 (in_order es) (in_order fs) groups.0 others.0 (eqb-false e.0 f.0 is)
      ] refl

-- the options that have a number
own_number : (number : ℕ) (kept : List DhcpV6Option) → OfNumber number (filter (has_number number) kept)
own_number number [] = tt
own_number number (option ∷ kept) =
    elim (number == option_number option) as (λ b. (number == option_number option) ≡ b → OfNumber number (cond b (option ∷ filter (has_number number) kept) (filter (has_number number) kept))) [
      | true ↦ λ is. (sym (eqb-true number (option_number option) is), own_number number kept)
      | false ↦ λ _. own_number number kept
    ] refl

-- the options of each number of a list that is kept
pub groups_of : (kept : List DhcpV6Option) (es : List IndexEntry) → IsIndexed kept es → AreGroups (map.entries (lists_of kept))
groups_of kept es indexed =
    subst AreGroups (sym (entries-lists_of kept es RapidCommit indexed))
    (each_entry IsGroup kept es (λ number is. record { some = some_indexed kept es indexed number is; own = own_number number kept }))

-- the options of two lists, in code order
pub by_code_order : (same : DhcpV6Option → DhcpV6Option → Bool) → ((x y : DhcpV6Option) → same x y ≡ true → option_number x ≡ option_number y) → (mine theirs : OptionLists) → AreGroups (map.entries mine) → AreGroups (map.entries theirs) → pointwise same (flat_map (λ options. options) (map.values mine)) (flat_map (λ options. options) (map.values theirs)) ≡ pointwise (same_entry same) (map.entries mine) (map.entries theirs)
by_code_order same numbered mine theirs groups others =
    ap (λ options. pointwise same options (flat_map (λ options. options) (map.values theirs))) (flat_map-map (λ options. options) (λ entry. entry.1) (map.entries mine))
    ∙ ap (pointwise same (in_order (map.entries mine))) (flat_map-map (λ options. options) (λ entry. entry.1) (map.entries theirs))
    ∙ by_entries same numbered (map.entries mine) (map.entries theirs) (is_passed _ (map.entries_sorted mine)) (is_passed _ (map.entries_sorted theirs)) groups others

-- a list without elements
pub empty_list : {X : Type 0} (xs : List X) → length xs ≡ 0 → xs ≡ []
empty_list [] none = refl
empty_list (x ∷ xs) none = absurd (omega (arith, none))

-- elements that are equal leave the rest to decide
pub pointwise_step : {X : Type 0} (same : X → X → Bool) (mine theirs : List X) (x y : X) (xs ys : List X) → mine ≡ x ∷ xs → theirs ≡ y ∷ ys → same x y ≡ true → pointwise same mine theirs ≡ pointwise same xs ys
pointwise_step same mine theirs x y xs ys one other equal = rw (one, other, equal) refl

-- what is not unequal is equal
pub from_equal : (equal : Bool) → false ≡ not equal → equal ≡ true
from_equal true is = refl
from_equal false is = absurd (false≢true is)
