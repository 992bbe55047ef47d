-- A list that is sorted stably by a number is, number by number, the elements that have it.
use Rattle.std.proofs.Common.{◌≡◌, ◌==◌, ℕ, suc, ◌<◌, Bool, true, false, cond, List, [], ◌∷◌, ◌++◌, map, length, get_or, Some, is_some, refl, sym, ap, subst, ◌∙◌, arith, tests, Bor}
use Rattle.std.specs.FinMap as map
use Rattle.std.specs.List.{All, filter, flat_map}
use Rattle.std.specs.List.Sorted.{IsNonDecreasingBy, IsPermutation, IsStableByKey, ties}
use Rattle.std.specs.Ordering.{is_lt, nat_cmp}
use Rattle.std.proofs.lemmas.Bool.{eqb-true, eq-eqb, false≢true, ne_eqb}
use Rattle.std.proofs.lemmas.List.{get_or-map, length-map, map-append}
use Rattle.std.proofs.lemmas.List.Folds.{flat_map-map}
use Rattle.std.proofs.lemmas.List.Sorted.{All-permutation}
use Rattle.std.proofs.lemmas.Grind.{flat_map-append}
use Rattle.dhcp6_opt.specs.declared.option.DhcpV6Option.{DhcpV6Option}
use Rattle.dhcp6_opt.specs.declared.option.DhcpV6Option.TheVariants.{RapidCommit}
use Rattle.dhcp6_opt.specs.declared.options.index.IndexEntry.{IndexEntry}
use Rattle.dhcp6_opt.specs.OptionIndex.{AllAbove, entry_in, first_place, IsIndexed, numbered, Rises}
use Rattle.dhcp6_opt.specs.Options.{lists_of, OptionLists, written_options}
use Rattle.dhcp6_opt.specs.Value.{option_number, written_option}
use Rattle.dhcp6_opt.proofs.OptionListLemmas.{entries-lists_of, entry_of_each}

module _ {X : Type 0} (number : X → ℕ) where
  -- whether an element has this number
  abbrev pub of_number : ℕ → X → Bool
  of_number q x = q == number x

  -- the elements of the number of an entry
  abbrev pub group : List X → IndexEntry → List X
  group xs entry = filter (of_number entry.number) xs

  -- ---- groups of a sorted list

  -- none has a number that is below all
  none_of : (q : ℕ) (xs : List X) → All (λ x. q < number x) xs → filter (of_number q) xs ≡ []
  none_of q [] above = refl
  none_of q (x ∷ xs) above =
      ap (λ b. cond b (x ∷ filter (of_number q) xs) (filter (of_number q) xs)) (ne_eqb q (number x) (λ same. omega (arith, same, above 0 x (omega arith))))
      ∙ none_of q xs (λ k d inside. above (suc k) d (omega (arith, inside)))

  -- an element is in no group of a greater number
  groups_above : (x : X) (xs : List X) (es : List IndexEntry) → AllAbove (number x) es → flat_map (group (x ∷ xs)) es ≡ flat_map (group xs) es
  groups_above x xs [] above = refl
  groups_above x xs (e ∷ es) above =
      ap (λ b. cond b (x ∷ group xs e) (group xs e) ++ flat_map (group (x ∷ xs)) es) (ne_eqb e.number (number x) (λ same. omega (arith, same, above.0)))
      ∙ ap (λ later. group xs e ++ later) (groups_above x xs es above.1)

  -- an element before all is the first of the groups
  groups_first : (x : X) (xs : List X) (es : List IndexEntry) → Rises es → is_some (first_place (number x) es) ≡ true → IsNonDecreasingBy number (x ∷ xs) → flat_map (group (x ∷ xs)) es ≡ x ∷ flat_map (group xs) es
  groups_first x xs [] rises there up = absurd (false≢true there)
  groups_first x xs (e ∷ es) rises there up =
      elim (number x == e.number) as (λ b. (number x == e.number) ≡ b → is_some (cond b (Some e.first) (first_place (number x) es)) ≡ true → flat_map (group (x ∷ xs)) (e ∷ es) ≡ x ∷ flat_map (group xs) (e ∷ es)) [
        | true ↦ λ is _.
            let same : number x ≡ e.number = eqb-true _ _ is in
            ap (λ b. cond b (x ∷ group xs e) (group xs e) ++ flat_map (group (x ∷ xs)) es) (eq-eqb e.number (number x) (sym same))
            ∙ ap (λ later. x ∷ (group xs e ++ later)) (groups_above x xs es (subst (λ n. AllAbove n es) (sym same) rises.0))
        | false ↦ λ is there.
            let less : e.number < number x = below_there e.number (number x) es rises.0 there in
            let none : group (x ∷ xs) e ≡ [] = none_of e.number (x ∷ xs) (λ k d inside. omega (arith, less, up 0 k d (omega arith) inside)) in
            let rest : group xs e ≡ [] = none_of e.number xs (λ k d inside. omega (arith, less, up 0 (suc k) d (omega arith) (omega (arith, inside)))) in
            ap (λ front. front ++ flat_map (group (x ∷ xs)) es) none ∙ groups_first x xs es rises.1 there up
            ∙ sym (ap (λ front. x ∷ (front ++ flat_map (group xs) es)) rest)
      ] refl there
    where
      below_there : (low n : ℕ) (es : List IndexEntry) → AllAbove low es → is_some (first_place n es) ≡ true → low < n
      below_there low n [] above there = absurd (false≢true there)
      below_there low n (e ∷ es) above there =
          elim (n == e.number) as (λ b. (n == e.number) ≡ b → is_some (cond b (Some e.first) (first_place n es)) ≡ true → low < n) [
            | true ↦ λ is _. omega (arith, eqb-true n e.number is, above.0)
            | false ↦ λ _ there. below_there low n es above.1 there
          ] refl there

  -- the groups of nothing
  groups-nil : (es : List IndexEntry) → flat_map (group []) es ≡ []
  groups-nil [] = refl
  groups-nil (e ∷ es) = groups-nil es

  -- a sorted list of which each number has an entry is its groups
  pub sorted_groups : (xs : List X) (es : List IndexEntry) → Rises es → All (λ x. is_some (first_place (number x) es) ≡ true) xs → IsNonDecreasingBy number xs → xs ≡ flat_map (group xs) es
  sorted_groups [] es rises there up = sym (groups-nil es)
  sorted_groups (x ∷ xs) es rises there up =
      ap (λ later. x ∷ later) (sorted_groups xs es rises (λ k d inside. there (suc k) d (omega (arith, inside))) (λ i j d before inside. up (suc i) (suc j) d (omega (arith, before)) (omega (arith, inside))))
      ∙ sym (groups_first x xs es rises (there 0 x (omega arith)) up)

  -- ---- a stable sort keeps each group

  -- elements tie if and only if their numbers are equal
  tie_of : (x y : X) → ties (λ x y. is_lt (nat_cmp (number x) (number y))) x y ≡ (number x == number y)
  tie_of x y = grind (arith, tests)

  -- the first element of a group, if there is one, has its number
  first_of_group : (q : ℕ) (xs : List X) (x : X) (more : List X) → filter (of_number q) xs ≡ x ∷ more → q ≡ number x
  first_of_group q [] x more is = absurd (no_cons x more is)
    where
      no_cons : (x : X) (more : List X) → [] ≡ x ∷ more → ⊥
      no_cons x more is = absurd (omega (arith, ap length is))
  first_of_group q (y ∷ xs) x more is =
      elim (q == number y) as (λ b. (q == number y) ≡ b → cond b (y ∷ filter (of_number q) xs) (filter (of_number q) xs) ≡ x ∷ more → q ≡ number x) [
        | true ↦ λ same is. eqb-true q (number y) same ∙ ap (λ zs. number (get_or zs 0 y)) is
        | false ↦ λ _ is. first_of_group q xs x more is
      ] refl is

  stable_at : (x : X) (xs ys : List X) → IsStableByKey number nat_cmp xs ys → filter (of_number (number x)) ys ≡ filter (of_number (number x)) xs
  stable_at x xs ys stable =
      let same : ties (λ x y. is_lt (nat_cmp (number x) (number y))) x ≡ of_number (number x) = λ i y. tie_of x y i in
      ap (λ p. filter p ys) (sym same) ∙ stable x ∙ ap (λ p. filter p xs) same

  -- the elements of a number stand as they stood
  pub stable_group : (q : ℕ) (xs ys : List X) → IsStableByKey number nat_cmp xs ys → filter (of_number q) ys ≡ filter (of_number q) xs
  stable_group q xs ys stable =
      elim (filter (of_number q) ys) as (λ zs. filter (of_number q) ys ≡ zs → zs ≡ filter (of_number q) xs) [
        | [] ↦ λ none. elim (filter (of_number q) xs) as (λ zs. filter (of_number q) xs ≡ zs → [] ≡ zs) [
          | [] ↦ λ _. refl
          | x ∷ more ↦ λ is. sym none ∙ from x (first_of_group q xs x more is) ∙ is
        ] refl
        | y ∷ more ↦ λ is. sym is ∙ from y (first_of_group q ys y more is)
      ] refl
    where
      from : (x : X) → q ≡ number x → filter (of_number q) ys ≡ filter (of_number q) xs
      from x own = subst (λ q. filter (of_number q) ys ≡ filter (of_number q) xs) (sym own) (stable_at x xs ys stable)

-- ---- the options by rising number

-- the number of the option behind a reference
abbrev pub number_at : Bor DhcpV6Option → ℕ
number_at option = option_number option.now

-- the options behind some references
abbrev pub behind : List (Bor DhcpV6Option) → List DhcpV6Option
behind options = map (λ option. option.now) options

-- what holds of each option holds of each behind the references in another order
pub each_sorted : (P : DhcpV6Option → Type 0) (kept : List DhcpV6Option) (xs ys : List (Bor DhcpV6Option)) → All P kept → behind xs ≡ kept → IsPermutation xs ys → All (λ option. P option.now) ys
each_sorted P kept xs ys all read same = All-permutation (λ option. P option.now) xs ys same each
  where
    each : All (λ option. P option.now) xs
    each k d inside =
        subst P (get_or-map (λ option. option.now) xs k d d.now inside)
        (subst (All P) (sym read) all k d.now (omega (arith, inside, length-map xs (λ option. option.now))))

behind-group : (xs : List (Bor DhcpV6Option)) (e : IndexEntry) → behind (group number_at xs e) ≡ numbered (behind xs) e
behind-group [] e = refl
behind-group (x ∷ xs) e =
    elim (e.number == number_at x) as (λ b. behind (cond b (x ∷ group number_at xs e) (group number_at xs e)) ≡ cond b (x.now ∷ numbered (behind xs) e) (numbered (behind xs) e)) [
      | true ↦ ap (λ later. x.now ∷ later) (behind-group xs e)
      | false ↦ behind-group xs e
    ]

behind-groups : (xs : List (Bor DhcpV6Option)) (es : List IndexEntry) → behind (flat_map (group number_at xs) es) ≡ flat_map (numbered (behind xs)) es
behind-groups xs [] = refl
behind-groups xs (e ∷ es) =
    map-append (λ (option : Bor DhcpV6Option). option.now) (group number_at xs e) (flat_map (group number_at xs) es)
    ∙ ap (λ first. first ++ behind (flat_map (group number_at xs) es)) (behind-group xs e)
    ∙ ap (λ later. numbered (behind xs) e ++ later) (behind-groups xs es)

-- the lists one after the other are the groups of the index
values-numbered : (kept : List DhcpV6Option) (es : List IndexEntry) → IsIndexed kept es → flat_map (λ options. options) (map.values (lists_of kept)) ≡ flat_map (numbered kept) es
values-numbered kept es indexed =
    let option : DhcpV6Option = RapidCommit in
    ap (λ entries. flat_map (λ options. options) (map (λ entry. entry.1) entries)) (entries-lists_of kept es option indexed)
    ∙ flat_map-map (λ options. options) (λ entry. entry.1) (map (entry_in kept) es)
    ∙ flat_map-map (λ entry. entry.1) (entry_in kept) es

-- references to the options, sorted stably by number, are the lists one after the other
pub sorted_values : (kept : List DhcpV6Option) (es : List IndexEntry) (xs ys : List (Bor DhcpV6Option)) → IsIndexed kept es → behind xs ≡ kept → IsPermutation xs ys → IsNonDecreasingBy number_at ys → IsStableByKey number_at nat_cmp xs ys → behind ys ≡ flat_map (λ options. options) (map.values (lists_of kept))
sorted_values kept es xs ys indexed read same up stable =
    let HasEntry : DhcpV6Option → Type 0 = λ option. is_some (first_place (option_number option) es) ≡ true in
    let there = each_sorted HasEntry kept xs ys (entry_of_each kept es indexed) read same in
    ap behind (sorted_groups number_at ys es indexed.rises there up)
    ∙ ap (λ of. behind (flat_map of es)) (λ i e. stable_group number_at e.number xs ys stable i)
    ∙ behind-groups xs es ∙ ap (λ options. flat_map (numbered options) es) read
    ∙ sym (values-numbered kept es indexed)

-- what is written of lists one after the other
pub written_lists : (lists : List (List DhcpV6Option)) → flat_map (flat_map written_option) lists ≡ flat_map written_option (flat_map (λ options. options) lists)
written_lists [] = refl
written_lists (options ∷ lists) =
    ap (λ later. flat_map written_option options ++ later) (written_lists lists)
    ∙ sym (flat_map-append written_option options (flat_map (λ options. options) lists))

-- what is written of the options behind references that are those lists
pub written_behind : (options : OptionLists) (xs : List (Bor DhcpV6Option)) → behind xs ≡ flat_map (λ options. options) (map.values options) → flat_map (λ option. written_option option.now) xs ≡ written_options options
unfolding written_options
written_behind options xs is =
    sym (flat_map-map written_option (λ option. option.now) xs) ∙ ap (flat_map written_option) is ∙ sym (written_lists (map.values options))

-- options whose numbers do not fall are written as they are kept
pub written_kept : (kept : List DhcpV6Option) (es : List IndexEntry) → IsIndexed kept es → IsNonDecreasingBy option_number kept → flat_map written_option kept ≡ written_options (lists_of kept)
unfolding written_options
written_kept kept es indexed up =
    ap (flat_map written_option) (sorted_groups option_number kept es indexed.rises (entry_of_each kept es indexed) up ∙ sym (values-numbered kept es indexed))
    ∙ sym (written_lists (map.values (lists_of kept)))
