-- Options in order of insertion, seen by their numbers, with the places of the first ones.
use Rattle.std.proofs.Common.{◌≡◌, ◌==◌, ℕ, zero, suc, ◌+◌, ◌<◌, Bool, true, false, cond, not, List, [], ◌∷◌, ◌++◌, append_assoc, append-nil, map, length, take, drop, get_or, drop-cons, Option, Some, None, is_some, IsTrue, refl, sym, ap, subst, ◌∙◌, arith, T}
use Rattle.std.specs.Prelude.{position, unwrap_or}
use Rattle.std.specs.List.{All, AllByRecursion, filter, position_from}
use Rattle.std.specs.Option.{option_or}
use Rattle.std.specs.FinMap as map
use Rattle.std.specs.FinMap.{nat_cmp-IsAntisymmetric}
use Rattle.std.specs.FinMap.Entries.{below_all, same_entries}
use Rattle.std.specs.Cmp.{nat_cmp_total, unsigned_tied}
use Rattle.std.specs.Ordering.{is_lt, nat_cmp}
use Rattle.std.proofs.lemmas.Bool.{and_from, eqb-true, eq-eqb, false≢true, lt-ltb}
use Rattle.std.proofs.lemmas.List.{length-map}
use Rattle.std.proofs.lemmas.Iterator.Adapters.{position_from-zero}
use Rattle.std.proofs.lemmas.Option.{none-some, same_Some}
use Rattle.dhcp6_opt.specs.declared.option.DhcpV6Option.{DhcpV6Option}
use Rattle.dhcp6_opt.specs.declared.options.index.IndexEntry.{IndexEntry}
use Rattle.dhcp6_opt.specs.OptionIndex.{AllAbove, entry_in, first_place, has_number, IsIndexed, numbered, Rises}
use Rattle.dhcp6_opt.specs.Options.{first_in, first_of, lists_of, OptionLists, options_under, with_option, with_options}
use Rattle.dhcp6_opt.specs.Value.{fits, option_number}

has_passed : (b : Bool) → b ≡ true → T b
has_passed b is = subst T (sym is) tt

-- ---- the first place that passes

-- what the first place that passes has
pub record Placed {X : Type 0} (p : X → Bool) (xs : List X) (i : ℕ) (d : X) : Type 0 where
  pub inside : i < length xs
  pub passes : p (get_or xs i d) ≡ true
  pub rest : filter p (drop i xs) ≡ filter p xs
  pub later : List X
  pub first : filter p xs ≡ get_or xs i d ∷ later

module _ {X : Type 0} (p : X → Bool) where
  placed_from : (from : ℕ) (xs : List X) (i : ℕ) (d : X) → position_from p from xs ≡ Some i → (j : ℕ) × (i ≡ from + j) × Placed p xs j d
  placed_from from [] i d is = absurd (none-some _ is)
  placed_from from (x ∷ xs) i d is =
      elim (p x) as (λ b. p x ≡ b → cond b (Some from) (position_from p (from + 1) xs) ≡ Some i → (j : ℕ) × (i ≡ from + j) × Placed p (x ∷ xs) j d) [
        | true ↦ λ passes is. (
          zero,
          sym (same_Some _ _ is) ∙ omega arith,
          record {
            inside = omega arith;
            passes = passes;
            rest = refl;
            later = filter p xs;
            first = ap (λ b. cond b (x ∷ filter p xs) (filter p xs)) passes;
          },
        )
        | false ↦ λ fails is.
            let found = placed_from (from + 1) xs i d is in
            let same : filter p (x ∷ xs) ≡ filter p xs = ap (λ b. cond b (x ∷ filter p xs) (filter p xs)) fails in (
              suc found.0,
              omega (arith, found.1),
              record {
                inside = omega (arith, found.2.inside);
                passes = found.2.passes;
                rest = found.2.rest ∙ sym same;
                later = found.2.later;
                first = same ∙ found.2.first;
              },
            )
      ] refl is

  pub placed : (xs : List X) (i : ℕ) (d : X) → position p xs ≡ Some i → Placed p xs i d
  placed xs i d is =
      let found = placed_from 0 xs i d (sym (position_from-zero p xs) ∙ is) in
      let same : found.0 ≡ i = omega (arith, found.1) in
      subst (λ j. Placed p xs j d) same found.2

  missing_from : (from : ℕ) (xs : List X) → position_from p from xs ≡ None → filter p xs ≡ []
  missing_from from [] is = refl
  missing_from from (x ∷ xs) is =
      elim (p x) as (λ b. cond b (Some from) (position_from p (from + 1) xs) ≡ None → cond b (x ∷ filter p xs) (filter p xs) ≡ []) [
        | true ↦ λ is. absurd (none-some _ (sym is))
        | false ↦ λ is. missing_from (from + 1) xs is
      ] is

  -- where none passes nothing is kept
  pub missing : (xs : List X) → position p xs ≡ None → filter p xs ≡ []
  missing xs is = missing_from 0 xs (sym (position_from-zero p xs) ∙ is)

  pushed_from : (from : ℕ) (xs : List X) (y : X) → position_from p from (xs ++ y ∷ []) ≡ option_or (position_from p from xs) (cond (p y) (Some (from + length xs)) None)
  pushed_from from [] y = ap (λ n. cond (p y) (Some n) None) (omega arith)
  pushed_from from (x ∷ xs) y =
      elim (p x) as (λ b. cond b (Some from) (position_from p (from + 1) (xs ++ y ∷ [])) ≡ option_or (cond b (Some from) (position_from p (from + 1) xs)) (cond (p y) (Some (from + length (x ∷ xs))) None)) [
        | true ↦ refl
        | false ↦
            let same : from + 1 + length xs ≡ from + length (x ∷ xs) = omega arith in
            pushed_from (from + 1) xs y ∙ ap (λ n. option_or (position_from p (from + 1) xs) (cond (p y) (Some n) None)) same
      ]

  -- one more element at the end
  pub position-push : (xs : List X) (y : X) → position p (xs ++ y ∷ []) ≡ option_or (position p xs) (cond (p y) (Some (length xs)) None)
  position-push xs y =
      position_from-zero p (xs ++ y ∷ []) ∙ pushed_from 0 xs y
      ∙ ap (λ n. option_or (position_from p 0 xs) (cond (p y) (Some n) None)) (omega arith)
      ∙ ap (λ found. option_or found (cond (p y) (Some (length xs)) None)) (sym (position_from-zero p xs))

-- what is kept of all is kept of those before a place, then the one at it, then later ones
pub filter_at : {X : Type 0} (p : X → Bool) (xs : List X) (i : ℕ) (d : X) → i < length xs → p (get_or xs i d) ≡ true → filter p xs ≡ filter p (take i xs) ++ get_or xs i d ∷ filter p (drop (suc i) xs)
filter_at p [] i d inside passes = absurd (omega (arith, inside))
filter_at p (x ∷ xs) zero d inside passes = ap (λ b. cond b (x ∷ filter p xs) (filter p xs)) passes
filter_at p (x ∷ xs) (suc i) d inside passes =
    elim (p x) as (λ b. cond b (x ∷ filter p xs) (filter p xs) ≡ cond b (x ∷ filter p (take i xs)) (filter p (take i xs)) ++ get_or xs i d ∷ filter p (drop (suc i) xs)) [
      | true ↦ ap (λ more. x ∷ more) (filter_at p xs i d (omega (arith, inside)) passes)
      | false ↦ filter_at p xs i d (omega (arith, inside)) passes
    ]

-- whether there is an element
abbrev pub has_some : {X : Type 0} → List X → Bool
has_some [] = false
has_some (x ∷ xs) = true

-- some place passes if and only if something is kept
pub is_some-position : {X : Type 0} (p : X → Bool) (xs : List X) (d : X) → is_some (position p xs) ≡ has_some (filter p xs)
is_some-position p xs d =
    elim (position p xs) as (λ found. position p xs ≡ found → is_some found ≡ has_some (filter p xs)) [
      | None ↦ λ none. ap has_some (sym (missing p xs none))
      | Some i ↦ λ is. ap has_some (sym (placed p xs i d is).first)
    ] refl

-- ---- the lists of some options

-- what was under a number, with more
abbrev pub joined : Option (List DhcpV6Option) → List DhcpV6Option → Option (List DhcpV6Option)
joined None [] = None
joined None (option ∷ options) = Some (option ∷ options)
joined (Some before) options = Some (before ++ options)

joined-nil : (before : Option (List DhcpV6Option)) → joined before [] ≡ before
joined-nil None = refl
joined-nil (Some before) = ap Some (append-nil before)

joined-cons : (before : Option (List DhcpV6Option)) (option : DhcpV6Option) (more : List DhcpV6Option) → joined (Some (unwrap_or before [] ++ option ∷ [])) more ≡ joined before (option ∷ more)
joined-cons None option more = refl
joined-cons (Some before) option more = ap Some (append_assoc before (option ∷ []) more)

get-with_options : (options : OptionLists) (kept : List DhcpV6Option) (q : ℕ) → map.get (with_options options kept) q ≡ joined (map.get options q) (filter (has_number q) kept)
get-with_options options [] q = sym (joined-nil (map.get options q))
get-with_options options (option ∷ kept) q =
    let n : ℕ = option_number option in
    let more : List DhcpV6Option = filter (has_number q) kept in
    let value : List DhcpV6Option = options_under options n ++ option ∷ [] in
    get-with_options (with_option options option) kept q
    ∙ ap (λ before. joined before more) (map.get-insert nat_cmp_total options n value q ∙ ap (λ b. cond b (Some value) (map.get options q)) (unsigned_tied q n))
    ∙ elim (q == n) as (λ b. (q == n) ≡ b → joined (cond b (Some value) (map.get options q)) more ≡ joined (map.get options q) (cond b (option ∷ more) more)) [
      | true ↦ λ same.
          ap (λ before. joined (Some (unwrap_or before [] ++ option ∷ [])) more) (ap (map.get options) (sym (eqb-true q n same)))
          ∙ joined-cons (map.get options q) option more
      | false ↦ λ _. refl
    ] refl

-- under each number the options that have it
pub get-lists_of : (kept : List DhcpV6Option) (q : ℕ) → map.get (lists_of kept) q ≡ joined None (filter (has_number q) kept)
get-lists_of kept q = get-with_options map.empty kept q ∙ ap (λ before. joined before (filter (has_number q) kept)) (map.get-empty nat_cmp q)

-- none where none has it,
pub get-missing : (kept : List DhcpV6Option) (q : ℕ) → position (has_number q) kept ≡ None → map.get (lists_of kept) q ≡ None
get-missing kept q none = get-lists_of kept q ∙ ap (joined None) (missing (has_number q) kept none)

-- and else those
pub get-placed : (kept : List DhcpV6Option) (q i : ℕ) (d : DhcpV6Option) → position (has_number q) kept ≡ Some i → map.get (lists_of kept) q ≡ Some (filter (has_number q) kept)
get-placed kept q i d is =
    let at = placed (has_number q) kept i d is in
    get-lists_of kept q ∙ ap (joined None) at.first ∙ ap Some (sym at.first)

-- the first of them
pub first_of-placed : (kept : List DhcpV6Option) (q i : ℕ) (d : DhcpV6Option) → position (has_number q) kept ≡ Some i → first_of (lists_of kept) q ≡ Some (get_or kept i d)
first_of-placed kept q i d is =
    ap (λ found. first_in (unwrap_or found [])) (get-placed kept q i d is) ∙ ap first_in (placed (has_number q) kept i d is).first

pub first_of-missing : (kept : List DhcpV6Option) (q : ℕ) → position (has_number q) kept ≡ None → first_of (lists_of kept) q ≡ None
first_of-missing kept q none = ap (λ found. first_in (unwrap_or found [])) (get-missing kept q none)

-- some options, and then more
pub with_options-append : (options : OptionLists) (some more : List DhcpV6Option) → with_options options (some ++ more) ≡ with_options (with_options options some) more
with_options-append options [] more = refl
with_options-append options (option ∷ some) more = with_options-append (with_option options option) some more

-- one option more
pub lists_of-push : (kept : List DhcpV6Option) (option : DhcpV6Option) → lists_of (kept ++ option ∷ []) ≡ with_option (lists_of kept) option
lists_of-push kept option = with_options-append map.empty kept (option ∷ [])

-- ---- without a number

-- the options that do not have it
abbrev pub without : ℕ → List DhcpV6Option → List DhcpV6Option
without n kept = filter (λ option. not (n == option_number option)) kept

under_without : (n q : ℕ) (kept : List DhcpV6Option) → filter (has_number q) (without n kept) ≡ cond (q == n) [] (filter (has_number q) kept)
under_without n q [] = nothing (q == n)
  where
    nothing : (b : Bool) → ◌≡◌ {A = List DhcpV6Option} [] (cond b [] [])
    nothing true = refl
    nothing false = refl
under_without n q (option ∷ kept) =
    let m : ℕ = option_number option in
    elim (n == m) as (λ b. (n == m) ≡ b → filter (has_number q) (cond (not b) (option ∷ without n kept) (without n kept)) ≡ cond (q == n) [] (filter (has_number q) (option ∷ kept))) [
      | true ↦ λ same.
          under_without n q kept
          ∙ elim (q == n) as (λ b. (q == n) ≡ b → cond b [] (filter (has_number q) kept) ≡ cond b [] (cond (q == m) (option ∷ filter (has_number q) kept) (filter (has_number q) kept))) [
            | true ↦ λ _. refl
            | false ↦ λ other. ap (λ b. cond b (option ∷ filter (has_number q) kept) (filter (has_number q) kept)) (sym (ap (λ x. q == x) (sym (eqb-true n m same)) ∙ other))
          ] refl
      | false ↦ λ other.
          ap (λ more. cond (q == m) (option ∷ more) more) (under_without n q kept)
          ∙ elim (q == n) as (λ b. (q == n) ≡ b → cond (q == m) (option ∷ cond b [] (filter (has_number q) kept)) (cond b [] (filter (has_number q) kept)) ≡ cond b [] (cond (q == m) (option ∷ filter (has_number q) kept) (filter (has_number q) kept))) [
            | true ↦ λ same. ap (λ b. cond b (option ∷ []) []) (ap (λ x. x == m) (eqb-true q n same) ∙ other)
            | false ↦ λ _. refl
          ] refl
    ] refl

-- the lists without that number
pub lists_of-without : (kept : List DhcpV6Option) (n : ℕ) → lists_of (without n kept) ≡ map.remove (lists_of kept) n
lists_of-without kept n =
    map.same_map nat_cmp_total nat_cmp-IsAntisymmetric _ _ (λ q.
    get-lists_of (without n kept) q ∙ ap (joined None) (under_without n q kept)
    ∙ elim (q == n) as (λ b. joined None (cond b [] (filter (has_number q) kept)) ≡ cond b None (map.get (lists_of kept) q)) [
      | true ↦ refl
      | false ↦ sym (get-lists_of kept q)
    ]
    ∙ sym (map.get-remove nat_cmp_total (lists_of kept) n q ∙ ap (λ b. cond b None (map.get (lists_of kept) q)) (unsigned_tied q n)))

-- removing what is not there changes nothing
pub remove-missing : (kept : List DhcpV6Option) (n : ℕ) → position (has_number n) kept ≡ None → map.remove (lists_of kept) n ≡ lists_of kept
remove-missing kept n none =
    map.same_map nat_cmp_total nat_cmp-IsAntisymmetric _ _ (λ q.
    map.get-remove nat_cmp_total (lists_of kept) n q ∙ ap (λ b. cond b None (map.get (lists_of kept) q)) (unsigned_tied q n)
    ∙ elim (q == n) as (λ b. (q == n) ≡ b → cond b None (map.get (lists_of kept) q) ≡ map.get (lists_of kept) q) [
      | true ↦ λ same. sym (ap (map.get (lists_of kept)) (eqb-true q n same) ∙ get-missing kept n none)
      | false ↦ λ _. refl
    ] refl)

-- which numbers are left
pub some-without : (kept : List DhcpV6Option) (n q : ℕ) (d : DhcpV6Option) → is_some (position (has_number q) (without n kept)) ≡ is_some (cond (q == n) None (position (has_number q) kept))
some-without kept n q d =
    is_some-position (has_number q) (without n kept) d ∙ ap has_some (under_without n q kept)
    ∙ elim (q == n) as (λ b. has_some (cond b [] (filter (has_number q) kept)) ≡ is_some (cond b None (position (has_number q) kept))) [
      | true ↦ refl
      | false ↦ sym (is_some-position (has_number q) kept d)
    ]

-- ---- by rising number

find-entry_in : (kept : List DhcpV6Option) (q : ℕ) (es : List IndexEntry) → map.find nat_cmp q (map (entry_in kept) es) ≡ cond (is_some (first_place q es)) (Some (filter (has_number q) kept)) None
find-entry_in kept q [] = refl
find-entry_in kept q (e ∷ es) =
    ap (λ b. cond b (Some (numbered kept e)) (map.find nat_cmp q (map (entry_in kept) es))) (unsigned_tied q e.number)
    ∙ elim (q == e.number) as (λ b. (q == e.number) ≡ b → cond b (Some (numbered kept e)) (map.find nat_cmp q (map (entry_in kept) es)) ≡ cond (is_some (cond b (Some e.first) (first_place q es))) (Some (filter (has_number q) kept)) None) [
      | true ↦ λ same. ap (λ n. Some (filter (has_number n) kept)) (sym (eqb-true q e.number same))
      | false ↦ λ _. find-entry_in kept q es
    ] refl

is_below : (a b : ℕ) → a < b → is_lt (nat_cmp a b) ≡ true
is_below a b less = rw (lt-ltb a b less) refl

below_entries : (kept : List DhcpV6Option) (n : ℕ) (es : List IndexEntry) → AllAbove n es → IsTrue (below_all nat_cmp n (map (entry_in kept) es))
below_entries kept n [] above = refl
below_entries kept n (e ∷ es) above = and_from _ _ (is_below n e.number above.0) (below_entries kept n es above.1)

sorted_entries : (kept : List DhcpV6Option) (es : List IndexEntry) → Rises es → IsTrue (map.is_sorted nat_cmp (map (entry_in kept) es))
sorted_entries kept [] rises = refl
sorted_entries kept (e ∷ es) rises = and_from _ _ (below_entries kept e.number es rises.0) (sorted_entries kept es rises.1)

-- the entries of the lists are those of the index
pub entries-lists_of : (kept : List DhcpV6Option) (es : List IndexEntry) (d : DhcpV6Option) → IsIndexed kept es → map.entries (lists_of kept) ≡ map (entry_in kept) es
entries-lists_of kept es d indexed =
    same_entries nat_cmp nat_cmp_total nat_cmp-IsAntisymmetric _ _ (map.entries_sorted (lists_of kept)) (has_passed _ (sorted_entries kept es indexed.rises)) (λ q.
    sym (map.get-entries (lists_of kept) q) ∙ get-lists_of kept q
    ∙ elim (position (has_number q) kept) as (λ found. position (has_number q) kept ≡ found → joined None (filter (has_number q) kept) ≡ cond (is_some found) (Some (filter (has_number q) kept)) None) [
      | None ↦ λ none. ap (joined None) (missing (has_number q) kept none)
      | Some i ↦ λ is. let at = placed (has_number q) kept i d is in ap (joined None) at.first ∙ ap Some (sym at.first)
    ] refl
    ∙ ap (λ found. cond (is_some found) (Some (filter (has_number q) kept)) None) (sym (indexed.firsts q))
    ∙ sym (find-entry_in kept q es))

-- there are as many numbers as entries
pub len-lists_of : (kept : List DhcpV6Option) (es : List IndexEntry) (d : DhcpV6Option) → IsIndexed kept es → map.len (lists_of kept) ≡ length es
len-lists_of kept es d indexed = map.len-entries (lists_of kept) ∙ ap length (entries-lists_of kept es d indexed) ∙ length-map es (entry_in kept)

-- ---- what each has

pub fit_push : (kept : List DhcpV6Option) (option : DhcpV6Option) → AllByRecursion (λ option. IsTrue (fits option)) kept → IsTrue (fits option) → AllByRecursion (λ option. IsTrue (fits option)) (kept ++ option ∷ [])
fit_push [] option fit one = (one, tt)
fit_push (first ∷ kept) option fit one = (fit.0, fit_push kept option fit.1 one)

pub fit_filter : (p : DhcpV6Option → Bool) (kept : List DhcpV6Option) → AllByRecursion (λ option. IsTrue (fits option)) kept → AllByRecursion (λ option. IsTrue (fits option)) (filter p kept)
fit_filter p [] fit = tt
fit_filter p (option ∷ kept) fit =
    elim (p option) as (λ b. AllByRecursion (λ option. IsTrue (fits option)) (cond b (option ∷ filter p kept) (filter p kept))) [
      | true ↦ (fit.0, fit_filter p kept fit.1)
      | false ↦ fit_filter p kept fit.1
    ]

pub fit_at : (i : ℕ) (kept : List DhcpV6Option) (d : DhcpV6Option) → AllByRecursion (λ option. IsTrue (fits option)) kept → i < length kept → IsTrue (fits (get_or kept i d))
fit_at i [] d fit inside = absurd (omega (arith, inside))
fit_at zero (option ∷ kept) d fit inside = fit.0
fit_at (suc i) (option ∷ kept) d fit inside = fit_at i kept d fit.1 (omega (arith, inside))

-- ---- the index

-- one option more, of a number that is there
pub IsIndexed-more : (kept : List DhcpV6Option) (es : List IndexEntry) (option : DhcpV6Option) (first : ℕ) → IsIndexed kept es → IsTrue (fits option) → first_place (option_number option) es ≡ Some first → IsIndexed (kept ++ option ∷ []) es
IsIndexed-more kept es option first indexed fit there = record {
  fit = fit_push kept option indexed.fit fit;
  rises = indexed.rises;
  firsts = λ q. let n : ℕ = option_number option in
      indexed.firsts q
      ∙ elim (q == n) as (λ b. (q == n) ≡ b → position (has_number q) kept ≡ option_or (position (has_number q) kept) (cond b (Some (length kept)) None)) [
        | true ↦ λ same.
            let found : position (has_number q) kept ≡ Some first = sym (indexed.firsts q) ∙ ap (λ q. first_place q es) (eqb-true q n same) ∙ there in
            found ∙ sym (ap (λ found. option_or found (Some (length kept))) found)
        | false ↦ λ _. or_none (position (has_number q) kept)
      ] refl
      ∙ sym (position-push (has_number q) kept option);
}
  where
    or_none : (found : Option ℕ) → found ≡ option_or found None
    or_none None = refl
    or_none (Some i) = refl

-- one option more, of a new number
pub IsIndexed-new : (kept : List DhcpV6Option) (es fs : List IndexEntry) (option : DhcpV6Option) → IsIndexed kept es → IsTrue (fits option) → first_place (option_number option) es ≡ None → Rises fs → ((q : ℕ) → first_place q fs ≡ cond (q == option_number option) (Some (length kept)) (first_place q es)) → IsIndexed (kept ++ option ∷ []) fs
IsIndexed-new kept es fs option indexed fit none rises firsts = record {
  fit = fit_push kept option indexed.fit fit;
  rises = rises;
  firsts = λ q. let n : ℕ = option_number option in
      firsts q
      ∙ elim (q == n) as (λ b. (q == n) ≡ b → cond b (Some (length kept)) (first_place q es) ≡ option_or (position (has_number q) kept) (cond b (Some (length kept)) None)) [
        | true ↦ λ same.
            let found : position (has_number q) kept ≡ None = sym (indexed.firsts q) ∙ ap (λ q. first_place q es) (eqb-true q n same) ∙ none in
            sym (ap (λ found. option_or found (Some (length kept))) found)
        | false ↦ λ _. indexed.firsts q ∙ or_none (position (has_number q) kept)
      ] refl
      ∙ sym (position-push (has_number q) kept option);
}
  where
    or_none : (found : Option ℕ) → found ≡ option_or found None
    or_none None = refl
    or_none (Some i) = refl

-- ---- the places set anew, from the last option on

passes_somewhere : {X : Type 0} (p : X → Bool) (xs : List X) (i : ℕ) (d : X) → i < length xs → p (get_or xs i d) ≡ true → has_some (filter p xs) ≡ true
passes_somewhere p xs i d inside passes = ap has_some (filter_at p xs i d inside passes) ∙ some_after (filter p (take i xs)) _ _
  where
    some_after : {X : Type 0} (front : List X) (x : X) (back : List X) → has_some (front ++ x ∷ back) ≡ true
    some_after [] x back = refl
    some_after (y ∷ front) x back = refl

-- each number of the options that are kept has an entry
pub entry_of_each : (kept : List DhcpV6Option) (es : List IndexEntry) → IsIndexed kept es → All (λ option. is_some (first_place (option_number option) es) ≡ true) kept
entry_of_each kept es indexed i d inside =
    let n : ℕ = option_number (get_or kept i d) in
    ap is_some (indexed.firsts n) ∙ is_some-position (has_number n) kept d ∙ passes_somewhere (has_number n) kept i d inside (eq-eqb n n refl)

-- the number of an option that is kept has an entry
pub has_entry : (kept : List DhcpV6Option) (es : List IndexEntry) (i : ℕ) (d : DhcpV6Option) → i < length kept → ((q : ℕ) → is_some (first_place q es) ≡ is_some (position (has_number q) kept)) → first_place (option_number (get_or kept i d)) es ≡ None → ⊥
has_entry kept es i d inside same none =
    let n : ℕ = option_number (get_or kept i d) in
    false≢true (sym (ap is_some none) ∙ same n ∙ is_some-position (has_number n) kept d ∙ passes_somewhere (has_number n) kept i d inside (eq-eqb n n refl))

-- one option earlier
pub set_earlier : (kept : List DhcpV6Option) (es fs : List IndexEntry) (i : ℕ) (d : DhcpV6Option) → i < length kept → ((q p : ℕ) → position_from (has_number q) (i + 1) (drop (i + 1) kept) ≡ Some p → first_place q es ≡ Some p) → ((q : ℕ) → first_place q fs ≡ cond (q == option_number (get_or kept i d)) (Some i) (first_place q es)) → (q p : ℕ) → position_from (has_number q) i (drop i kept) ≡ Some p → first_place q fs ≡ Some p
set_earlier kept es fs i d inside later set q p is =
    let n : ℕ = option_number (get_or kept i d) in
    let step : suc i ≡ i + 1 = omega arith in
    let here : cond (q == n) (Some i) (position_from (has_number q) (i + 1) (drop (i + 1) kept)) ≡ Some p =
    ap (λ k. cond (q == n) (Some i) (position_from (has_number q) (i + 1) (drop k kept))) (sym step)
    ∙ sym (ap (position_from (has_number q) i) (drop-cons kept i d inside)) ∙ is in
    set q ∙ elim (q == n) as (λ b. cond b (Some i) (position_from (has_number q) (i + 1) (drop (i + 1) kept)) ≡ Some p → cond b (Some i) (first_place q es) ≡ Some p) [
      | true ↦ λ is. is
      | false ↦ λ is. later q p is
    ] here

-- the numbers that have an entry stay the same
pub set_same : (kept : List DhcpV6Option) (es fs : List IndexEntry) (n i : ℕ) (e : ℕ) → first_place n es ≡ Some e → ((q : ℕ) → is_some (first_place q es) ≡ is_some (position (has_number q) kept)) → ((q : ℕ) → first_place q fs ≡ cond (q == n) (Some i) (first_place q es)) → (q : ℕ) → is_some (first_place q fs) ≡ is_some (position (has_number q) kept)
set_same kept es fs n i e there same set q =
    ap is_some (set q)
    ∙ elim (q == n) as (λ b. (q == n) ≡ b → is_some (cond b (Some i) (first_place q es)) ≡ is_some (position (has_number q) kept)) [
      | true ↦ λ is. sym (ap is_some (ap (λ q. first_place q es) (eqb-true q n is) ∙ there)) ∙ same q
      | false ↦ λ _. same q
    ] refl

-- at the front each number has the place of its first option
pub set_all : (kept : List DhcpV6Option) (es : List IndexEntry) → ((q : ℕ) → is_some (first_place q es) ≡ is_some (position (has_number q) kept)) → ((q p : ℕ) → position_from (has_number q) 0 kept ≡ Some p → first_place q es ≡ Some p) → (q : ℕ) → first_place q es ≡ position (has_number q) kept
set_all kept es same later q =
    elim (position (has_number q) kept) as (λ found. position (has_number q) kept ≡ found → first_place q es ≡ found) [
      | None ↦ λ none. no_place (first_place q es) (same q ∙ ap is_some none)
      | Some p ↦ λ is. later q p (sym (position_from-zero (has_number q) kept) ∙ is)
    ] refl
  where
    no_place : (found : Option ℕ) → is_some found ≡ false → found ≡ None
    no_place None is = refl
    no_place (Some p) is = absurd (false≢true (sym is))
