-- The index of some options is built at once: an entry for each option, sorted stably by number, and
-- then the first one of each number.
use Rattle.std.proofs.Common.{◌≡◌, ◌==◌, ℕ, suc, ◌+◌, ◌<◌, ◌≤◌, Bool, true, false, cond, List, [], ◌∷◌, ◌++◌, length, get_or, take, Option, Some, None, IsTrue, refl, sym, ap, ◌∙◌, arith}
use Rattle.std.specs.List.{All, AllByRecursion, dedup, dedup_from, filter, position_from}
use Rattle.std.specs.List.Sorted.{IsNonDecreasingBy, IsStableByKey}
use Rattle.std.specs.Ordering.{nat_cmp}
use Rattle.std.proofs.lemmas.Bool.{eqb-false, eqb-true}
use Rattle.std.proofs.lemmas.List.{take_more}
use Rattle.std.proofs.lemmas.Iterator.Adapters.{position_from-zero}
use Rattle.dhcp6_opt.specs.declared.option.DhcpV6Option.{DhcpV6Option}
use Rattle.dhcp6_opt.specs.declared.options.index.IndexEntry.{IndexEntry}
use Rattle.dhcp6_opt.specs.OptionIndex.{AllAbove, first_place, has_number, IsIndexed, Rises}
use Rattle.dhcp6_opt.specs.Value.{fits, option_number}
use Rattle.dhcp6_opt.proofs.OptionIndexLemmas.{weaken_above}
use Rattle.dhcp6_opt.proofs.SortLemmas.{of_number, stable_group}

-- the number of an entry
abbrev pub entry_number : IndexEntry → ℕ
entry_number entry = entry.number

-- ---- an entry for each option

-- the entries of options from a position on
abbrev pub entries_from : ℕ → List DhcpV6Option → List IndexEntry
entries_from from [] = []
entries_from from (option ∷ options) = record { number = option_number option; first = from } ∷ entries_from (from + 1) options

pub entries_from-push : (from : ℕ) (options : List DhcpV6Option) (option : DhcpV6Option) → entries_from from (options ++ option ∷ []) ≡ entries_from from options ++ record { number = option_number option; first = from + length options } ∷ []
entries_from-push from [] option = ap (λ first. record { number = option_number option; first = first } ∷ []) (omega arith)
entries_from-push from (other ∷ options) option =
    let next : from + 1 + length options ≡ from + length (other ∷ options) = omega arith in
    ap (λ entries. record { number = option_number other; first = from } ∷ entries) (entries_from-push (from + 1) options option
    ∙ ap (λ first. entries_from (from + 1) options ++ record { number = option_number option; first = first } ∷ []) next)

pub length-entries_from : (from : ℕ) (options : List DhcpV6Option) → length (entries_from from options) ≡ length options
length-entries_from from [] = refl
length-entries_from from (option ∷ options) = ap suc (length-entries_from (from + 1) options)

-- with that of one option more
pub entries_from-more : (kept : List DhcpV6Option) (es : List IndexEntry) (i number first : ℕ) (option : DhcpV6Option) → i < length kept → option ≡ get_or kept i option → number ≡ option_number option → first ≡ length es → es ≡ entries_from 0 (take i kept) → es ++ record { number = number; first = first } ∷ [] ≡ entries_from 0 (take (i + 1) kept)
entries_from-more kept es i number first option inside is own last so_far =
    let at : first ≡ 0 + length (take i kept) = omega (arith, last, ap length so_far, length-entries_from 0 (take i kept)) in
    let taken = take_more kept i option inside ∙ ap (λ option. take i kept ++ option ∷ []) (sym is) in
    rw (taken, entries_from-push 0 (take i kept) option, own, at, so_far) refl

-- the first entry of a number has the position of its first option
first_place-entries_from : (q from : ℕ) (options : List DhcpV6Option) → first_place q (entries_from from options) ≡ position_from (has_number q) from options
first_place-entries_from q from [] = refl
first_place-entries_from q from (option ∷ options) = ap (cond (q == option_number option) (Some from)) (first_place-entries_from q (from + 1) options)

-- ---- sorted stably

-- the place of the first of some entries
abbrev first_in : List IndexEntry → Option ℕ
first_in [] = None
first_in (entry ∷ entries) = Some entry.first

first_place-filter : (q : ℕ) (es : List IndexEntry) → first_place q es ≡ first_in (filter (of_number entry_number q) es)
first_place-filter q [] = refl
first_place-filter q (e ∷ es) =
    elim (q == e.number) as (λ b. cond b (Some e.first) (first_place q es) ≡ first_in (cond b (e ∷ filter (of_number entry_number q) es) (filter (of_number entry_number q) es))) [
      | true ↦ refl
      | false ↦ first_place-filter q es
    ]

-- a stable sort keeps the first entry of each number
first_place-sorted : (q : ℕ) (es fs : List IndexEntry) → IsStableByKey entry_number nat_cmp es fs → first_place q fs ≡ first_place q es
first_place-sorted q es fs stable =
    first_place-filter q fs ∙ ap first_in (stable_group entry_number q es fs stable) ∙ sym (first_place-filter q es)

-- ---- the first of each number alone

-- whether two entries have the same number
abbrev pub same_code : IndexEntry → IndexEntry → Bool
same_code e f = e.number == f.number

first_place-dedup_from : (q : ℕ) (e : IndexEntry) (es : List IndexEntry) → first_place q (dedup_from same_code e es) ≡ first_place q (e ∷ es)
first_place-dedup_from q e [] = refl
first_place-dedup_from q e (f ∷ es) =
    elim (f.number == e.number) as (λ b. (f.number == e.number) ≡ b → first_place q (cond b (dedup_from same_code e es) (e ∷ dedup_from same_code f es)) ≡ first_place q (e ∷ f ∷ es)) [
      | true ↦ λ same. first_place-dedup_from q e es ∙ skipped (q == e.number) (q == f.number) (ap (λ n. q == n) (sym (eqb-true f.number e.number same)))
      | false ↦ λ _. ap (cond (q == e.number) (Some e.first)) (first_place-dedup_from q f es)
    ] refl
  where
    skipped : (a b : Bool) → a ≡ b → cond a (Some e.first) (first_place q es) ≡ cond a (Some e.first) (cond b (Some f.first) (first_place q es))
    skipped true b same = refl
    skipped false b same = ap (λ b. cond b (Some f.first) (first_place q es)) same

first_place-dedup : (q : ℕ) (es : List IndexEntry) → first_place q (dedup same_code es) ≡ first_place q es
first_place-dedup q [] = refl
first_place-dedup q (e ∷ es) = first_place-dedup_from q e es

-- of entries that are sorted they rise
Rises-dedup_from : (e : IndexEntry) (es : List IndexEntry) → All (λ f. e.number ≤ f.number) es → IsNonDecreasingBy entry_number es → Rises (dedup_from same_code e es) × ((n : ℕ) → n < e.number → AllAbove n (dedup_from same_code e es))
Rises-dedup_from e [] least up = ((tt, tt), λ n less. (less, tt))
Rises-dedup_from e (f ∷ es) least up =
    let later : All (λ g. f.number ≤ g.number) es = λ k d inside. up 0 (suc k) d (omega arith) (omega (arith, inside)) in
    let rest : IsNonDecreasingBy entry_number es = λ i j d before inside. up (suc i) (suc j) d (omega (arith, before)) (omega (arith, inside)) in
    elim (f.number == e.number) as (λ b. (f.number == e.number) ≡ b → Rises (cond b (dedup_from same_code e es) (e ∷ dedup_from same_code f es)) × ((n : ℕ) → n < e.number → AllAbove n (cond b (dedup_from same_code e es) (e ∷ dedup_from same_code f es)))) [
      | true ↦ λ _. Rises-dedup_from e es (λ k d inside. least (suc k) d (omega (arith, inside))) rest
      | false ↦ λ other.
          let below : e.number < f.number = omega (arith, least 0 f (omega arith), eqb-false f.number e.number other) in
          let ones = Rises-dedup_from f es later rest in
          ((ones.1 e.number below, ones.0), λ n less. (less, weaken_above n e.number _ less (ones.1 e.number below)))
    ] refl

Rises-dedup : (es : List IndexEntry) → IsNonDecreasingBy entry_number es → Rises (dedup same_code es)
Rises-dedup [] up = tt
Rises-dedup (e ∷ es) up =
    (Rises-dedup_from e es (λ k d inside. up 0 (suc k) d (omega arith) (omega (arith, inside)))
    (λ i j d before inside. up (suc i) (suc j) d (omega (arith, before)) (omega (arith, inside)))).0

-- ---- the index

-- the entries of options, sorted stably, with the first of each number alone
pub index_built : (kept : List DhcpV6Option) (es fs : List IndexEntry) → AllByRecursion (λ option. IsTrue (fits option)) kept → es ≡ entries_from 0 kept → IsNonDecreasingBy entry_number fs → IsStableByKey entry_number nat_cmp es fs → IsIndexed kept (dedup same_code fs)
index_built kept es fs fit read up stable = record {
  fit = fit;
  rises = Rises-dedup fs up;
  firsts = λ q. first_place-dedup q fs ∙ first_place-sorted q es fs stable ∙ ap (first_place q) read
      ∙ first_place-entries_from q 0 kept ∙ sym (position_from-zero (has_number q) kept);
}
