-- Entries by rising number: where one is, where one goes, and what changes of them.
use Rattle.std.proofs.Common.{◌≡◌, ◌==◌, ℕ, zero, suc, ◌+◌, ◌-◌, ◌*◌, ◌^◌, ◌<◌, ◌≤◌, true, false, cond, List, [], ◌∷◌, ◌++◌, length, take, drop, get_or, set, Some, None, refl, sym, ap, subst, ◌∙◌, arith, min, drop-cons, append_assoc, length-append}
use Rattle.std.proofs.lemmas.Bool.{eqb-true, ne_eqb, eq-eqb}
use Rattle.std.proofs.Math.Nat.{mul-le-mul_left, mul-le-mul_right, pow-suc}
use Rattle.std.proofs.Math.Pow.{pow_mono}
use Rattle.std.proofs.lemmas.List.{drop_at, get_or_at, length-take, set_at, take-append-drop, take_at}
use Rattle.dhcp6_opt.specs.declared.options.index.IndexEntry.{IndexEntry}
use Rattle.dhcp6_opt.specs.OptionIndex.{AllAbove, AllBelow, first_place, GoesAt, IsEntryAt, Rises}

-- ---- between the entries below and those above

above_at : (n k : ℕ) (es : List IndexEntry) (d : IndexEntry) → AllAbove n es → k < length es → n < (get_or es k d).number
above_at n k [] d all inside = absurd (omega (arith, inside))
above_at n zero (e ∷ es) d all inside = all.0
above_at n (suc k) (e ∷ es) d all inside = above_at n k es d all.1 (omega (arith, inside))

-- a smaller number is below all too
pub weaken_above : (n m : ℕ) (es : List IndexEntry) → n < m → AllAbove m es → AllAbove n es
weaken_above n m [] less all = tt
weaken_above n m (e ∷ es) less all = (omega (arith, less, all.0), weaken_above n m es less all.1)

-- up to an entry that is below, all are
pub below_through : (n m : ℕ) (es : List IndexEntry) (d : IndexEntry) → Rises es → m < length es → (get_or es m d).number < n → AllBelow n (take (suc m) es)
below_through n m [] d rises inside less = absurd (omega (arith, inside))
below_through n zero (e ∷ es) d rises inside less = (less, tt)
below_through n (suc m) (e ∷ es) d rises inside less =
    let first = above_at e.number m es d rises.0 (omega (arith, inside)) in
    (omega (arith, first, less), below_through n m es d rises.1 (omega (arith, inside)) less)

-- from an entry that is above, all are
pub above_from : (n m : ℕ) (es : List IndexEntry) (d : IndexEntry) → Rises es → m < length es → n < (get_or es m d).number → AllAbove n (drop m es)
above_from n m [] d rises inside less = absurd (omega (arith, inside))
above_from n zero (e ∷ es) d rises inside less = (less, weaken_above n e.number es less rises.0)
above_from n (suc m) (e ∷ es) d rises inside less = above_from n m es d rises.1 (omega (arith, inside)) less

-- before an entry all are below it, and after it all above
below_entry : (m : ℕ) (es : List IndexEntry) (d : IndexEntry) → Rises es → m < length es → AllBelow (get_or es m d).number (take m es)
below_entry m [] d rises inside = absurd (omega (arith, inside))
below_entry zero (e ∷ es) d rises inside = tt
below_entry (suc m) (e ∷ es) d rises inside = (above_at e.number m es d rises.0 (omega (arith, inside)), below_entry m es d rises.1 (omega (arith, inside)))

above_entry : (m : ℕ) (es : List IndexEntry) (d : IndexEntry) → Rises es → m < length es → AllAbove (get_or es m d).number (drop (suc m) es)
above_entry m [] d rises inside = absurd (omega (arith, inside))
above_entry zero (e ∷ es) d rises inside = rises.0
above_entry (suc m) (e ∷ es) d rises inside = above_entry m es d rises.1 (omega (arith, inside))

-- the entry of this number is at this place
pub is_entry_at : (n m : ℕ) (es : List IndexEntry) (d : IndexEntry) → Rises es → m < length es → (get_or es m d).number ≡ n → IsEntryAt es n m
is_entry_at n m es d rises inside own = record {
  front = take m es;
  entry = get_or es m d;
  back = drop (suc m) es;
  split = sym (take-append-drop m es) ∙ ap (λ rest. take m es ++ rest) (drop-cons es m d inside);
  place = length-take m es ∙ omega (arith, min, inside);
  own = own;
  below = subst (λ n. AllBelow n (take m es)) own (below_entry m es d rises inside);
  above = subst (λ n. AllAbove n (drop (suc m) es)) own (above_entry m es d rises inside);
}

-- it would go to this place
pub goes_at : (n m : ℕ) (es : List IndexEntry) → m ≤ length es → AllBelow n (take m es) → AllAbove n (drop m es) → GoesAt es n m
goes_at n m es inside below above = record {
  front = take m es;
  back = drop m es;
  split = sym (take-append-drop m es);
  place = length-take m es ∙ omega (arith, min, inside);
  below = below;
  above = above;
}

-- ---- what is first

apart_below : (q : ℕ) (e : IndexEntry) → e.number < q → (q == e.number) ≡ false
apart_below q e less = ne_eqb q e.number (λ same. omega (arith, less, same))

apart_above : (q : ℕ) (e : IndexEntry) → q < e.number → (q == e.number) ≡ false
apart_above q e less = ne_eqb q e.number (λ same. omega (arith, less, same))

-- nothing is under a number that all are below,
first_place-below : (q : ℕ) (front rest : List IndexEntry) → AllBelow q front → first_place q (front ++ rest) ≡ first_place q rest
first_place-below q [] rest all = refl
first_place-below q (e ∷ front) rest all = ap (λ b. cond b (Some e.first) (first_place q (front ++ rest))) (apart_below q e all.0) ∙ first_place-below q front rest all.1

-- or above
first_place-above : (q : ℕ) (es : List IndexEntry) → AllAbove q es → first_place q es ≡ None
first_place-above q [] all = refl
first_place-above q (e ∷ es) all = ap (λ b. cond b (Some e.first) (first_place q es)) (apart_above q e all.0) ∙ first_place-above q es all.1

-- at the entry of its number it is the entry's
pub first_place-entry : (n at : ℕ) (es : List IndexEntry) (d : IndexEntry) → IsEntryAt es n at → first_place n es ≡ Some (get_or es at d).first
first_place-entry n at es d is =
    let e = is.entry in
    ap (first_place n) is.split ∙ first_place-below n is.front (e ∷ is.back) is.below
    ∙ ap (λ b. cond b (Some e.first) (first_place n is.back)) (eq-eqb n e.number (sym is.own))
    ∙ sym (ap (λ es. Some (get_or es at d).first) is.split ∙ ap (λ x. Some x.first) (get_or_at is.front e is.back d at is.place))

pub entry_inside : (n at : ℕ) (es : List IndexEntry) → IsEntryAt es n at → at < length es
entry_inside n at es is = omega (arith, is.place, ap length is.split, length-append is.front (is.entry ∷ is.back))

-- where its number has no entry there is none
pub first_place-missing : (n at : ℕ) (es : List IndexEntry) → GoesAt es n at → first_place n es ≡ None
first_place-missing n at es is = ap (first_place n) is.split ∙ first_place-below n is.front is.back is.below ∙ first_place-above n is.back is.above

-- ---- one entry more

first_place-more : (q : ℕ) (e : IndexEntry) (front back : List IndexEntry) → AllBelow e.number front → first_place q (front ++ e ∷ back) ≡ cond (q == e.number) (Some e.first) (first_place q (front ++ back))
first_place-more q e [] back below = refl
first_place-more q e (f ∷ front) back below =
    elim (q == e.number) as (λ b. (q == e.number) ≡ b → cond (q == f.number) (Some f.first) (first_place q (front ++ e ∷ back)) ≡ cond b (Some e.first) (cond (q == f.number) (Some f.first) (first_place q (front ++ back)))) [
      | true ↦ λ same.
          let here : q ≡ e.number = eqb-true _ _ same in
          ap (λ b. cond b (Some f.first) (first_place q (front ++ e ∷ back))) (apart_below q f (omega (arith, below.0, here)))
          ∙ first_place-more q e front back below.1 ∙ ap (λ b. cond b (Some e.first) (first_place q (front ++ back))) same
      | false ↦ λ other. ap (cond (q == f.number) (Some f.first)) (first_place-more q e front back below.1 ∙ ap (λ b. cond b (Some e.first) (first_place q (front ++ back))) other)
    ] refl

above_more : (n : ℕ) (e : IndexEntry) (front back : List IndexEntry) → n < e.number → AllAbove n (front ++ back) → AllAbove n (front ++ e ∷ back)
above_more n e [] back less all = (less, all)
above_more n e (f ∷ front) back less all = (all.0, above_more n e front back less all.1)

Rises-more : (e : IndexEntry) (front back : List IndexEntry) → AllBelow e.number front → AllAbove e.number back → Rises (front ++ back) → Rises (front ++ e ∷ back)
Rises-more e [] back below above rises = (above, rises)
Rises-more e (f ∷ front) back below above rises = (above_more f.number e front back below.0 rises.0, Rises-more e front back below.1 above rises.1)

-- the entries with one more at the place where it goes
pub inserted : (n at : ℕ) (es : List IndexEntry) (e : IndexEntry) → Rises es → GoesAt es n at → e.number ≡ n → Rises (take at es ++ e ∷ drop at es) × ((q : ℕ) → first_place q (take at es ++ e ∷ drop at es) ≡ cond (q == n) (Some e.first) (first_place q es))
inserted n at es e rises is own =
    let front : take at es ≡ is.front = ap (take at) is.split ∙ take_at is.front is.back at is.place in
    let back : drop at es ≡ is.back = ap (drop at) is.split ∙ drop_at is.front is.back at is.place in
    let below : AllBelow e.number is.front = subst (λ n. AllBelow n is.front) (sym own) is.below in
    let above : AllAbove e.number is.back = subst (λ n. AllAbove n is.back) (sym own) is.above in
    rw (front, back) (
      Rises-more e is.front is.back below above (subst Rises is.split rises),
      λ q. first_place-more q e is.front is.back below ∙ ap (λ n. cond (q == n) (Some e.first) (first_place q (is.front ++ is.back))) own ∙ ap (λ es. cond (q == n) (Some e.first) (first_place q es)) (sym is.split),
    )

-- ---- one entry less

above_less : (n : ℕ) (e : IndexEntry) (front back : List IndexEntry) → AllAbove n (front ++ e ∷ back) → AllAbove n (front ++ back)
above_less n e [] back all = all.1
above_less n e (f ∷ front) back all = (all.0, above_less n e front back all.1)

Rises-less : (e : IndexEntry) (front back : List IndexEntry) → Rises (front ++ e ∷ back) → Rises (front ++ back)
Rises-less e [] back rises = rises.1
Rises-less e (f ∷ front) back rises = (above_less f.number e front back rises.0, Rises-less e front back rises.1)

-- the entries without that of a number
pub removed : (n at : ℕ) (es : List IndexEntry) → Rises es → IsEntryAt es n at → Rises (take at es ++ drop (suc at) es) × ((q : ℕ) → first_place q (take at es ++ drop (suc at) es) ≡ cond (q == n) None (first_place q es))
removed n at es rises is =
    let e = is.entry in
    let front : take at es ≡ is.front = ap (take at) is.split ∙ take_at is.front (e ∷ is.back) at is.place in
    let back : drop (suc at) es ≡ is.back =
    ap (drop (suc at)) (is.split ∙ sym (append_assoc is.front (e ∷ []) is.back))
    ∙ drop_at (is.front ++ e ∷ []) is.back (suc at) (omega (arith, is.place, length-append is.front (e ∷ []))) in
    let below : AllBelow e.number is.front = subst (λ n. AllBelow n is.front) (sym is.own) is.below in
    let none : first_place n (is.front ++ is.back) ≡ None = first_place-below n is.front is.back is.below ∙ first_place-above n is.back is.above in
    rw (front, back) (
      Rises-less e is.front is.back (subst Rises is.split rises),
      λ q. elim (q == n) as (λ b. (q == n) ≡ b → first_place q (is.front ++ is.back) ≡ cond b None (first_place q es)) [
        | true ↦ λ same. ap (λ q. first_place q (is.front ++ is.back)) (eqb-true _ _ same) ∙ none
        | false ↦ λ other.
            sym (ap (first_place q) is.split ∙ first_place-more q e is.front is.back below
            ∙ ap (λ b. cond b (Some e.first) (first_place q (is.front ++ is.back))) (ap (λ n. q == n) is.own ∙ other))
      ] refl,
    )

-- ---- an entry with another place

Rises-set : (e f : IndexEntry) (front back : List IndexEntry) → f.number ≡ e.number → Rises (front ++ e ∷ back) → Rises (front ++ f ∷ back)
Rises-set e f [] back same rises = (subst (λ n. AllAbove n back) (sym same) rises.0, rises.1)
Rises-set e f (g ∷ front) back same rises = (all front rises.0, Rises-set e f front back same rises.1)
  where
    all : (front : List IndexEntry) → AllAbove g.number (front ++ e ∷ back) → AllAbove g.number (front ++ f ∷ back)
    all [] above = (subst (λ n. g.number < n) (sym same) above.0, above.1)
    all (h ∷ front) above = (above.0, all front above.1)

pub first_set : (n at : ℕ) (es : List IndexEntry) (f : IndexEntry) → Rises es → IsEntryAt es n at → f.number ≡ n → Rises (set es at f) × ((q : ℕ) → first_place q (set es at f) ≡ cond (q == n) (Some f.first) (first_place q es))
first_set n at es f rises is own =
    let e = is.entry in
    let whole : set es at f ≡ is.front ++ f ∷ is.back = ap (λ es. set es at f) is.split ∙ set_at is.front e is.back f at is.place in
    let below : AllBelow f.number is.front = subst (λ n. AllBelow n is.front) (sym own) is.below in
    let below_e : AllBelow e.number is.front = subst (λ n. AllBelow n is.front) (sym is.own) is.below in
    rw whole (
      Rises-set e f is.front is.back (own ∙ sym is.own) (subst Rises is.split rises),
      λ q. first_place-more q f is.front is.back below ∙ ap (λ m. cond (q == m) (Some f.first) (first_place q (is.front ++ is.back))) own
          ∙ elim (q == n) as (λ b. (q == n) ≡ b → cond b (Some f.first) (first_place q (is.front ++ is.back)) ≡ cond b (Some f.first) (first_place q es)) [
            | true ↦ λ _. refl
            | false ↦ λ other.
                sym (ap (first_place q) is.split ∙ first_place-more q e is.front is.back below_e
                ∙ ap (λ b. cond b (Some e.first) (first_place q (is.front ++ is.back))) (ap (λ n. q == n) is.own ∙ other))
          ] refl,
    )

-- ---- what a search costs

-- a step at least halves what is left
pub cost_step : (p more m half n : ℕ) → more ≤ 2 * p → 1 ≤ m → 2 * half ≤ m → p * m ≤ n → (more * half ≤ n) × (more ≤ 2 * n + 1)
cost_step p more m half n few some halved so_far =
    let one : more * half ≤ 2 * p * half = mul-le-mul_right half few in
    let two : p * (2 * half) ≤ p * m = mul-le-mul_left p halved in
    let same : 2 * p * half ≡ p * (2 * half) = grind arith in
    let least : p * 1 ≤ p * m = mul-le-mul_left p some in
    let unit : p * 1 ≡ p = grind arith in
    (omega (arith, one, two, same, so_far), omega (arith, few, least, unit, so_far))

-- one more step at most doubles
pub pow_step : (old now new : ℕ) → new ≤ now + 1 → 2 ^ (new - old) ≤ 2 * 2 ^ (now - old)
pow_step old now new few =
    let more : 2 ^ (new - old) ≤ 2 ^ suc (now - old) = pow_mono (omega (arith, few)) in
    omega (arith, more, pow-suc 2 (now - old))
