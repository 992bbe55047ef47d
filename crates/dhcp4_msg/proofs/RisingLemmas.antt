-- Entries whose keys rise, found key by key.
use Rattle.std.proofs.Common.{◌≡◌, ◌≢◌, ℕ, suc, ◌+◌, ◌<◌, ◌≤◌, Bool, true, false, ◌==◌, ◌&&◌, cond, ltb, List, [], ◌∷◌, length, get_or, IsTrue, Option, Some, None, filter_map, refl, sym, ap, subst, ◌∙◌, arith, le_refl}
use Rattle.std.specs.List.{cons_option}
use Rattle.std.specs.Map.{values_of}
use Rattle.std.specs.Option.{option_eq}
use Rattle.std.specs.Cmp.{unsigned_tied}
use Rattle.std.specs.Cmp.Lexicographic.{pointwise}
use Rattle.std.specs.Ordering.{nat_cmp}
use Rattle.std.specs.FinMap.{find, is_sorted}
use Rattle.std.specs.FinMap.Entries.{below_all}
use Rattle.std.proofs.lemmas.Bool.{and_parts, and_from, eqb-true, eq-eqb, ne_eqb, ltb-true, ltb-false, false≢true}
use Rattle.std.proofs.lemmas.Option.{none-some}
use Rattle.dhcp4_msg.proofs.OptionsLaw.{is_below}

module _ {X : Type 0} where
  -- keys that rise, from one number on and below another
  abbrev pub Rising : ℕ → ℕ → List (ℕ × X) → Type 0
  Rising least end [] = Unit {0}
  Rising least end (e ∷ es) = (least ≤ e.0) × (e.0 < end) × Rising (e.0 + 1) end es

  -- a key that is not the first is looked for among the others
  find_other : (q : ℕ) (e : ℕ × X) (es : List (ℕ × X)) → q ≢ e.0 → find nat_cmp q (e ∷ es) ≡ find nat_cmp q es
  find_other q e es apart = ap (λ b. cond b (Some e.1) (find nat_cmp q es)) (unsigned_tied q e.0 ∙ ne_eqb q e.0 apart)

  -- the first is found at its key
  find_here : (q : ℕ) (e : ℕ × X) (es : List (ℕ × X)) → q ≡ e.0 → find nat_cmp q (e ∷ es) ≡ Some e.1
  find_here q e es same = ap (λ b. cond b (Some e.1) (find nat_cmp q es)) (unsigned_tied q e.0 ∙ eq-eqb q e.0 same)

  -- below the first key none is found
  find_before : (least end q : ℕ) (es : List (ℕ × X)) → Rising least end es → q < least → find nat_cmp q es ≡ None
  find_before least end q [] rises below = refl
  find_before least end q (e ∷ es) rises below =
      let from = rises.0 in
      find_other q e es (λ same. let less : q < e.0 = omega arith in absurd (omega (arith, same)))
      ∙ find_before (e.0 + 1) end q es rises.2 (omega arith)

  -- keys that rise and are all below a number
  pub Rising-is_sorted : (least end : ℕ) (es : List (ℕ × X)) → IsTrue (is_sorted nat_cmp es) → ((q : ℕ) (v : X) → find nat_cmp q es ≡ Some v → (least ≤ q) × (q < end)) → Rising least end es
  Rising-is_sorted least end [] sorted within = tt
  Rising-is_sorted least end (e ∷ es) sorted within =
      let parts = and_parts _ _ sorted in
      let first = within e.0 e.1 (find_here e.0 e es refl) in (
        first.0,
        first.1,
        Rising-is_sorted (e.0 + 1) end es parts.1 (λ q v is.
            let above = found_above e.0 es q v parts.0 is in
            let last = within q v (find_other q e es (λ same. absurd (omega (arith, same, above))) ∙ is) in
            (omega (arith, above), last.1)),
      )
    where
      found_above : (k : ℕ) (es : List (ℕ × X)) (q : ℕ) (v : X) → IsTrue (below_all nat_cmp k es) → find nat_cmp q es ≡ Some v → k < q
      found_above k [] q v below is = absurd (none-some _ is)
      found_above k (e ∷ es) q v below is =
          let parts = and_parts _ _ below in
          elim (q == e.0) as (λ b. (q == e.0) ≡ b → k < q) [
            | true ↦ λ same. subst (λ n. k < n) (sym (eqb-true _ _ same)) (is_below k e.0 parts.0)
            | false ↦ λ other. found_above k es q v parts.1 (sym (find_other q e es (λ same. false≢true (sym other ∙ eq-eqb q e.0 same))) ∙ is)
          ] refl

  -- the values of rising entries, found key by key
  pub values_of-rising : {P : Type 0} (at : P → Option X) (places : List P) (least : ℕ) (es : List (ℕ × X)) → Rising least (least + length places) es → ((i : ℕ) (d : P) → i < length places → at (get_or places i d) ≡ find nat_cmp (least + i) es) → filter_map at places ≡ values_of es
  values_of-rising at [] least [] rises same = refl
  values_of-rising at [] least (e ∷ es) rises same = let from = rises.0 in let below = rises.1 in absurd (omega arith)
  values_of-rising at (place ∷ places) least [] rises same =
      ap (λ found. cons_option found (filter_map at places)) (same 0 place (omega arith))
      ∙ values_of-rising at places (least + 1) [] tt (λ i d inside. same (suc i) d (omega arith))
  values_of-rising at (place ∷ places) least (e ∷ es) rises same =
      let first : at place ≡ find nat_cmp (least + 0) (e ∷ es) = same 0 place (omega arith) in
      let from = rises.0 in
      elim (least == e.0) as (λ b. (least == e.0) ≡ b → filter_map at (place ∷ places) ≡ values_of (e ∷ es)) [
        | true ↦ λ here.
            let is : least ≡ e.0 = eqb-true _ _ here in
            let zero_more : least + 0 ≡ e.0 = omega (arith, is) in
            let ends : least + length (place ∷ places) ≡ (least + 1) + length places = omega arith in
            ap (λ found. cons_option found (filter_map at places)) (first ∙ find_here (least + 0) e es zero_more)
            ∙ ap (λ later. e.1 ∷ later) (values_of-rising at places (least + 1) es
            (subst (λ n. Rising n ((least + 1) + length places) es) (ap (λ n. n + 1) (sym is)) (subst (λ n. Rising (e.0 + 1) n es) ends rises.2))
            (λ i d inside.
            let after : least + suc i ≡ (least + 1) + i = omega arith in
            same (suc i) d (omega arith) ∙ find_other (least + suc i) e es (λ same. absurd (omega (arith, same, is)))
            ∙ ap (λ q. find nat_cmp q es) after))
        | false ↦ λ other.
            let apart : least ≢ e.0 = λ is. false≢true (sym other ∙ eq-eqb least e.0 is) in
            let above : least + 1 ≤ e.0 = omega (arith, apart) in
            let ends : least + length (place ∷ places) ≡ (least + 1) + length places = omega arith in
            ap (λ found. cons_option found (filter_map at places))
            (first ∙ find_other (least + 0) e es (λ is. apart (omega (arith, is))) ∙ find_before (e.0 + 1) _ (least + 0) es rises.2 (omega arith))
            ∙ values_of-rising at places (least + 1) (e ∷ es)
            (above, subst (λ n. e.0 < n) ends rises.1, subst (λ n. Rising (e.0 + 1) n es) ends rises.2)
            (λ i d inside.
            let after : least + suc i ≡ (least + 1) + i = omega arith in
            same (suc i) d (omega arith) ∙ ap (λ q. find nat_cmp q (e ∷ es)) after)
      ] refl

  -- entries are equal in pairs, by a test of their values
  abbrev pub pairs_eq : (X → X → Bool) → List (ℕ × X) → List (ℕ × X) → Bool
  pairs_eq eq xs ys = pointwise (λ p q. (p.0 == q.0) && eq p.1 q.1) xs ys

  -- entries that are equal in pairs are equal at each key
  pub equal_at : (eq : X → X → Bool) (xs ys : List (ℕ × X)) (q : ℕ) → pairs_eq eq xs ys ≡ true → option_eq eq (find nat_cmp q xs) (find nat_cmp q ys) ≡ true
  equal_at eq [] [] q is = refl
  equal_at eq [] (y ∷ ys) q is = absurd (false≢true is)
  equal_at eq (x ∷ xs) [] q is = absurd (false≢true is)
  equal_at eq (x ∷ xs) (y ∷ ys) q is =
      let parts = and_parts _ _ is in
      let first = and_parts _ _ parts.0 in
      let same : x.0 ≡ y.0 = eqb-true _ _ first.0 in
      elim (q == x.0) as (λ b. (q == x.0) ≡ b → option_eq eq (find nat_cmp q (x ∷ xs)) (find nat_cmp q (y ∷ ys)) ≡ true) [
        | true ↦ λ at.
            let here = eqb-true _ _ at in
            rw (find_here q x xs here, find_here q y ys (here ∙ same)) first.1
        | false ↦ λ other.
            let apart : q ≢ x.0 = λ here. false≢true (sym other ∙ eq-eqb q x.0 here) in
            rw (find_other q x xs apart, find_other q y ys (λ here. apart (here ∙ sym same))) (equal_at eq xs ys q parts.1)
      ] refl

  -- rising entries that are equal at each key are equal in pairs
  pub equal_in_pairs : (eq : X → X → Bool) (least end : ℕ) (xs ys : List (ℕ × X)) → Rising least end xs → Rising least end ys → ((q : ℕ) → option_eq eq (find nat_cmp q xs) (find nat_cmp q ys) ≡ true) → pairs_eq eq xs ys ≡ true
  equal_in_pairs eq least end [] [] one other at = refl
  equal_in_pairs eq least end [] (y ∷ ys) one other at =
      absurd (false≢true (sym (ap (option_eq eq None) (find_here y.0 y ys refl)) ∙ at y.0))
  equal_in_pairs eq least end (x ∷ xs) [] one other at =
      absurd (false≢true (sym (ap (λ found. option_eq eq found None) (find_here x.0 x xs refl)) ∙ at x.0))
  equal_in_pairs eq least end (x ∷ xs) (y ∷ ys) one other at =
      elim (x.0 == y.0) as (λ b. (x.0 == y.0) ≡ b → pairs_eq eq (x ∷ xs) (y ∷ ys) ≡ true) [
        | true ↦ λ is.
            let same : x.0 ≡ y.0 = eqb-true _ _ is in
            let first : eq x.1 y.1 ≡ true = rw (find_here x.0 x xs refl, find_here x.0 y ys same) at (at x.0) in
            and_from _ _ (and_from _ _ is first) (equal_in_pairs eq (x.0 + 1) end xs ys one.2 (subst (λ n. Rising (n + 1) end ys) (sym same) other.2) (λ q.
            later q x y xs ys one.2 other.2 same (at q)))
        | false ↦ λ is. absurd (apart x y xs ys one other (λ same. false≢true (sym is ∙ eq-eqb x.0 y.0 same)) at)
      ] refl
    where
      later : (q : ℕ) (x y : ℕ × X) (xs ys : List (ℕ × X)) → Rising (x.0 + 1) end xs → Rising (y.0 + 1) end ys → x.0 ≡ y.0 → option_eq eq (find nat_cmp q (x ∷ xs)) (find nat_cmp q (y ∷ ys)) ≡ true → option_eq eq (find nat_cmp q xs) (find nat_cmp q ys) ≡ true
      later q x y xs ys one other same is =
          elim (q == x.0) as (λ b. (q == x.0) ≡ b → option_eq eq (find nat_cmp q xs) (find nat_cmp q ys) ≡ true) [
            | true ↦ λ at.
                let here = eqb-true _ _ at in
                rw (find_before (x.0 + 1) end q xs one (omega (arith, here)), find_before (y.0 + 1) end q ys other (omega (arith, here, same))) refl
            | false ↦ λ no.
                let apart : q ≢ x.0 = λ here. false≢true (sym no ∙ eq-eqb q x.0 here) in
                rw (find_other q x xs apart, find_other q y ys (λ here. apart (here ∙ sym same))) at is
          ] refl

      apart : (x y : ℕ × X) (xs ys : List (ℕ × X)) → Rising least end (x ∷ xs) → Rising least end (y ∷ ys) → x.0 ≢ y.0 → ((q : ℕ) → option_eq eq (find nat_cmp q (x ∷ xs)) (find nat_cmp q (y ∷ ys)) ≡ true) → ⊥
      apart x y xs ys one other differ at =
          elim (ltb x.0 y.0) as (λ b. ltb x.0 y.0 ≡ b → ⊥) [
            | true ↦ λ less.
                let below = ltb-true _ _ less in
                false≢true (rw (find_here x.0 x xs refl, find_before y.0 end x.0 (y ∷ ys) (le_refl y.0, other.1, other.2) below) at (at x.0))
            | false ↦ λ more.
                let least_y = ltb-false _ _ more in
                let below : y.0 < x.0 = omega (arith, least_y, differ) in
                false≢true (rw (find_here y.0 y ys refl, find_before x.0 end y.0 (x ∷ xs) (le_refl x.0, one.1, one.2) below) at (at y.0))
          ] refl
