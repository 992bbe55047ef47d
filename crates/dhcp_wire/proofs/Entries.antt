-- Entries in rising order, as a map of std keeps them, against the finite map that they are seen as.
use Rattle.std.proofs.Common.{◌≡◌, ℕ, Bool, true, false, cond, T, List, [], ◌∷◌, length, IsTrue, Some, refl, sym, ap, subst, ◌∙◌}
use Rattle.std.specs.declared.cmp.Ordering.TheVariants.{Less, Equal, Greater}
use Rattle.std.specs.Ordering.{nat_cmp, match_ordering, is_eq}
use Rattle.std.specs.Cmp.{nat_cmp_total}
use Rattle.std.specs.List.{list_all}
use Rattle.std.specs.Map.{lookup, values_of}
use Rattle.std.specs.BTreeMap.{insert_entry, is_at}
use Rattle.std.specs.FinMap as map
use Rattle.std.specs.FinMap.{is_sorted, put, find, nat_cmp-IsAntisymmetric}
use Rattle.std.specs.FinMap.Entries.{is_sorted-put}
use Rattle.std.proofs.lemmas.Bool.{and_parts, and_from}
use Rattle.std.proofs.lemmas.Option.{none-some, same_Some}

-- a test that passes, in both spellings
pub passes : (b : Bool) → b ≡ true → T b
passes b is = subst T (sym is) tt

pub is_passed : (b : Bool) → T b → b ≡ true
is_passed true holds = refl
is_passed false holds = absurd holds

module _ {X : Type 0} where
  -- an entry goes to its place in the same way in both
  pub put-insert_entry : (k : ℕ) (v : X) (es : List (ℕ × X)) → put nat_cmp k v es ≡ insert_entry nat_cmp es k v
  put-insert_entry k v [] = refl
  put-insert_entry k v (e ∷ es) =
      elim (nat_cmp k e.0) as (λ r. map.Entries.by_order r ((k, v) ∷ e ∷ es) ((e.0, v) ∷ es) (e ∷ put nat_cmp k v es) ≡ match_ordering r ((k, v) ∷ e ∷ es) ((e.0, v) ∷ es) (e ∷ insert_entry nat_cmp es k v)) [
        | Less ↦ refl
        | Equal ↦ refl
        | Greater ↦ ap (λ rest. e ∷ rest) (put-insert_entry k v es)
      ]

  -- the value at a key is found in the same way in both
  pub find-lookup : (q : ℕ) (es : List (ℕ × X)) → find nat_cmp q es ≡ lookup (is_at (nat_cmp q)) es
  find-lookup q [] = refl
  find-lookup q (e ∷ es) = ap (cond (is_eq (nat_cmp q e.0)) (Some e.1)) (find-lookup q es)

  -- the keys still rise after an insertion
  pub is_sorted-insert_entry : (es : List (ℕ × X)) (k : ℕ) (v : X) → IsTrue (is_sorted nat_cmp es) → IsTrue (is_sorted nat_cmp (insert_entry nat_cmp es k v))
  is_sorted-insert_entry es k v rises =
      is_passed _ (subst (λ list. T (is_sorted nat_cmp list)) (put-insert_entry k v es) (is_sorted-put nat_cmp nat_cmp_total k v es (passes _ rises)))

  -- each entry still passes a test after the insertion of one that passes it
  pub list_all-insert_entry : (test : ℕ × X → Bool) (es : List (ℕ × X)) (k : ℕ) (v : X) → IsTrue (list_all test es) → IsTrue (test (k, v)) → IsTrue (list_all test (insert_entry nat_cmp es k v))
  list_all-insert_entry test [] k v all holds = and_from _ _ holds refl
  list_all-insert_entry test (e ∷ es) k v all holds =
      let parts = and_parts _ _ all in
      elim (nat_cmp k e.0) as (λ r. nat_cmp k e.0 ≡ r → IsTrue (list_all test (match_ordering r ((k, v) ∷ e ∷ es) ((e.0, v) ∷ es) (e ∷ insert_entry nat_cmp es k v)))) [
        | Less ↦ λ is. and_from _ _ holds all
        | Equal ↦ λ is. and_from _ _ (subst (λ key. IsTrue (test (key, v))) (nat_cmp-IsAntisymmetric k e.0 is) holds) parts.1
        | Greater ↦ λ is. and_from _ _ parts.0 (list_all-insert_entry test es k v parts.1 holds)
      ] refl

  -- the finite map of rising entries with one more is that map with it inserted
  pub from_sorted-insert_entry : (es : List (ℕ × X)) (k : ℕ) (v : X) → IsTrue (is_sorted nat_cmp es) → map.from_sorted {R = nat_cmp} (insert_entry nat_cmp es k v) ≡ map.insert (map.from_sorted es) k v
  from_sorted-insert_entry es k v rises =
      let before = map.entries-from_sorted nat_cmp es (passes _ rises) in
      let after = map.entries-from_sorted nat_cmp _ (passes _ (is_sorted-insert_entry es k v rises)) in
      map.same_entries_map _ _ (after ∙ sym (map.entries-insert nat_cmp_total (map.from_sorted es) k v ∙ ap (put nat_cmp k v) before ∙ put-insert_entry k v es))

  -- the finite map of rising entries has at a key what is found there
  pub get-from_sorted-lookup : (es : List (ℕ × X)) (q : ℕ) → IsTrue (is_sorted nat_cmp es) → map.get (map.from_sorted {R = nat_cmp} es) q ≡ lookup (is_at (nat_cmp q)) es
  get-from_sorted-lookup es q rises = map.get-from_sorted nat_cmp es q (passes _ rises) ∙ find-lookup q es

  -- no entries are the empty map
  pub from_sorted-nil : map.from_sorted {K = ℕ} {X = X} {R = nat_cmp} [] ≡ map.empty
  from_sorted-nil = map.empty_of_len _ (map.len-entries _ ∙ ap length (map.entries-from_sorted nat_cmp [] tt))

  -- the values of the finite map of rising entries
  pub values-from_sorted : (es : List (ℕ × X)) → IsTrue (is_sorted nat_cmp es) → map.values (map.from_sorted {R = nat_cmp} es) ≡ values_of es
  values-from_sorted es rises = ap values_of (map.entries-from_sorted nat_cmp es (passes _ rises))

  -- what is found passes what all entries pass
  pub list_all-lookup : (test : ℕ → Bool) (pass : ℕ × X → Bool) (es : List (ℕ × X)) (v : X) → IsTrue (list_all pass es) → lookup test es ≡ Some v → (k : ℕ) × IsTrue (pass (k, v))
  list_all-lookup test pass [] v all is = absurd (none-some v is)
  list_all-lookup test pass (e ∷ es) v all is =
      let parts = and_parts _ _ all in
      elim (test e.0) as (λ b. cond b (Some e.1) (lookup test es) ≡ Some v → (k : ℕ) × IsTrue (pass (k, v))) [
        | true ↦ λ found. (e.0, subst (λ value. IsTrue (pass (e.0, value))) (same_Some _ _ found) parts.0)
        | false ↦ λ found. list_all-lookup test pass es v parts.1 found
      ] is
