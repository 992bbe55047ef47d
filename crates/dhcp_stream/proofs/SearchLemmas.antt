-- What a search for a byte and a comparison of slices tell.
use Rattle.std.proofs.Common.{◌≡◌, ℕ, zero, suc, ◌+◌, ◌-◌, ◌≤◌, Bool, true, false, not, ◌||◌, cond, ltb, List, [], ◌∷◌, ◌++◌, length, take, drop, get_or, Some, None, refl, sym, ap, ◌∙◌, length-append, length-drop, arith}
use Rattle.std.specs.Prelude.{position}
use Rattle.std.specs.List.{list_any, position_or_len}
use Rattle.std.specs.Str.{bytes_eq}
use Rattle.std.proofs.lemmas.Bool.{false≢true, ltb-false}
use Rattle.std.proofs.lemmas.Bool.Decides.{Decides-eqb}
use Rattle.std.proofs.lemmas.Slice.Eq.{slice_eq-Decides}
use Rattle.std.proofs.lemmas.List.{drop-drop, get_or_at}
use Rattle.std.proofs.lemmas.List.Sums.{prefix_len_passes}

-- a choice that is none
none_if : (b : Bool) (x : ℕ) → cond b (Some x) None ≡ None → b ≡ false
none_if true x e = cc e
none_if false x e = refl

-- a byte that passes has a position
pub position-found : (p : ℕ → Bool) (front : List ℕ) (x : ℕ) (rest : List ℕ) → p x ≡ true → position p (front ++ x ∷ rest) ≡ None → ⊥
position-found p front x rest pass e =
    let text = front ++ x ∷ rest in
    let at_end : length text ≤ position_or_len p text = ltb-false (position_or_len p text) (length text)
    (none_if (ltb (position_or_len p text) (length text)) (position_or_len p text) e) in
    let long = length-append front (x ∷ rest) in
    let passes = prefix_len_passes (λ y. not (p y)) text (length front) 0 (omega (arith, long)) in
    let here : get_or text (length front) 0 ≡ x = get_or_at front x rest 0 (length front) refl in
    false≢true (rw (here, pass) at passes)

-- a search goes on after a front in which none passes
position_past : (p : ℕ → Bool) (xs : List ℕ) (n : ℕ) → n ≤ length xs → list_any p (take n xs) ≡ false → position_or_len p xs ≡ n + position_or_len p (drop n xs)
position_past p xs zero fits none = omega arith
position_past p [] (suc n) fits none = absurd (omega arith)
position_past p (x ∷ xs) (suc n) fits none = next (p x) none (position_past p xs n (omega arith))
  where
    next : (b : Bool) → (b || list_any p (take n xs)) ≡ false → (list_any p (take n xs) ≡ false → position_or_len p xs ≡ n + position_or_len p (drop n xs)) → cond (not b) (1 + position_or_len p xs) 0 ≡ suc n + position_or_len p (drop n xs)
    next true none later = absurd (false≢true (sym none))
    next false none later = let rest = later none in omega (arith, rest)

-- a search that has passed the bytes up to a place passes those up to a later place, if none passes there
pub position_past_piece : (p : ℕ → Bool) (xs : List ℕ) (from to : ℕ) → from ≤ to → to ≤ length xs → list_any p (take (to - from) (drop from xs)) ≡ false
    → position_or_len p xs ≡ from + position_or_len p (drop from xs) → position_or_len p xs ≡ to + position_or_len p (drop to xs)
position_past_piece p xs from to order fits none before =
    let long = length-drop from xs in
    let past = position_past p (drop from xs) (to - from) (omega (arith, long)) none in
    let end : from + (to - from) ≡ to = omega arith in
    let left : drop (to - from) (drop from xs) ≡ drop to xs = drop-drop (to - from) from xs ∙ ap (λ (place : ℕ). drop place xs) end in
    omega (arith, before, rw left at past)

-- two slices that do not test as equal differ
pub not_equal : (xs ys zs : List ℕ) (r : Bool) → r ≡ bytes_eq xs ys → ys ≡ zs → r ≡ false → xs ≡ zs → ⊥
not_equal xs ys zs r test same differ e = false≢true (sym differ ∙ (slice_eq-Decides Decides-eqb xs ys r test).1 (e ∙ sym same))
