-- Codecs of some of the values, and of a whole text.
use Rattle.std.proofs.Common.{◌≡◌, ℕ, eqb, Bool, true, false, cond, List, [], ◌∷◌, ◌++◌, length, Option, Some, None, refl, sym, ap, ◌∙◌, append-nil, arith}
use Rattle.std.proofs.lemmas.Bool.{eqb-true}
use Rattle.dhcp_wire.specs.Field.{Read, ◌>>=◌}
use Rattle.dhcp_stream.specs.TextReader.{made_of}
use Rattle.dhcp_stream.proofs.CodecLaws.{IsCodec, IsValue, bind_some, map_some, moved}

-- the values of which a test is false
pub IsCodec-unless : {A : Type 0} {print : A → List ℕ} {Fits : A → Type 0} {read : List ℕ → Read A} → IsCodec print Fits read → (test : A → Bool)
    → IsCodec print (λ x. Fits x × (test x ≡ false)) (λ text. read text >>= λ found. cond (test found.0) None (Some found))
IsCodec-unless {A} {print} {Fits} {read} is test = record {
  sound = λ text x rest h.
      let step = bind_some (read text) (λ (found : A × List ℕ). cond (test found.0) None (Some found)) (x, rest) h in
      let passes = if_none (test step.0.0) step.0 (x, rest) step.2 in
      let same : step.0.0 ≡ x = ap (λ (p : A × List ℕ). p.0) passes.1 in
      let more : step.0.1 ≡ rest = ap (λ (p : A × List ℕ). p.1) passes.1 in
      let one = is.sound text step.0.0 step.0.1 step.1 in
      moved (λ x rest. (text ≡ print x ++ rest) × (Fits x × (test x ≡ false))) step.0.0 x step.0.1 rest same more (one.0, (one.1, passes.0));
  complete = λ x rest fits.
      rw (is.complete x rest fits.0, fits.1) refl;
}
  where
    if_none : {B : Type 0} (b : Bool) (x y : B) → cond b None (Some x) ≡ Some y → (b ≡ false) × (x ≡ y)
    if_none true x y e = cc e
    if_none false x y e = (refl, cc)

-- a value that is made of what is read, where not every value is
pub IsCodec-made_of_some : {A B : Type 0} {print : A → List ℕ} {Fits : A → Type 0} {read : List ℕ → Read A} → IsCodec print Fits read
    → (make : A → B) (take_apart : B → A) (IsMade : B → Type 0) → ((x : A) → take_apart (make x) ≡ x) → ((x : A) → Fits x → IsMade (make x))
    → ((y : B) → IsMade y → Fits (take_apart y) × (make (take_apart y) ≡ y))
    → IsCodec (λ y. print (take_apart y)) IsMade (made_of make read)
IsCodec-made_of_some {A} {B} {print} {Fits} {read} is make take_apart IsMade there made_so back = record {
  sound = λ text y rest h.
      let step = map_some (λ (x : A × List ℕ). (make x.0, x.1)) (read text) (y, rest) h in
      let made : make step.0.0 ≡ y = ap (λ (p : B × List ℕ). p.0) step.2 in
      let left : step.0.1 ≡ rest = ap (λ (p : B × List ℕ). p.1) step.2 in
      let one = is.sound text step.0.0 step.0.1 step.1 in
      moved (λ y rest. (text ≡ print (take_apart y) ++ rest) × IsMade y) (make step.0.0) y step.0.1 rest made left
      (one.0 ∙ ap (λ x. print x ++ step.0.1) (sym (there step.0.0)), made_so step.0.0 one.1);
  complete = λ y rest is_made.
      let parts = back y is_made in
      rw (is.complete (take_apart y) rest parts.0, parts.1) refl;
}

-- what is read, if it is the whole text
abbrev pub whole_of : {A : Type 0} → (List ℕ → Read A) → List ℕ → Option A
whole_of read text = read text >>= λ found. cond (eqb (length found.1) 0) (Some found.0) None

pub IsValue-whole : {A : Type 0} {print : A → List ℕ} {Fits : A → Type 0} {read : List ℕ → Read A} → IsCodec print Fits read → IsValue print Fits (whole_of read)
IsValue-whole {A} {print} {Fits} {read} is = record {
  sound = λ text x h.
      let step = bind_some (read text) (λ (found : A × List ℕ). cond (eqb (length found.1) 0) (Some found.0) None) x h in
      let whole = if_some (eqb (length step.0.1) 0) step.0.0 x step.2 in
      let one = is.sound text step.0.0 step.0.1 step.1 in
      let none : step.0.1 ≡ [] = empty step.0.1 (eqb-true (length step.0.1) 0 whole.0) in
      rw (← whole.1) (sym (one.0 ∙ ap (λ rest. print step.0.0 ++ rest) none ∙ append-nil (print step.0.0)), one.1);
  complete = λ x fits.
      ap (whole_of read) (sym (append-nil (print x))) ∙ at_end (print x ++ []) x (is.complete x [] fits);
}
  where
    at_end : (text : List ℕ) (x : A) → read text ≡ Some (x, []) → whole_of read text ≡ Some x
    at_end text x h = rw h refl

    if_some : (b : Bool) (x y : A) → cond b (Some x) None ≡ Some y → (b ≡ true) × (x ≡ y)
    if_some true x y e = (refl, cc)
    if_some false x y e = cc e

    empty : (rest : List ℕ) → length rest ≡ 0 → rest ≡ []
    empty [] e = refl
    empty (byte ∷ rest) e = absurd (omega arith)

-- what the reader of a whole text returns is a reading, and the one value that has the text
module _ {A : Type 0} {print : A → List ℕ} {Fits : A → Type 0} {value : List ℕ → Option A} (is : IsValue print Fits value) where
  pub none-found : (text : List ℕ) → value text ≡ None → (x : A) → Fits x → print x ≡ text → ⊥
  none-found text h x fits e =
      let found : None ≡ Some x = sym h ∙ ap value (sym e) ∙ is.complete x fits in
      cc found

  pub one-found : (text : List ℕ) (found x : A) → value text ≡ Some found → Fits x → print x ≡ text → Some found ≡ Some x
  one-found text found x h fits e = sym h ∙ ap value (sym e) ∙ is.complete x fits
