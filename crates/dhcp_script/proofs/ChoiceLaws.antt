-- What is read in one of two ways, by what the text begins with, is read in one way alone.
use Rattle.std.proofs.Common.{◌≡◌, ℕ, List, ◌++◌, Some, None, refl, subst, ap, ◌∙◌, ◌⊎◌, inl, inr}
use Rattle.dhcp_wire.specs.Field.{Read, ◌>>=◌}
use Rattle.dhcp_stream.specs.TextReader.{made_of}
use Rattle.dhcp_stream.proofs.CodecLaws.{IsCodec, map_some, moved}
use Rattle.dhcp_script.specs.FieldReader.{if_tag}

-- what is read after the tag
front : {A B C : Type 0} (tag_in : List ℕ → Read (Unit {0})) (read : List ℕ → Read A) (other : List ℕ → Read B) (make : A → C) (make_other : B → C) (text : List ℕ) (x : A) (rest : List ℕ) →
    (tag_in text >>= λ found. read found.1) ≡ Some (x, rest) → if_tag (tag_in text) (made_of make read) (made_of make_other other text) ≡ Some (make x, rest)
front {A = A} {C = C} tag_in read other make make_other text x rest whole = by_tag (tag_in text) whole
  where
    by_tag : (tag : Read (Unit {0})) → (tag >>= λ found. read found.1) ≡ Some (x, rest) → if_tag tag (made_of make read) (made_of make_other other text) ≡ Some (make x, rest)
    by_tag None whole = cc whole
    by_tag (Some found) whole = rw whole

-- A value is made of what is read after a tag, or else of what is read in another way; a text of the second way has no tag.
module _ {A B C : Type 0} (print : C → List ℕ) (Fits : C → Type 0) (tag_in : List ℕ → Read (Unit {0})) (read : List ℕ → Read A) (other : List ℕ → Read B) (make : A → C) (make_other : B → C)
    (first : IsCodec (λ x. print (make x)) (λ x. Fits (make x)) (λ text. tag_in text >>= λ found. read found.1))
    (second : IsCodec (λ y. print (make_other y)) (λ y. Fits (make_other y)) other)
    (apart : (y : B) (rest : List ℕ) → tag_in (print (make_other y) ++ rest) ≡ None)
    (either : (z : C) → ((x : A) × (make x ≡ z)) ⊎ ((y : B) × (make_other y ≡ z))) where
  abbrev choose : List ℕ → Read C
  choose text = if_tag (tag_in text) (made_of make read) (made_of make_other other text)

  complete : (z : C) (rest : List ℕ) → Fits z → choose (print z ++ rest) ≡ Some (z, rest)
  complete z rest fits = by_way (either z)
    where
      Reads : C → Type 0
      Reads z = Fits z → choose (print z ++ rest) ≡ Some (z, rest)

      after_tag : (x : A) → Reads (make x)
      after_tag x fits = front tag_in read other make make_other (print (make x) ++ rest) x rest (first.complete x rest fits)

      without : (y : B) → Reads (make_other y)
      without y fits = rw (apart y rest, second.complete y rest fits)

      by_way : ((x : A) × (make x ≡ z)) ⊎ ((y : B) × (make_other y ≡ z)) → choose (print z ++ rest) ≡ Some (z, rest)
      by_way (inl way) = subst Reads way.1 (after_tag way.0) fits
      by_way (inr way) = subst Reads way.1 (without way.0) fits

  sound : (text : List ℕ) (z : C) (rest : List ℕ) → choose text ≡ Some (z, rest) → (text ≡ print z ++ rest) × Fits z
  sound text z rest h = by_tag (tag_in text) refl h
    where
      Is : C → List ℕ → Type 0
      Is z rest = (text ≡ print z ++ rest) × Fits z

      by_tag : (tag : Read (Unit {0})) → tag_in text ≡ tag → if_tag tag (made_of make read) (made_of make_other other text) ≡ Some (z, rest) → Is z rest
      by_tag (Some found) is h =
          let step = map_some (λ (read : A × List ℕ). (make read.0, read.1)) (read found.1) (z, rest) h in
          let made : make step.0.0 ≡ z = ap (λ (p : C × List ℕ). p.0) step.2 in
          let more : step.0.1 ≡ rest = ap (λ (p : C × List ℕ). p.1) step.2 in
          moved Is (make step.0.0) z step.0.1 rest made more (first.sound text step.0.0 step.0.1 (ap (λ (tag : Read (Unit {0})). tag >>= λ found. read found.1) is ∙ step.1))
      by_tag None is h =
          let step = map_some (λ (read : B × List ℕ). (make_other read.0, read.1)) (other text) (z, rest) h in
          let made : make_other step.0.0 ≡ z = ap (λ (p : C × List ℕ). p.0) step.2 in
          let more : step.0.1 ≡ rest = ap (λ (p : C × List ℕ). p.1) step.2 in
          moved Is (make_other step.0.0) z step.0.1 rest made more (second.sound text step.0.0 step.0.1 step.1)

  pub IsCodec-choice : IsCodec print Fits choose
  IsCodec-choice = record { sound = sound; complete = complete }
