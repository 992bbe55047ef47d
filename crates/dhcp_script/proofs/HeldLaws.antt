-- The line of a lease, or of the word `none`, is read in one way alone.
use Rattle.std.proofs.Common.{◌≡◌, ◌≢◌, ℕ, ◌≤◌, List, [], ◌∷◌, ◌++◌, get_or, Option, Some, None, refl, sym, ap, ◌∙◌, append_assoc, arith, codes}
use Rattle.std.specs.Prelude.{IfSome}
use Rattle.std.proofs.lemmas.List.Elements.{All-head, All-tail}
use Rattle.dhcp_wire.specs.Field.{Read}
use Rattle.dhcp_stream.specs.TextReader.{made_of, tag_at}
use Rattle.dhcp_stream.proofs.CodecLaws.{HasNo, IsCodec, map_some, moved, same_read, tag_at-none, tag_at-sound}
use Rattle.dhcp_script.specs.Field.{unless_none}
use Rattle.dhcp_script.specs.FieldReader.{held_at, if_tag}

-- a text whose first field holds no `o`
pub record BeginsOtherwise (text : List ℕ) : Type 0 where
  pub field : List ℕ
  pub more : List ℕ
  pub is : text ≡ field ++ 32 ∷ more
  pub clear : HasNo 111 field

-- a space is neither `n` nor `o`
differ : (a b : ℕ) → a ≡ 32 → 110 ≤ b → a ≡ b → ⊥
differ a b first second same = omega arith

-- it is not the word `none`
no_word : (field more rest : List ℕ) → HasNo 111 field → field ++ 32 ∷ more ≡ codes "none\n" ++ rest → ⊥
no_word [] more rest whole e = differ 32 110 refl (omega arith) (ap (λ (text : List ℕ). get_or text 0 0) e)
no_word (a ∷ []) more rest whole e = differ 32 111 refl (omega arith) (ap (λ (text : List ℕ). get_or text 1 0) e)
no_word (a ∷ b ∷ field) more rest whole e =
    let other : ℕ → Type 0 = λ byte. byte ≢ 111 in
    All-head other b field (All-tail other a (b ∷ field) whole) (ap (λ (text : List ℕ). get_or text 1 0) e)

module _ {A : Type 0} {print : A → List ℕ} {Fits : A → Type 0} {read : List ℕ → Read A} (is : IsCodec (λ x. print x ++ 10 ∷ []) Fits read)
    (begins : (x : A) → Fits x → BeginsOtherwise (print x)) where
  none_word : (x : A) (rest : List ℕ) → Fits x → tag_at (codes "none\n") ((print x ++ 10 ∷ []) ++ rest) ≡ None
  none_word x rest fits =
      let front = begins x fits in
      tag_at-none (codes "none\n") ((print x ++ 10 ∷ []) ++ rest)
      (λ more e. no_word front.field (front.more ++ 10 ∷ rest) more front.clear
      (sym (append_assoc front.field (32 ∷ front.more) (10 ∷ rest)) ∙ ap (λ xs. xs ++ 10 ∷ rest) (sym front.is) ∙ sym (append_assoc (print x) (10 ∷ []) rest) ∙ e))

  held_complete : (o : Option A) (rest : List ℕ) → IfSome o Fits → held_at read ((unless_none print o ++ 10 ∷ []) ++ rest) ≡ Some (o, rest)
  unfolding held_at tag_at
  held_complete None rest fits = refl
  held_complete (Some x) rest fits = rw (none_word x rest fits, is.complete x rest fits) refl

  held_sound : (text : List ℕ) (o : Option A) (rest : List ℕ) → held_at read text ≡ Some (o, rest) → (text ≡ (unless_none print o ++ 10 ∷ []) ++ rest) × IfSome o Fits
  unfolding held_at
  held_sound text o rest h = by_tag o (tag_at (codes "none\n") text) refl h
    where
      Is : Option A → List ℕ → Type 0
      Is o rest = (text ≡ (unless_none print o ++ 10 ∷ []) ++ rest) × IfSome o Fits

      by_tag : (o : Option A) (tag : Read (Unit {0})) → tag_at (codes "none\n") text ≡ tag
          → if_tag tag (λ rest. Some (None, rest)) (made_of Some read text) ≡ Some (o, rest) → Is o rest
      by_tag o (Some found) e h =
          let parts = same_read None o found.1 rest h in
          moved Is None o found.1 rest parts.0 parts.1 (tag_at-sound (codes "none\n") text found.1 e, tt)
      by_tag o None e h =
          let step = map_some (λ (read : A × List ℕ). (Some read.0, read.1)) (read text) (o, rest) h in
          let made : Some step.0.0 ≡ o = ap (λ (p : Option A × List ℕ). p.0) step.2 in
          let more : step.0.1 ≡ rest = ap (λ (p : Option A × List ℕ). p.1) step.2 in
          moved Is (Some step.0.0) o step.0.1 rest made more (is.sound text step.0.0 step.0.1 step.1)

  pub IsCodec-held : IsCodec (λ o. unless_none print o ++ 10 ∷ []) (λ o. IfSome o Fits) (held_at read)
  IsCodec-held = record { sound = held_sound; complete = held_complete }
