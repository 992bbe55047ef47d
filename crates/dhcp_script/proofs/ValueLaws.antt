-- What fields give that are made of others, and how their values are printed, undo each other.
use Rattle.std.proofs.Common.{◌≡◌, ◌≢◌, ℕ, ◌<◌, ◌≤◌, ◌==◌, Bool, true, false, cond, List, [], ◌∷◌, ◌++◌, length, map, Option, Some, option_map, unwrap_or, refl, sym, ap, ◌∙◌, eq-eqb, arith, codes}
use Rattle.std.specs.Prelude.{All, IfSome}
use Rattle.std.specs.Fmt.{decimal}
use Rattle.std.specs.List.{slice_split, join_with_byte}
use Rattle.std.specs.Str.{bytes_eq}
use Rattle.std.proofs.lemmas.Slice.Eq.{bytes_eq-Decides}
use Rattle.std.proofs.lemmas.List.Elements.{All-cons, All-nil, All-head, All-tail}
use Rattle.std.proofs.lemmas.List.Splits.{slice_split_at, slice_split_none, join_with_byte-slice_split, length-slice_split}
use Rattle.dhcp_wire.specs.Field.{Read, ◌>>=◌}
use Rattle.dhcp_stream.specs.TextReader.{both, in_field, made_of}
use Rattle.dhcp_stream.proofs.CodecLaws.{HasNo, IsCodec, IsCodec-both, IsCodec-in_field, IsCodec-made_of, IsValue, bind_some, map_some}
use Rattle.dhcp_stream.proofs.ValueLemmas.{IsValue-number}
use Rattle.dhcp_script.specs.declared.version.Version.{Version}
use Rattle.dhcp_script.specs.declared.version.Version.TheVariants.{One, Later}
use Rattle.dhcp_script.specs.Field.{list_text, unless_none}
use Rattle.dhcp_script.specs.FieldReader.{each_in, items_in, list_in, then_value, triple_of, u32_at, word_or}
use Rattle.dhcp_script.specs.Version.{end_of_times}
use Rattle.dhcp_script.proofs.Clear.{HasNo-decimal, HasNo-or_word, other_word}
use Rattle.dhcp_script.proofs.FieldLemmas.{IsValue-word_or, fail_test, other_text}

-- ---- what is read from the front of a field, and what the rest gives

pub IsValue-then : {A B : Type 0} {print : A → List ℕ} {Fits : A → Type 0} {read : List ℕ → Read A}
    {print' : B → List ℕ} {Fits' : B → Type 0} {value : List ℕ → Option B} → IsCodec print Fits read → IsValue print' Fits' value
    → IsValue (λ (p : A × B). print p.0 ++ print' p.1) (λ p. Fits p.0 × Fits' p.1) (then_value read value)
IsValue-then {A} {B} {print} {Fits} {read} {print'} {Fits'} {value} first second = record {
  sound = λ field p h.
      let x = bind_some (read field) (λ x. value x.1 >>= λ y. Some (x.0, y)) p h in
      let y = bind_some (value x.0.1) (λ y. Some (x.0.0, y)) p x.2 in
      let one = first.sound field x.0.0 x.0.1 x.1 in
      let two = second.sound x.0.1 y.0 y.1 in
      let pair : A × B = (x.0.0, y.0) in
      let same : pair ≡ p = ap (λ (o : Option (A × B)). unwrap_or o pair) y.2 in
      rw (← same) (ap (λ xs. print x.0.0 ++ xs) two.0 ∙ sym one.0, (one.1, two.1));
  complete = λ p fits.
      rw (first.complete p.0 (print' p.1) fits.0, second.complete p.1 fits.1) refl;
}

-- ---- three parts

pub IsCodec-triple : {A B C : Type 0} {print : A → List ℕ} {Fits : A → Type 0} {first : List ℕ → Read A}
    {print' : B → List ℕ} {Fits' : B → Type 0} {second : List ℕ → Read B} {print'' : C → List ℕ} {Fits'' : C → Type 0} {third : List ℕ → Read C}
    → IsCodec print Fits first → IsCodec print' Fits' second → IsCodec print'' Fits'' third
    → IsCodec (λ (p : A × B × C). print p.0 ++ (print' p.1 ++ print'' p.2)) (λ p. Fits p.0 × (Fits' p.1 × Fits'' p.2)) (made_of triple_of (both first (both second third)))
IsCodec-triple {A} {B} {C} one two three =
    IsCodec-made_of (IsCodec-both one (IsCodec-both two three)) triple_of (λ (p : A × B × C). (p.0, (p.1, p.2))) (λ x. refl) (λ y. refl)

-- a value that is made of what a field gives
pub IsValue-made_of : {A B : Type 0} {print : A → List ℕ} {Fits : A → Type 0} {value : List ℕ → Option A} → IsValue print Fits value
    → (make : A → B) (take_apart : B → A) → ((x : A) → take_apart (make x) ≡ x) → ((y : B) → make (take_apart y) ≡ y)
    → IsValue (λ y. print (take_apart y)) (λ y. Fits (take_apart y)) (λ field. option_map make (value field))
IsValue-made_of {A} {B} {print} {Fits} {value} is make take_apart there back = record {
  sound = λ field y h.
      let step = map_some make (value field) y h in
      let one = is.sound field step.0 step.1 in
      let apart : take_apart y ≡ step.0 = ap take_apart (sym step.2) ∙ there step.0 in
      rw apart one;
  complete = λ y fits.
      rw (is.complete (take_apart y) fits, back y) refl;
}

-- ---- lists

-- parts with a byte between them that they do not hold
split_join : (end : ℕ) (first : List ℕ) (parts : List (List ℕ)) → HasNo end first → All (HasNo end) parts
    → slice_split (λ byte. byte == end) (join_with_byte end (first ∷ parts)) ≡ first ∷ parts
split_join end first [] whole all = slice_split_none (λ byte. byte == end) first (fail_test end first whole)
split_join end first (second ∷ parts) whole all =
    slice_split_at (λ byte. byte == end) first end (join_with_byte end (second ∷ parts)) (fail_test end first whole) (eq-eqb end end refl)
    ∙ ap (λ rest. first ∷ rest) (split_join end second parts (All-head (HasNo end) second parts all) (All-tail (HasNo end) second parts all))

module _ {A : Type 0} {print : A → List ℕ} {Fits : A → Type 0} {value : List ℕ → Option A} (is : IsValue print Fits value) where
  each_complete : (xs : List A) → All Fits xs → each_in value (map print xs) ≡ Some xs
  each_complete [] fit = refl
  each_complete (x ∷ xs) fit =
      rw (is.complete x (All-head Fits x xs fit), each_complete xs (All-tail Fits x xs fit)) refl

  each_sound : (fields : List (List ℕ)) (xs : List A) → each_in value fields ≡ Some xs → (map print xs ≡ fields) × All Fits xs
  each_sound [] [] h = (refl, All-nil Fits)
  each_sound [] (x ∷ xs) h = cc h
  each_sound (field ∷ fields) xs h =
      let x = bind_some (value field) (λ x. each_in value fields >>= λ xs. Some (x ∷ xs)) xs h in
      let more = bind_some (each_in value fields) (λ xs. Some (x.0 ∷ xs)) xs x.2 in
      let one = is.sound field x.0 x.1 in
      let others = each_sound fields more.0 more.1 in
      let same : x.0 ∷ more.0 ≡ xs = cc more.2 in
      rw (← same) (ap (λ text. text ∷ map print more.0) one.0 ∙ ap (λ texts. field ∷ texts) others.0, All-cons Fits x.0 more.0 one.1 others.1)

  module _ (clear : (x : A) → Fits x → HasNo 44 (print x)) (other : (x : A) → Fits x → print x ≢ codes "-") where
    all_clear : (xs : List A) → All Fits xs → All (HasNo 44) (map print xs)
    all_clear [] fit = All-nil (HasNo 44)
    all_clear (x ∷ xs) fit = All-cons (HasNo 44) (print x) (map print xs) (clear x (All-head Fits x xs fit)) (all_clear xs (All-tail Fits x xs fit))

    split_list : (x : A) (xs : List A) → All Fits (x ∷ xs) → slice_split (λ byte. byte == 44) (list_text print (x ∷ xs)) ≡ print x ∷ map print xs
    split_list x xs fit = split_join 44 (print x) (map print xs) (clear x (All-head Fits x xs fit)) (all_clear xs (All-tail Fits x xs fit))

    -- a list that is not empty is not `-`
    list_text-other : (x : A) (xs : List A) → All Fits (x ∷ xs) → list_text print (x ∷ xs) ≢ codes "-"
    list_text-other x xs fit e =
        let split : print x ∷ map print xs ≡ codes "-" ∷ [] = sym (split_list x xs fit) ∙ ap (slice_split (λ byte. byte == 44)) e in
        let first : print x ≡ codes "-" = cc split in
        other x (All-head Fits x xs fit) first

    list_complete : (xs : List A) → All Fits xs → list_in value (list_text print xs) ≡ Some xs
    list_complete [] fit = refl
    list_complete (x ∷ xs) fit =
        rw (other_text (list_text print (x ∷ xs)) (codes "-") (list_text-other x xs fit))
        (ap (each_in value) (split_list x xs fit) ∙ each_complete (x ∷ xs) fit)

    list_sound : (field : List ℕ) (xs : List A) → list_in value field ≡ Some xs → (list_text print xs ≡ field) × All Fits xs
    list_sound field xs h = by_test xs (bytes_eq field (codes "-")) refl h
      where
        joined : (xs : List A) → items_in value field ≡ Some xs → (list_text print xs ≡ field) × All Fits xs
        joined [] h =
            let parts = each_sound (slice_split (λ byte. byte == 44) field) [] h in
            let none = ap length parts.0 in
            let some = length-slice_split (λ byte. byte == 44) field in
            absurd (omega arith)
        joined (x ∷ xs) h =
            let parts = each_sound (slice_split (λ byte. byte == 44) field) (x ∷ xs) h in
            (ap (join_with_byte 44) parts.0 ∙ join_with_byte-slice_split 44 field, parts.1)

        by_test : (xs : List A) (same : Bool) → bytes_eq field (codes "-") ≡ same → cond same (Some []) (items_in value field) ≡ Some xs
            → (list_text print xs ≡ field) × All Fits xs
        by_test [] true e h = (sym ((bytes_eq-Decides field (codes "-")).0 e), All-nil Fits)
        by_test (x ∷ xs) true e h = cc h
        by_test xs false e h = joined xs h

    pub IsValue-list : IsValue (list_text print) (All Fits) (list_in value)
    IsValue-list = record { sound = list_sound; complete = list_complete }

-- ---- fields up to their terminator

-- a field that may be absent, up to its terminator
pub optional : {A : Type 0} {print : A → List ℕ} {Fits : A → Type 0} {value : List ℕ → Option A} → IsValue print Fits value
    → ((x : A) → Fits x → HasNo 110 (print x)) → (end : ℕ) → HasNo end (codes "none") → ((x : A) → Fits x → HasNo end (print x))
    → IsCodec (λ o. unless_none print o ++ end ∷ []) (λ o. IfSome o Fits) (in_field (word_or (codes "none") value) end)
optional {print = print} {Fits = Fits} is other end clear whole =
    IsCodec-in_field (IsValue-word_or (codes "none") is (λ x fits. other_word 110 (codes "one") (print x) (other x fits))) end
    (λ o fits. HasNo-or_word print Fits end (codes "none") clear whole o fits)

-- a number of 32 bits, up to its terminator
pub u32_field : (end : ℕ) → end < 48 → IsCodec (λ n. decimal n ++ end ∷ []) (λ n. n ≤ 4294967295) (u32_at end)
u32_field end below = IsCodec-in_field (IsValue-number 4294967295 (omega arith)) end (λ n small. HasNo-decimal end n (omega arith) below)

-- what follows the last of the times of a lease is such a terminator
pub end_of_times-below : (version : Version) → end_of_times version < 48
end_of_times-below One = omega arith
end_of_times-below Later = omega arith
