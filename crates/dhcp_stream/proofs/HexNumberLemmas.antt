-- Numbers of a field in hex are one to one with their bytes.
use Rattle.std.proofs.Common.{◌≡◌, ℕ, ◌<◌, List, [], ◌∷◌, ◌++◌, length, drop, Option, Some, None, unwrap_or, Result, Ok, Err, sym, ap, ◌∙◌, append_assoc, append-nil, length-append, arith}
use Rattle.std.specs.Prelude.{All}
use Rattle.std.specs.Int.{Width, to_be_bytes}
use Rattle.std.specs.List.{flat_map}
use Rattle.std.proofs.lemmas.List.{drop_at}
use Rattle.std.proofs.lemmas.List.Concat.{flat_map-append}
use Rattle.hex.specs.Hex.{IsBytes}
use Rattle.dhcp_stream.specs.HexText.{hex_text, number_bytes}
use Rattle.dhcp_wire.specs.Error.{ErrorParts}
use Rattle.dhcp_stream.specs.Reading.{IsReading, GivesReading}
use Rattle.dhcp_stream.proofs.HexTextLemmas.{hex_text-unique}
use Rattle.dhcp_stream.proofs.NumberBytes.{IsBytes-append, IsBytes-to_be_bytes}

module _ {A : Type 0} (spelled : A → List ℕ) where
  -- one number more
  pub numbers-push : (xs : List A) (x : A) (bytes left front rest : List ℕ) → bytes ≡ flat_map spelled xs ++ left → left ≡ front ++ rest
      → spelled x ≡ front → bytes ≡ flat_map spelled (xs ++ x ∷ []) ++ rest
  numbers-push xs x bytes left front rest cut next is =
      cut ∙ ap (λ text. flat_map spelled xs ++ text) (next ∙ ap (λ text. text ++ rest) (sym is)) ∙ sym (append_assoc (flat_map spelled xs) (spelled x) rest)
      ∙ ap (λ text. text ++ rest) (sym (flat_map-append spelled xs (x ∷ []) ∙ ap (λ text. flat_map spelled xs ++ text) (append-nil (spelled x))))

  -- where nothing is left, those are all
  pub numbers-all : (xs : List A) (bytes left : List ℕ) → bytes ≡ flat_map spelled xs ++ left → left ≡ [] → flat_map spelled xs ≡ bytes
  numbers-all xs bytes left cut none = sym (cut ∙ ap (λ text. flat_map spelled xs ++ text) none ∙ append-nil (flat_map spelled xs))

  -- where less than a number is left, and something, the bytes are those of no numbers
  pub numbers-not : (len : ℕ) → ((x : A) → length (spelled x) ≡ len) → (xs ys : List A) (left : List ℕ) → length left < len → (left ≡ [] → ⊥)
      → flat_map spelled ys ≡ flat_map spelled xs ++ left → ⊥
  numbers-not len long [] [] left short some e = some (sym e)
  numbers-not len long [] (y ∷ ys) left short some e =
      let same = ap length e in
      let sum = length-append (spelled y) (flat_map spelled ys) in
      let one = long y in
      omega arith
  numbers-not len long (x ∷ xs) [] left short some e =
      let same = ap length e in
      let sum = length-append (spelled x ++ flat_map spelled xs) left in
      let inner = length-append (spelled x) (flat_map spelled xs) in
      let one = long x in
      omega arith
  numbers-not len long (x ∷ xs) (y ∷ ys) left short some e =
      numbers-not len long xs ys left short some (
      sym (drop_at (spelled y) (flat_map spelled ys) len (long y))
      ∙ ap (drop len) (e ∙ append_assoc (spelled x) (flat_map spelled xs) left)
      ∙ drop_at (spelled x) (flat_map spelled xs ++ left) len (long x)
      )

  module _ (are_bytes : (x : A) → IsBytes (spelled x)) where
    -- the bytes of numbers are bytes
    pub IsBytes-numbers : (xs : List A) → IsBytes (flat_map spelled xs)
    IsBytes-numbers [] = λ i. omega arith
    IsBytes-numbers (x ∷ xs) = IsBytes-append (spelled x) (flat_map spelled xs) (are_bytes x) (IsBytes-numbers xs)

    -- where a field is the hex of no bytes, it is that of no numbers
    pub numbers-none : (Fits : A → Type 0) (field : List ℕ) (read : Option (List ℕ)) → read ≡ None → IsReading hex_text IsBytes read field
        → (xs : List A) → All Fits xs → hex_text (flat_map spelled xs) ≡ field → ⊥
    numbers-none Fits field None none reading xs fit e = reading (flat_map spelled xs) (IsBytes-numbers xs) e
    numbers-none Fits field (Some bytes) none reading xs fit e = cc none

    -- where a field is the hex of bytes, its numbers are those of the bytes
    pub numbers-some : (Fits : A → Type 0) (field bytes : List ℕ) (read : Option (List ℕ)) (answer : Result (Option (List A)) ErrorParts) → read ≡ Some bytes
        → IsReading hex_text IsBytes read field → GivesReading (flat_map spelled) (All Fits) answer bytes
        → GivesReading (λ xs. hex_text (flat_map spelled xs)) (All Fits) answer field
    numbers-some Fits field bytes None answer some reading given = cc some
    numbers-some Fits field bytes (Some b) (Ok (Some xs)) some reading given =
        let same : b ≡ bytes = ap (λ (o : Option (List ℕ)). unwrap_or o []) some in
        (ap hex_text (given.0 ∙ sym same) ∙ reading.0, given.1)
    numbers-some Fits field bytes (Some b) (Ok None) some reading given =
        let same : b ≡ bytes = ap (λ (o : Option (List ℕ)). unwrap_or o []) some in
        λ xs fit e.
        given xs fit (hex_text-unique (flat_map spelled xs) b (IsBytes-numbers xs) reading.1 (e ∙ sym reading.0) ∙ same)
    numbers-some Fits field bytes (Some b) (Err error) some reading given = given

-- the bytes of numbers of a width
pub IsBytes-number_bytes : (width : Width) (numbers : List ℕ) → IsBytes (number_bytes width numbers)
IsBytes-number_bytes width numbers = IsBytes-numbers (to_be_bytes width) (IsBytes-to_be_bytes width) numbers
