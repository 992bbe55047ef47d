-- Hex text in lower case is one to one with bytes.
use Rattle.std.proofs.Common.{◌≡◌, ℕ, zero, suc, ◌+◌, ◌*◌, ◌/◌, ◌%◌, ◌<◌, ◌==◌, Bool, true, ltb, ◌&&◌, cond, List, [], ◌∷◌, ◌++◌, length, take, slice_index, slice_set, replicate, lit<, Option, Some, None, unwrap_or, Result, Ok, Err, refl, sym, ap, ◌∙◌, inl, inr, arith}
use Rattle.std.proofs.lemmas.List.{append-nil, append_assoc, length-set, nil_from_length, take_more, take_more_set}
use Rattle.std.specs.List.{AllPass}
use Rattle.std.specs.Result.{IsOk, MatchResult, result_ok, result_unwrap_or}
use Rattle.std.specs.Str.{IsAscii, IsUtf8}
use borrow.Author.Tests.{ltb-true}
use Rattle.std.proofs.lemmas.Str.{IsUtf8-from_ascii}
use Rattle.std.proofs.lemmas.Str.Ascii.{IsAscii-cons, IsAscii-nil}
use Rattle.std.proofs.lemmas.Bool.{and_parts, cases_lt, eqb-true}
use Rattle.std.proofs.lemmas.Bool.Decides.{nat_tests}
use Rattle.std.proofs.lemmas.List.Elements.{All-nil, All-cons, All-head, All-tail}
use Rattle.hex.specs.Hex.{IsBytes, decode_of, decode_pairs, decode_sized, digit_or_error, hex_digit_value, encode_lower, encode_with, lower_digits, pair_value, value_at, ◌>>=◌}
use Rattle.hex.specs.declared.error.FromHexError.{FromHexError}
use Rattle.hex.proofs.HexLemmas.{IsAscii-encode_with, decode_of-encode_lower, decode_of-even, decode_of-ok, decode_sized-ok, decode_sized-twice, length-encode_with}
use Rattle.dhcp_stream.specs.HexText.{AreOctets, hex_text, is_lower_digit}
use Rattle.dhcp_stream.specs.Reading.{IsReading}

-- a byte passes, where it is a lower-case digit only where it is the digit of its value
abbrev spelled_back : ℕ → Bool
spelled_back c = cond (is_lower_digit c) (slice_index lower_digits (unwrap_or (hex_digit_value c) 99) == c) true

-- the first n bytes pass
abbrev all_spelled_back : ℕ → Bool
all_spelled_back zero = true
all_spelled_back (suc n) = spelled_back n && all_spelled_back n

-- a byte below n passes
all_spelled_back-at : (n c : ℕ) → all_spelled_back n ≡ true → c < n → spelled_back c ≡ true
all_spelled_back-at zero c h lt = absurd (omega arith)
all_spelled_back-at (suc n) c h lt =
    let parts = and_parts (spelled_back n) (all_spelled_back n) h in
    elim (cases_lt c n) [
      | inl below ↦ all_spelled_back-at n c parts.1 below
      | inr top ↦
          let e : c ≡ n = omega arith in
          rw e parts.0
    ]

-- a lower-case digit is below 103
is_lower_digit-small : (c : ℕ) → is_lower_digit c ≡ true → c < 103
is_lower_digit-small c h = grind (arith, nat_tests)

-- a lower-case digit is the digit of its value
digit-value : (c v : ℕ) → is_lower_digit c ≡ true → hex_digit_value c ≡ Some v → slice_index lower_digits v ≡ c
digit-value c v lower e =
    let passed : spelled_back c ≡ true = all_spelled_back-at 103 c refl (is_lower_digit-small c lower) in
    let test = rw (lower, e) at passed in
    eqb-true (slice_index lower_digits v) c test

-- what an `Ok` after `>>=` shows
bind_ok : {A B : Type 0} (r : Result A FromHexError) (f : A → Result B FromHexError) (y : B)
    → (r >>= f) ≡ Ok y → (x : A) × (r ≡ Ok x) × (f x ≡ Ok y)
bind_ok (Ok x) f y h = (x, refl, h)
bind_ok (Err e) f y h = cc h

-- the value of a digit that reads
digit_read : (c i : ℕ) (o : Option ℕ) (v : ℕ) → digit_or_error c i o ≡ Ok v → o ≡ Some v
digit_read c i (Some w) v h = ap Some (ap (λ (r : Result ℕ FromHexError). result_unwrap_or r 0) h)
digit_read c i None v h = cc h

-- a digit's value is below 16
digit_value-small : (c v : ℕ) → hex_digit_value c ≡ Some v → v < 16
digit_value-small c v h = grind (arith)

-- two lower-case digits are those of their byte
pair-spelled : (a b h l byte : ℕ) → is_lower_digit a ≡ true → is_lower_digit b ≡ true → hex_digit_value a ≡ Some h → hex_digit_value b ≡ Some l
    → h * 16 + l ≡ byte → (slice_index lower_digits (byte / 16) ≡ a) × (slice_index lower_digits (byte % 16) ≡ b)
pair-spelled a b h l byte lower_a lower_b ea eb e =
    let sa = digit_value-small a h ea in
    let sb = digit_value-small b l eb in
    let high : byte / 16 ≡ h = omega arith in
    let low : byte % 16 ≡ l = omega arith in
    (rw high (digit-value a h lower_a ea), rw low (digit-value b l lower_b eb))

-- lower-case digits that decode are those of their bytes
encode_lower-decode_pairs : (i : ℕ) (s bytes : List ℕ) → AllPass is_lower_digit s → decode_pairs i s ≡ Ok bytes → encode_lower bytes ≡ s
unfolding decode_pairs encode_with
encode_lower-decode_pairs i [] bytes lower h =
    let e : [] ≡ bytes = ap (λ (r : Result (List ℕ) FromHexError). result_unwrap_or r []) h in
    rw (← e) refl
encode_lower-decode_pairs i (a ∷ []) bytes lower h = cc h
encode_lower-decode_pairs i (a ∷ b ∷ rest) bytes lower h =
    let passes : ℕ → Type 0 = λ c. is_lower_digit c ≡ true in
    let p0 = bind_ok (pair_value a b i) _ bytes h in
    let p1 = bind_ok (value_at a i) _ p0.0 p0.1 in
    let p2 = bind_ok (value_at b (i + 1)) _ p0.0 p1.2 in
    let p3 = bind_ok (decode_pairs (i + 2) rest) _ bytes p0.2 in
    let e : p0.0 ∷ p3.0 ≡ bytes = ap (λ (r : Result (List ℕ) FromHexError). result_unwrap_or r []) p3.2 in
    let va = digit_read a i (hex_digit_value a) p1.0 p1.1 in
    let vb = digit_read b (i + 1) (hex_digit_value b) p2.0 p2.1 in
    let byte : p1.0 * 16 + p2.0 ≡ p0.0 = ap (λ (r : Result ℕ FromHexError). result_unwrap_or r 0) p2.2 in
    let tail = All-tail passes a (b ∷ rest) lower in
    let pair = pair-spelled a b p1.0 p2.0 p0.0 (All-head passes a (b ∷ rest) lower) (All-head passes b rest tail) va vb byte in
    let ih = encode_lower-decode_pairs (i + 2) rest p3.0 (All-tail passes b rest tail) p3.1 in
    rw (← e) (rw (pair.0, pair.1, ih) refl)

-- the text of bytes that lower-case digits decode to is those digits
pub encode_lower-decode_of : (s bytes : List ℕ) → AllPass is_lower_digit s → decode_of s ≡ Ok bytes → encode_lower bytes ≡ s
encode_lower-decode_of s bytes lower h =
    encode_lower-decode_pairs 0 s bytes lower (sym (decode_of-even s (decode_of-ok s bytes h).0) ∙ h)

-- the first n digits of the table pass
abbrev lower_upto : ℕ → Bool
lower_upto zero = true
lower_upto (suc n) = is_lower_digit (slice_index lower_digits n) && lower_upto n

-- a digit of the table is a lower-case digit
lower_upto-at : (n d : ℕ) → lower_upto n ≡ true → d < n → is_lower_digit (slice_index lower_digits d) ≡ true
lower_upto-at zero d h lt = absurd (omega arith)
lower_upto-at (suc n) d h lt =
    let parts = and_parts (is_lower_digit (slice_index lower_digits n)) (lower_upto n) h in
    elim (cases_lt d n) [
      | inl below ↦ lower_upto-at n d parts.1 below
      | inr top ↦
          let e : d ≡ n = omega arith in
          rw e parts.0
    ]

-- the text of bytes is lower-case digits
pub AllPass-encode_lower : (bytes : List ℕ) → IsBytes bytes → AllPass is_lower_digit (encode_lower bytes)
unfolding encode_with
AllPass-encode_lower [] h = let passes : ℕ → Type 0 = λ c. is_lower_digit c ≡ true in All-nil passes
AllPass-encode_lower (b ∷ rest) h =
    let passes : ℕ → Type 0 = λ c. is_lower_digit c ≡ true in
    let fits : b < 256 = h 0 in
    All-cons passes (slice_index lower_digits (b / 16)) (slice_index lower_digits (b % 16) ∷ encode_lower rest) (lower_upto-at 16 (b / 16) refl (omega arith))
    (All-cons passes (slice_index lower_digits (b % 16)) (encode_lower rest) (lower_upto-at 16 (b % 16) refl (omega arith)) (AllPass-encode_lower rest (λ k. h (suc k))))

-- no bytes have no digits
pub encode_lower-nil : encode_lower [] ≡ []
unfolding encode_with
encode_lower-nil = refl

-- the text of bytes whose digits are some is those digits
pub hex_text-some : (field bytes : List ℕ) → (field ≡ [] → ⊥) → encode_lower bytes ≡ field → hex_text bytes ≡ field
hex_text-some field [] some e = absurd (some (sym e ∙ encode_lower-nil))
hex_text-some field (b ∷ bs) some e = e

-- the text of bytes, where it isn't `-`, decodes to them, has a digit, and has lower-case digits alone
pub hex_text-parts : (field bytes : List ℕ) → (field ≡ 45 ∷ [] → ⊥) → IsBytes bytes → hex_text bytes ≡ field
    → (decode_of field ≡ Ok bytes) × (0 < length field) × AllPass is_lower_digit field
hex_text-parts field [] other fit e = absurd (other (sym e))
hex_text-parts field (b ∷ bs) other fit e = (
  rw (← e) (decode_of-encode_lower (b ∷ bs) fit),
  rw (← e) (let long = length-encode_with lower_digits (b ∷ bs) in omega (arith, long)),
  rw (← e) (AllPass-encode_lower (b ∷ bs) fit),
)

-- a field that isn't `-`, and has no digit or another byte than a lower-case digit, is the text of no bytes
pub hex_text-not : (field : List ℕ) → (field ≡ 45 ∷ [] → ⊥) → (0 < length field → AllPass is_lower_digit field → ⊥)
    → (bytes : List ℕ) → IsBytes bytes → hex_text bytes ≡ field → ⊥
hex_text-not field other bad bytes fit e =
    let parts = hex_text-parts field bytes other fit e in
    bad parts.1 parts.2

-- the text of bytes, where it isn't `-`, has an even number of digits
pub hex_text-even : (field bytes : List ℕ) → (field ≡ 45 ∷ [] → ⊥) → IsBytes bytes → hex_text bytes ≡ field → length field % 2 ≡ 0
hex_text-even field bytes other fit e = (decode_of-ok field bytes (hex_text-parts field bytes other fit e).0).0

-- the text of bytes decodes to them, also into room for them
decode_sized-encode_lower : (bytes : List ℕ) (n : ℕ) → length bytes ≡ n → IsBytes bytes → decode_sized (encode_lower bytes) n ≡ Ok bytes
decode_sized-encode_lower bytes n long fit =
    let twice = length-encode_with lower_digits bytes in
    decode_sized-twice (encode_lower bytes) n (omega (arith, twice)) ∙ decode_of-encode_lower bytes fit

-- what decoding a field of lower-case digits into room for n bytes answers is the reading of the field
pub IsReading-octets : (n : ℕ) (field : List ℕ) (answer : Result (List ℕ) FromHexError) → AllPass is_lower_digit field → answer ≡ decode_sized field n
    → IsReading encode_lower (AreOctets n) (result_ok answer) field
IsReading-octets n field (Ok octets) lower e =
    let twice = decode_sized-ok field n octets (sym e) in
    let decoded = sym (decode_sized-twice field n twice) ∙ sym e in
    let ok = decode_of-ok field octets decoded in
    (encode_lower-decode_of field octets lower decoded, (omega (arith, ok.2), ok.3))
IsReading-octets n field (Err refusal) lower e =
    λ octets h same. cc (e ∙ ap (λ text. decode_sized text n) (sym same) ∙ decode_sized-encode_lower octets n h.0 h.1)

-- a field with another byte than a lower-case digit is the text of no bytes
pub encode_lower-not : (field : List ℕ) → (AllPass is_lower_digit field → ⊥) → (bytes : List ℕ) → IsBytes bytes → encode_lower bytes ≡ field → ⊥
encode_lower-not field bad bytes fit e = bad (rw (← e) (AllPass-encode_lower bytes fit))

-- two lists of bytes with one text are one
pub hex_text-unique : (xs ys : List ℕ) → IsBytes xs → IsBytes ys → hex_text xs ≡ hex_text ys → xs ≡ ys
hex_text-unique [] [] h k e = refl
hex_text-unique [] (y ∷ ys) h k e = let long = length-encode_with lower_digits (y ∷ ys) in let same = ap length e in absurd (omega arith)
hex_text-unique (x ∷ xs) [] h k e = let long = length-encode_with lower_digits (x ∷ xs) in let same = ap length e in absurd (omega arith)
hex_text-unique (x ∷ xs) (y ∷ ys) h k e =
    let decoded = sym (decode_of-encode_lower (x ∷ xs) h) ∙ ap decode_of e ∙ decode_of-encode_lower (y ∷ ys) k in
    ap (λ (r : Result (List ℕ) FromHexError). result_unwrap_or r []) decoded

-- two lists of bytes with the same digits are one
pub encode_lower-unique : (xs ys : List ℕ) → IsBytes xs → IsBytes ys → encode_lower xs ≡ encode_lower ys → xs ≡ ys
encode_lower-unique xs ys h k e =
    let decoded = sym (decode_of-encode_lower xs h) ∙ ap decode_of e ∙ decode_of-encode_lower ys k in
    ap (λ (r : Result (List ℕ) FromHexError). result_unwrap_or r []) decoded

-- the digits of two lists of bytes
pub encode_lower-append : (xs ys : List ℕ) → encode_lower (xs ++ ys) ≡ encode_lower xs ++ encode_lower ys
unfolding encode_with
encode_lower-append [] ys = refl
encode_lower-append (x ∷ xs) ys = ap (λ text. slice_index lower_digits (x / 16) ∷ slice_index lower_digits (x % 16) ∷ text) (encode_lower-append xs ys)

-- the digits of one byte
encode_lower-one : (byte : ℕ) → encode_lower (byte ∷ []) ≡ slice_index lower_digits (byte / 16) ∷ slice_index lower_digits (byte % 16) ∷ []
unfolding encode_with
encode_lower-one byte = refl

-- two items more
take-two : (xs : List ℕ) (i : ℕ) → 2 * i + 1 < length xs → take (2 * (i + 1)) xs ≡ take (2 * i) xs ++ (slice_index xs (2 * i) ∷ slice_index xs (2 * i + 1) ∷ [])
take-two xs i fits =
    let two : 2 * (i + 1) ≡ 2 * i + 1 + 1 = omega arith in
    let second = take_more xs (2 * i + 1) 0 fits in
    let first = take_more xs (2 * i) 0 (omega (arith, fits)) in
    rw (two, second, first) (append_assoc (take (2 * i) xs) (slice_index xs (2 * i) ∷ []) (slice_index xs (2 * i + 1) ∷ []))

-- one more octet is read: its digits are the next two
pub octet_more : (digits octets : List ℕ) (i high low : ℕ) → 2 * i + 1 < length digits → i < length octets → low < 16
    → slice_index lower_digits high ≡ slice_index digits (2 * i) → slice_index lower_digits low ≡ slice_index digits (2 * i + 1)
    → encode_lower (take i octets) ≡ take (2 * i) digits
    → encode_lower (take (i + 1) (slice_set octets i (high * 16 + low))) ≡ take (2 * (i + 1)) digits
octet_more digits octets i high low fits room small spelled_high spelled_low before =
    let byte : ℕ = high * 16 + low in
    let more = take_more_set octets i byte room in
    let upper : byte / 16 ≡ high = omega (arith, small) in
    let lower : byte % 16 ≡ low = omega (arith, small) in
    let one = encode_lower-one byte in
    let two = take-two digits i fits in
    rw (more, encode_lower-append (take i octets) (byte ∷ []), one, upper, lower, spelled_high, spelled_low, two, before) refl

-- the digits of one more octet are put
pub digits_more : (octets digits : List ℕ) (i high low : ℕ) → i < length octets → length digits ≡ 2 * length octets
    → high ≡ slice_index lower_digits (slice_index octets i / 16) → low ≡ slice_index lower_digits (slice_index octets i % 16)
    → take (2 * i) digits ≡ encode_lower (take i octets)
    → take (2 * (i + 1)) (slice_set (slice_set digits (2 * i) high) (2 * i + 1) low) ≡ encode_lower (take (i + 1) octets)
digits_more octets digits i high low room long first second before =
    let two : 2 * (i + 1) ≡ 2 * i + 1 + 1 = omega arith in
    let one = encode_lower-one (slice_index octets i) in
    let put : List ℕ = slice_set digits (2 * i) high in
    let wide = length-set digits (2 * i) high in
    let last = take_more_set put (2 * i + 1) low (omega (arith, wide, room, long)) in
    let front = take_more_set digits (2 * i) high (omega (arith, room, long)) in
    let more = take_more octets i 0 room in
    rw (two, last, front, more, encode_lower-append (take i octets) (slice_index octets i ∷ []), one, first, second, before)
    (append_assoc (encode_lower (take i octets)) (slice_index lower_digits (slice_index octets i / 16) ∷ []) (slice_index lower_digits (slice_index octets i % 16) ∷ []))

-- bytes, one of them put in another's place, are bytes
pub IsBytes-set : (bytes : List ℕ) (i byte : ℕ) → byte < 256 → IsBytes bytes → IsBytes (slice_set bytes i byte)
IsBytes-set [] i byte small fit k = fit k
IsBytes-set (b ∷ bytes) zero byte small fit zero = small
IsBytes-set (b ∷ bytes) zero byte small fit (suc k) = fit (suc k)
IsBytes-set (b ∷ bytes) (suc i) byte small fit zero = fit zero
IsBytes-set (b ∷ bytes) (suc i) byte small fit (suc k) = IsBytes-set bytes i byte small (λ j. fit (suc j)) k

-- zeros are bytes
pub IsBytes-zeros : (n : ℕ) → IsBytes (replicate n 0)
IsBytes-zeros zero k = lit< tt
IsBytes-zeros (suc n) zero = lit< tt
IsBytes-zeros (suc n) (suc k) = IsBytes-zeros n k

-- once the digits of the front are put, what is left to put are those of the rest
pub digits_put : (text new start front after rest octets : List ℕ) → rest ≡ front ++ after → new ≡ text ++ encode_lower front → text ++ encode_lower rest ≡ start ++ encode_lower octets
    → new ++ encode_lower after ≡ start ++ encode_lower octets
digits_put text new start front after rest octets parts put before =
    let digits : encode_lower rest ≡ encode_lower front ++ encode_lower after = ap encode_lower parts ∙ encode_lower-append front after in
    rw (put, append_assoc text (encode_lower front) (encode_lower after), ← digits) before

-- no digits are left to put
pub digits_done : (text start rest octets : List ℕ) → length rest ≡ 0 → text ++ encode_lower rest ≡ start ++ encode_lower octets → text ≡ start ++ encode_lower octets
digits_done text start rest octets none before =
    let whole : text ++ encode_lower rest ≡ text = ap (λ (left : List ℕ). text ++ encode_lower left) (nil_from_length rest none) ∙ ap (λ (digits : List ℕ). text ++ digits) encode_lower-nil ∙ append-nil text in
    sym whole ∙ before

-- the test of bytes for ASCII, which computes
abbrev are_ascii : List ℕ → Bool
are_ascii [] = true
are_ascii (byte ∷ bytes) = ltb byte 128 && are_ascii bytes

IsAscii-are_ascii : (bytes : List ℕ) → are_ascii bytes ≡ true → IsAscii bytes
IsAscii-are_ascii [] is = IsAscii-nil
IsAscii-are_ascii (byte ∷ bytes) is =
    let both = and_parts (ltb byte 128) (are_ascii bytes) is in
    IsAscii-cons byte bytes (ltb-true byte 128 both.0) (IsAscii-are_ascii bytes both.1)

-- digits in hex are a text
pub IsUtf8-encode_lower : (octets : List ℕ) → IsUtf8 (encode_lower octets)
IsUtf8-encode_lower octets = IsUtf8-from_ascii (encode_lower octets) (IsAscii-encode_with lower_digits octets (IsAscii-are_ascii lower_digits refl))

-- a read of bytes as a text that fails only where they are none
pub IsOk-utf8 : {A E : Type 0} (Text : A → Type 0) (Fault : E → Type 0) (read : Result A E) (bytes : List ℕ) →
    MatchResult read Text (λ e. (IsUtf8 bytes → ⊥) × Fault e) → IsUtf8 bytes → IsOk read
IsOk-utf8 Text Fault (Ok text) bytes reads utf8 = refl
IsOk-utf8 Text Fault (Err e) bytes reads utf8 = absurd (reads.0 utf8)
