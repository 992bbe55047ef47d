-- What each kind of field gives, and how its values are printed, undo each other.
use Rattle.std.proofs.Common.{◌≡◌, ℕ, zero, suc, ◌*◌, ◌<◌, ◌≤◌, ◌^◌, ◌==◌, Bool, true, false, List, [], ◌∷◌, ◌++◌, length, map, get_or, Option, Some, None, option_map, unwrap_or, Result, Ok, Err, refl, ap, ◌∙◌, append_assoc, length-append, eq-eqb, arith}
use Rattle.std.specs.Prelude.{All, nat_le, nat_lt, ok_or, IfOk}
use Rattle.std.specs.List.{list_all, slice_split}
use Rattle.std.specs.Fmt.{decimal}
use Rattle.std.specs.Int.{Width, w16, w32, byte_len, from_be_bytes, to_be_bytes}
use Rattle.std.specs.Net.Addr.{IsIpv4Addr, IsIpv6Addr, ipv4_octets, ipv6_octets, ipv6_segments, segments_of}
use Rattle.std.specs.Net.Text.{ipv4_text}
use Rattle.std.specs.Result.{result_unwrap_or}
use Rattle.std.specs.Str.{is_utf8}
use Rattle.std.specs.Str.Parse.{AllDigits, digits_value}
use Rattle.std.specs.declared.net.Ipv6Addr.{Ipv6Addr}
use Rattle.std.proofs.lemmas.Bool.{and_parts, eqb-true, le-leb, leb-true, ltb-true, lt-ltb, ne_eqb}
use Rattle.std.proofs.lemmas.Fmt.{decimal_is_IsNumeral, digits_value-decimal}
use Rattle.std.proofs.lemmas.List.Elements.{All-cons, All-nil, All-head, All-tail, All-weaker, All-from_get_or}
use Rattle.std.proofs.lemmas.List.Splits.{slice_split_at, slice_split_none}
use Rattle.std.proofs.lemmas.Str.{IsUtf8-from_is_utf8, is_utf8-from_IsUtf8}
use Rattle.std.proofs.lemmas.Str.Parse.{IsNumeralModel, digit_at, numerals_by_value, tells_digits}
use Rattle.hex.specs.Hex.{IsBytes, decode_of, encode_lower}
use Rattle.hex.specs.declared.error.FromHexError.{FromHexError}
use Rattle.hex.proofs.HexLemmas.{decode_of-encode_lower, decode_of-ok}
use Rattle.dhcp_wire.specs.Error.{ErrorParts}
use Rattle.dhcp_wire.specs.Field.{Read, address_of, bytes_at, ipv6_address_of, number_at}
use Rattle.dhcp_wire.proofs.FieldLaws.{HasBigEndian, big_endian_16, big_endian_32, bytes_at_cut, bytes_at_short, number_at-to_be_bytes}
use Rattle.dhcp_stream.specs.HexText.{AreOctets, AreOfWidth, AreWords, IsMac, IsText, address6_text, hex_text, number_bytes, numbers_text, words_text}
use Rattle.dhcp_stream.specs.Number.{address_text}
use Rattle.dhcp_stream.specs.Reading.{IsReading, GivesReading}
use Rattle.dhcp_stream.specs.declared.text_reader.ReadError.{ReadError}
use Rattle.dhcp_stream.specs.declared.text_reader.ReadError.TheVariants.{Malformed}
use Rattle.dhcp_stream.specs.TextReader.{address6_in, address_in, are_octets, checked, hex_bytes, hex_in, hex_utf8_in, mac_in, number_in, numbers_in, numbers_of, numbers_within, words_in, field_at, in_field, Finds, IsFound, Takes}
use Rattle.dhcp_stream.proofs.CodecLaws.{IsValue, IsValue-checked, by_reading}
use Rattle.dhcp_stream.proofs.Ipv6Lemmas.{AreOctets-ipv6, segments_of-octets_of, segments-small}
use Rattle.dhcp_stream.proofs.HexNumberLemmas.{IsBytes-number_bytes}
use Rattle.dhcp_stream.proofs.NumberBytes.{IsBytes-front, IsBytes-rest, length-to_be_bytes}

-- digits and their value, in std's words
own : IsNumeralModel (AllDigits 10) (digits_value 10)
own = numerals_by_value (AllDigits 10) tells_digits

-- decimal numbers
pub IsValue-number : (max : ℕ) → max < 2 ^ 64 → IsValue decimal (λ n. n ≤ max) (number_in max)
unfolding number_in
IsValue-number max fits =
    IsValue-checked decimal (λ n. nat_le n max) (λ n. n ≤ max) (digits_value 10)
    (λ n small. digits_value-decimal own n (omega arith))
    (λ n small. le-leb n max small)
    (λ field passes same. leb-true (digits_value 10 field) max passes)

-- ---- hex

-- the bytes of a field are bytes
IsBytes-hex_bytes : (read : Result (List ℕ) FromHexError) (field : List ℕ) → decode_of field ≡ read → IsBytes (result_unwrap_or read [])
IsBytes-hex_bytes (Ok bytes) field e = (decode_of-ok field bytes e).3
IsBytes-hex_bytes (Err refusal) field e = λ i. omega arith

-- the digits of bytes give them
hex_bytes-encode_lower : (bytes : List ℕ) → IsBytes bytes → hex_bytes (encode_lower bytes) ≡ bytes
hex_bytes-encode_lower bytes fits = ap (λ (read : Result (List ℕ) FromHexError). result_unwrap_or read []) (decode_of-encode_lower bytes fits)

-- the text of bytes gives them
pub hex_bytes-hex_text : (bytes : List ℕ) → IsBytes bytes → hex_bytes (hex_text bytes) ≡ bytes
hex_bytes-hex_text [] fits = refl
hex_bytes-hex_text (byte ∷ bytes) fits = hex_bytes-encode_lower (byte ∷ bytes) fits

-- bytes
pub IsValue-hex : IsValue hex_text IsBytes hex_in
unfolding hex_in
IsValue-hex =
    IsValue-checked hex_text (λ bytes. true) IsBytes hex_bytes hex_bytes-hex_text (λ bytes fits. refl)
    (λ field passes same. IsBytes-hex_bytes (decode_of field) field refl)

-- texts
pub IsValue-hex_utf8 : IsValue hex_text IsText hex_utf8_in
unfolding hex_utf8_in
IsValue-hex_utf8 =
    IsValue-checked hex_text is_utf8 IsText hex_bytes (λ bytes fits. hex_bytes-hex_text bytes fits.are_bytes) (λ bytes fits. is_utf8-from_IsUtf8 bytes fits.utf8)
    (λ field passes same. record {
      are_bytes = IsBytes-hex_bytes (decode_of field) field refl;
      utf8 = IsUtf8-from_is_utf8 (hex_bytes field) passes;
    })

-- so many octets
IsValue-octets : (n : ℕ) → IsValue encode_lower (AreOctets n) (λ field. checked encode_lower (λ bytes. length bytes == n) (hex_bytes field) field)
IsValue-octets n =
    IsValue-checked encode_lower (λ bytes. length bytes == n) (AreOctets n) hex_bytes (λ bytes fits. hex_bytes-encode_lower bytes fits.1) (λ bytes fits. eq-eqb (length bytes) n fits.0)
    (λ field passes same. (eqb-true (length (hex_bytes field)) n passes, IsBytes-hex_bytes (decode_of field) field refl))

-- MAC addresses
pub IsValue-mac : IsValue encode_lower IsMac mac_in
unfolding mac_in
IsValue-mac = IsValue-octets 6

-- IPv6 addresses
pub IsValue-address6 : IsValue address6_text IsIpv6Addr address6_in
unfolding address6_in
IsValue-address6 =
    IsValue-checked address6_text (λ address. length (ipv6_segments address) == 8) IsIpv6Addr (λ field. ipv6_address_of (hex_bytes field))
    (λ address fits. ap ipv6_address_of (hex_bytes-encode_lower (ipv6_octets address) (AreOctets-ipv6 address fits).1) ∙ of_octets address fits)
    (λ address fits. eq-eqb (length (ipv6_segments address)) 8 fits.0)
    (λ field passes same. (eqb-true (length (segments_of (hex_bytes field))) 8 passes, segments-small (hex_bytes field) (IsBytes-hex_bytes (decode_of field) field refl)))
  where
    of_octets : (address : Ipv6Addr) → IsIpv6Addr address → ipv6_address_of (ipv6_octets address) ≡ address
    of_octets address fits = rw (segments_of-octets_of (ipv6_segments address) fits.1) refl

-- ---- numbers of a width

-- a width of some bytes, at which numbers and their bytes undo each other
record IsWholeWidth (width : Width) : Type 0 where
  some : 0 < byte_len width
  back : HasBigEndian width
  small : (bytes : List ℕ) → length bytes ≡ byte_len width → IsBytes bytes → from_be_bytes width bytes < 2 ^ (8 * byte_len width)

module _ (width : Width) (is : IsWholeWidth width) where
  -- numbers have no fewer bytes
  number_bytes-long : (numbers : List ℕ) → length numbers ≤ length (number_bytes width numbers)
  number_bytes-long [] = omega arith
  number_bytes-long (number ∷ numbers) =
      let ih = number_bytes-long numbers in
      let some = is.some in
      let one = length-to_be_bytes width number in
      let sum = length-append (to_be_bytes width number) (number_bytes width numbers) in
      omega arith

  -- no bytes are no number
  number_at-none : number_at width [] ≡ None
  number_at-none = rw (bytes_at_short (byte_len width) [] is.some) refl

  -- the bytes of numbers give them
  numbers_within-number_bytes : (most : ℕ) (numbers : List ℕ) → AreOfWidth width numbers → length numbers ≤ most → numbers_within most width (number_bytes width numbers) ≡ numbers
  unfolding numbers_within
  numbers_within-number_bytes zero [] fit few = refl
  numbers_within-number_bytes zero (number ∷ numbers) fit few = absurd (omega arith)
  numbers_within-number_bytes (suc most) [] fit few = rw number_at-none refl
  numbers_within-number_bytes (suc most) (number ∷ numbers) fit few =
      rw (number_at-to_be_bytes width is.back number (number_bytes width numbers) (All-head (λ n. n < 2 ^ (8 * byte_len width)) number numbers fit))
      (ap (λ later. number ∷ later) (numbers_within-number_bytes most numbers (All-tail (λ n. n < 2 ^ (8 * byte_len width)) number numbers fit) (omega arith)))

  -- the numbers of bytes fit the width
  AreOfWidth-numbers_within : (most : ℕ) (bytes : List ℕ) → IsBytes bytes → AreOfWidth width (numbers_within most width bytes)
  unfolding numbers_within
  AreOfWidth-numbers_within zero bytes fit = All-nil (λ n. n < 2 ^ (8 * byte_len width))
  AreOfWidth-numbers_within (suc most) bytes fit = by_read (λ rest fit. AreOfWidth-numbers_within most rest fit) (bytes_at (byte_len width) bytes) refl
    where
      next : Read (List ℕ) → List ℕ
      next read = unwrap_or (option_map (λ (read : ℕ × List ℕ). read.0 ∷ numbers_within most width read.1) (option_map (λ (read : List ℕ × List ℕ). (from_be_bytes width read.0, read.1)) read)) []

      by_read : ((rest : List ℕ) → IsBytes rest → AreOfWidth width (numbers_within most width rest)) → (read : Read (List ℕ)) → bytes_at (byte_len width) bytes ≡ read → AreOfWidth width (next read)
      by_read ih None e = All-nil (λ n. n < 2 ^ (8 * byte_len width))
      by_read ih (Some read) e =
          let cut = bytes_at_cut (byte_len width) bytes read.0 read.1 e in
          let both : IsBytes (read.0 ++ read.1) = λ i. rw (← cut.1) (fit i) in
          All-cons (λ n. n < 2 ^ (8 * byte_len width)) (from_be_bytes width read.0) (numbers_within most width read.1)
          (is.small read.0 cut.0 (IsBytes-front read.0 read.1 both)) (ih read.1 (IsBytes-rest read.0 read.1 both))

  -- numbers of the width
  IsValue-numbers : IsValue (numbers_text width) (AreOfWidth width) (numbers_in width)
  unfolding numbers_in
  IsValue-numbers =
      IsValue-checked (numbers_text width) (λ numbers. true) (AreOfWidth width) (λ field. numbers_of width (hex_bytes field))
      (λ numbers fits. ap (numbers_of width) (hex_bytes-hex_text (number_bytes width numbers) (IsBytes-number_bytes width numbers))
      ∙ numbers_within-number_bytes (length (number_bytes width numbers)) numbers fits (number_bytes-long numbers))
      (λ numbers fits. refl)
      (λ field passes same. AreOfWidth-numbers_within (length (hex_bytes field)) (hex_bytes field) (IsBytes-hex_bytes (decode_of field) field refl))

-- the number of two bytes, and of four
short-fits : (a b : ℕ) → a < 256 → b < 256 → from_be_bytes w16 (a ∷ b ∷ []) < 2 ^ 16
short-fits a b fa fb = omega arith

two_bytes : (bytes : List ℕ) → length bytes ≡ 2 → IsBytes bytes → from_be_bytes w16 bytes < 2 ^ 16
two_bytes [] long fit = absurd (omega arith)
two_bytes (a ∷ []) long fit = absurd (omega arith)
two_bytes (a ∷ b ∷ []) long fit = short-fits a b (fit 0) (fit 1)
two_bytes (a ∷ b ∷ c ∷ rest) long fit = absurd (omega arith)

word-fits : (a b c d : ℕ) → a < 256 → b < 256 → c < 256 → d < 256 → from_be_bytes w32 (a ∷ b ∷ c ∷ d ∷ []) < 2 ^ 32
word-fits a b c d fa fb fc fd = omega arith

four_bytes : (bytes : List ℕ) → length bytes ≡ 4 → IsBytes bytes → from_be_bytes w32 bytes < 2 ^ 32
four_bytes [] long fit = absurd (omega arith)
four_bytes (a ∷ []) long fit = absurd (omega arith)
four_bytes (a ∷ b ∷ []) long fit = absurd (omega arith)
four_bytes (a ∷ b ∷ c ∷ []) long fit = absurd (omega arith)
four_bytes (a ∷ b ∷ c ∷ d ∷ []) long fit = word-fits a b c d (fit 0) (fit 1) (fit 2) (fit 3)
four_bytes (a ∷ b ∷ c ∷ d ∷ e ∷ rest) long fit = absurd (omega arith)

-- option codes of 16 bits, and words of 32 bits
pub IsValue-codes : IsValue (numbers_text w16) (AreOfWidth w16) (numbers_in w16)
IsValue-codes = IsValue-numbers w16 (record { some = omega arith; back = big_endian_16; small = two_bytes })

pub IsValue-words : IsValue words_text AreWords words_in
IsValue-words = IsValue-numbers w32 (record { some = omega arith; back = big_endian_32; small = four_bytes })

-- ---- addresses

-- a decimal number of a byte
octet : (n : ℕ) → n < 2 ^ 8 → digits_value 10 (decimal n) ≡ n
octet n fits = digits_value-decimal own n (omega arith)

-- a decimal number is digits
pub All-decimal : (n : ℕ) → n < 2 ^ 64 → All (λ byte. (48 ≤ byte) × (byte ≤ 57)) (decimal n)
All-decimal n fits =
    let digits = (decimal_is_IsNumeral n fits).0.1 in
    let digit : ℕ → Type 0 = λ byte. (48 ≤ byte) × (byte ≤ 57) in
    All-from_get_or digit (decimal n) 0 (λ i below. digit_at (decimal n) i digits below)

-- which holds no dot
no_dot : (n : ℕ) → n < 2 ^ 8 → All (λ byte. (byte == 46) ≡ false) (decimal n)
no_dot n fits =
    let digit : ℕ → Type 0 = λ byte. (48 ≤ byte) × (byte ≤ 57) in
    let other : ℕ → Type 0 = λ byte. (byte == 46) ≡ false in
    All-weaker digit other (λ byte range. ne_eqb byte 46 (λ e. omega arith)) (decimal n) (All-decimal n (omega arith))

-- the numbers of an address's text are its octets
numbers-ipv4_text : (octets : List ℕ) → length octets ≡ 4 → ((k : ℕ) → get_or octets k 0 < 2 ^ 8)
    → map (digits_value 10) (slice_split (λ byte. byte == 46) (ipv4_text octets)) ≡ octets
numbers-ipv4_text [] long fit = absurd (omega arith)
numbers-ipv4_text (a ∷ []) long fit = absurd (omega arith)
numbers-ipv4_text (a ∷ b ∷ []) long fit = absurd (omega arith)
numbers-ipv4_text (a ∷ b ∷ c ∷ []) long fit = absurd (omega arith)
numbers-ipv4_text (a ∷ b ∷ c ∷ d ∷ []) long fit =
    let is_dot : ℕ → Bool = λ byte. byte == 46 in
    let third : List ℕ = decimal c ++ 46 ∷ decimal d in
    let second : List ℕ = decimal b ++ 46 ∷ third in
    let spelled : ipv4_text (a ∷ b ∷ c ∷ d ∷ []) ≡ decimal a ++ 46 ∷ second = simp append_assoc in
    let split : slice_split is_dot (ipv4_text (a ∷ b ∷ c ∷ d ∷ [])) ≡ decimal a ∷ decimal b ∷ decimal c ∷ decimal d ∷ [] =
    ap (slice_split is_dot) spelled
    ∙ slice_split_at is_dot (decimal a) 46 second (no_dot a (fit 0)) refl
    ∙ ap (λ parts. decimal a ∷ parts) (slice_split_at is_dot (decimal b) 46 third (no_dot b (fit 1)) refl
    ∙ ap (λ parts. decimal b ∷ parts) (slice_split_at is_dot (decimal c) 46 (decimal d) (no_dot c (fit 2)) refl
    ∙ ap (λ parts. decimal c ∷ parts) (slice_split_none is_dot (decimal d) (no_dot d (fit 3))))) in
    ap (map (digits_value 10)) split
    ∙ ap (λ n. n ∷ digits_value 10 (decimal b) ∷ digits_value 10 (decimal c) ∷ digits_value 10 (decimal d) ∷ []) (octet a (fit 0))
    ∙ ap (λ n. a ∷ n ∷ digits_value 10 (decimal c) ∷ digits_value 10 (decimal d) ∷ []) (octet b (fit 1))
    ∙ ap (λ n. a ∷ b ∷ n ∷ digits_value 10 (decimal d) ∷ []) (octet c (fit 2))
    ∙ ap (λ n. a ∷ b ∷ c ∷ n ∷ []) (octet d (fit 3))
numbers-ipv4_text (a ∷ b ∷ c ∷ d ∷ e ∷ rest) long fit = absurd (omega arith)

-- four octets pass the test
are_octets-four : (octets : List ℕ) → length octets ≡ 4 → ((k : ℕ) → get_or octets k 0 < 2 ^ 8) → are_octets octets ≡ true
are_octets-four [] long fit = absurd (omega arith)
are_octets-four (a ∷ []) long fit = absurd (omega arith)
are_octets-four (a ∷ b ∷ []) long fit = absurd (omega arith)
are_octets-four (a ∷ b ∷ c ∷ []) long fit = absurd (omega arith)
are_octets-four (a ∷ b ∷ c ∷ d ∷ []) long fit = rw (lt-ltb a 256 (fit 0), lt-ltb b 256 (fit 1), lt-ltb c 256 (fit 2), lt-ltb d 256 (fit 3)) refl
are_octets-four (a ∷ b ∷ c ∷ d ∷ e ∷ rest) long fit = absurd (omega arith)

-- octets that pass the test are below 256, and what is past them is 0
below_256 : (octets : List ℕ) → list_all (λ octet. nat_lt octet 256) octets ≡ true → (k : ℕ) → get_or octets k 0 < 2 ^ 8
below_256 [] h k = omega arith
below_256 (a ∷ octets) h zero = ltb-true a 256 (and_parts (nat_lt a 256) (list_all (λ octet. nat_lt octet 256) octets) h).0
below_256 (a ∷ octets) h (suc k) = below_256 octets (and_parts (nat_lt a 256) (list_all (λ octet. nat_lt octet 256) octets) h).1 k

-- addresses
pub IsValue-address : IsValue address_text IsIpv4Addr address_in
unfolding address_in
IsValue-address =
    IsValue-checked address_text (λ address. are_octets (ipv4_octets address)) IsIpv4Addr (λ field. address_of (map (digits_value 10) (slice_split (λ byte. byte == 46) field)))
    (λ address fits. ap address_of (numbers-ipv4_text (ipv4_octets address) fits.0 fits.1))
    (λ address fits. are_octets-four (ipv4_octets address) fits.0 fits.1)
    (λ field passes same.
    let octets = map (digits_value 10) (slice_split (λ byte. byte == 46) field) in
    let parts = and_parts (length octets == 4) (list_all (λ octet. nat_lt octet 256) octets) passes in
    (eqb-true (length octets) 4 parts.0, below_256 octets parts.1))

-- ---- what a reader takes

-- what is made of a field that was cut off
pub takes_value : {A : Type 0} {print : A → List ℕ} {Fits : A → Type 0} {value : List ℕ → Option A} → IsValue print Fits value
    → (end : ℕ) (text field left : List ℕ) (read : Option A) (answer : Result A ReadError)
    → field_at end text ≡ Some (field, left) → IsReading print Fits read field → answer ≡ ok_or read Malformed
    → Takes answer left (in_field value end text)
takes_value is end text field left None answer cut reading made = rw (made, cut, ← by_reading is None field reading) refl
takes_value is end text field left (Some x) answer cut reading made = rw (made, cut, ← by_reading is (Some x) field reading) refl

-- the same where that may need memory
pub takes_found : {A : Type 0} {print : A → List ℕ} {Fits : A → Type 0} {value : List ℕ → Option A} → IsValue print Fits value
    → (end : ℕ) (text field left : List ℕ) (read : Result (Option A) ErrorParts) (answer : Result A ReadError)
    → field_at end text ≡ Some (field, left) → GivesReading print Fits read field → IsFound read answer
    → Takes answer left (in_field value end text)
takes_found is end text field left (Ok None) answer cut reading made = rw (made, cut, ← by_reading is None field reading) refl
takes_found is end text field left (Ok (Some x)) answer cut reading made = rw (made, cut, ← by_reading is (Some x) field reading) refl
takes_found is end text field left (Err e) answer cut reading made = rw made tt

-- a number that was read is within its limit
pub number-small : {E : Type 0} (max : ℕ) (field : List ℕ) (read : Option ℕ) (e : E) (answer : Result ℕ E)
    → IsReading decimal (λ n. n ≤ max) read field → answer ≡ ok_or read e → IfOk answer (λ n. n ≤ max)
number-small max field None e answer reading made = rw made tt
number-small max field (Some n) e answer reading made = rw made reading.1

-- what a field gives
pub finds_value : {A : Type 0} {print : A → List ℕ} {Fits : A → Type 0} {value : List ℕ → Option A} → IsValue print Fits value
    → (field : List ℕ) (read : Option A) (answer : Result A ReadError) → IsReading print Fits read field → answer ≡ ok_or read Malformed → Finds answer (value field)
finds_value is field None answer reading made = rw (made, ← by_reading is None field reading) refl
finds_value is field (Some x) answer reading made = rw (made, ← by_reading is (Some x) field reading) refl

-- the same where that may need memory
pub finds_found : {A : Type 0} {print : A → List ℕ} {Fits : A → Type 0} {value : List ℕ → Option A} → IsValue print Fits value
    → (field : List ℕ) (read : Result (Option A) ErrorParts) (answer : Result A ReadError) → GivesReading print Fits read field → IsFound read answer
    → Finds answer (value field)
finds_found is field (Ok None) answer reading made = rw (made, ← by_reading is None field reading) refl
finds_found is field (Ok (Some x)) answer reading made = rw (made, ← by_reading is (Some x) field reading) refl
finds_found is field (Err e) answer reading made = rw made tt
