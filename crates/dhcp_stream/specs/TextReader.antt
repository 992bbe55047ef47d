-- Reading a text from its front: words, and fields up to a byte that they do not hold. A reading
-- gives the value and what is left of the text.
use Rattle.std.specs.Prelude.{◌≡◌, ℕ, zero, suc, ◌==◌, ◌&&◌, nat_lt, nat_le, Bool, true, false, if◌then◌else◌, List, [], ◌∷◌, length, map, position, Option, Some, None, option_map, unwrap_or, Result, Ok, Err}
use Rattle.std.specs.Borrow.{Bor}
use Rattle.std.specs.List.{list_all, slice_split}
use Rattle.std.specs.Fmt.{decimal}
use Rattle.std.specs.Result.{result_unwrap_or}
use Rattle.std.specs.Str.{bytes_eq, is_utf8}
use Rattle.std.specs.Str.Parse.{digits_value}
use Rattle.std.specs.Int.{Width, w32}
use Rattle.std.specs.Net.Addr.{ipv4_octets, ipv6_segments}
use Rattle.std.specs.declared.net.Ipv4Addr.{Ipv4Addr}
use Rattle.std.specs.declared.net.Ipv6Addr.{Ipv6Addr}
use Rattle.hex.specs.Hex.{decode_of, encode_lower}
use Rattle.dhcp_wire.specs.Error.{ErrorParts}
use Rattle.dhcp_wire.specs.Field.{Read, ◌>>=◌, address_of, ipv6_address_of, number_at}
use Rattle.dhcp_stream.specs.HexText.{address6_text, hex_text, numbers_text}
use Rattle.dhcp_stream.specs.Number.{address_text}
use Rattle.dhcp_stream.specs.declared.text_reader.ReadError.{ReadError}
use Rattle.dhcp_stream.specs.declared.text_reader.ReadError.TheVariants.{Malformed, OutOfMemory}

-- What a reading returns, and the bytes that it leaves, against the definition: a value only if the
-- definition gives it and leaves these bytes, and Malformed only if it gives none. Out of memory is
-- allowed whatever it gives. After an error nothing is said of the bytes left.
abbrev pub Takes : {X : Type 0} → Result X ReadError → List ℕ → Read X → Type 0
Takes (Ok x) left expected = expected ≡ Some (x, left)
Takes (Err Malformed) left expected = expected ≡ None
Takes (Err OutOfMemory) left expected = Unit {0}

-- The same of a reading that gives a part of the text, and is never out of memory: Malformed if and
-- only if the definition gives none.
abbrev pub TakesField : Result (Bor (List ℕ)) ReadError → List ℕ → Read (List ℕ) → Type 0
TakesField (Ok field) left expected = expected ≡ Some (field.now, left)
TakesField (Err Malformed) left expected = expected ≡ None
TakesField (Err OutOfMemory) left expected = ⊥

-- What skipping returns, and the bytes before and after it, against the definition: true only if
-- this leaves those after it, and false only if it gives none, and then nothing is skipped.
abbrev pub Skips : Bool → List ℕ → List ℕ → Read (Unit {0}) → Type 0
Skips true old new expected = expected ≡ Some (tt, new)
Skips false old new expected = (expected ≡ None) × (new ≡ old)

-- The answer for what a field gave, where that may need memory: none is Malformed, and each error
-- is out of memory.
abbrev pub IsFound : {X : Type 0} → Result (Option X) ErrorParts → Result X ReadError → Type 0
IsFound (Ok (Some x)) answer = answer ≡ Ok x
IsFound (Ok None) answer = answer ≡ Err Malformed
IsFound (Err e) answer = answer ≡ Err OutOfMemory

-- What a field gives, against the definition: a value only if the definition gives it, and
-- Malformed only if it gives none. Out of memory is allowed whatever it gives.
abbrev pub Finds : {X : Type 0} → Result X ReadError → Option X → Type 0
Finds (Ok x) expected = expected ≡ Some x
Finds (Err Malformed) expected = expected ≡ None
Finds (Err OutOfMemory) expected = Unit {0}

-- what follows these bytes, where the text begins with them
unfoldable pub tag_at : List ℕ → List ℕ → Read (Unit {0})
tag_at [] text = Some (tt, text)
tag_at (byte ∷ tag) [] = None
tag_at (byte ∷ tag) (first ∷ text) = if first == byte then tag_at tag text else None

-- where the first such byte is, if there is one
unfoldable pub first_of : ℕ → List ℕ → Option ℕ
first_of end text = position (λ byte. byte == end) text

-- the field before the first such byte, which is skipped; none without such a byte
unfoldable pub field_at : ℕ → List ℕ → Read (List ℕ)
field_at end [] = None
field_at end (byte ∷ text) =
    if byte == end then Some ([], text)
    else option_map (λ read. (byte ∷ read.0, read.1)) (field_at end text)

-- what the field before the first such byte gives
abbrev pub in_field : {A : Type 0} → (List ℕ → Option A) → ℕ → List ℕ → Read A
in_field value end text = do
  field ← field_at end text
  x ← value field.0
  Some (x, field.1)

-- one after the other
abbrev pub both : {A B : Type 0} → (List ℕ → Read A) → (List ℕ → Read B) → List ℕ → Read (A × B)
both first second text = do
  x ← first text
  y ← second x.1
  Some ((x.0, y.0), y.1)

-- after these bytes
abbrev pub after_tag : {A : Type 0} → List ℕ → (List ℕ → Read A) → List ℕ → Read A
after_tag tag next text = do
  found ← tag_at tag text
  next found.1

-- the value that is made of what is read
abbrev pub made_of : {A B : Type 0} → (A → B) → (List ℕ → Read A) → List ℕ → Read B
made_of make read text = option_map (λ found. (make found.0, found.1)) (read text)

-- this value for a field: none if the value is not allowed, or is not printed as the field
abbrev pub checked : {A : Type 0} → (A → List ℕ) → (A → Bool) → A → List ℕ → Option A
checked print is_allowed value field =
    if is_allowed value && bytes_eq (print value) field then Some value else None

-- a decimal number, at most `max`
unfoldable pub number_in : ℕ → List ℕ → Option ℕ
number_in max field = checked decimal (λ number. nat_le number max) (digits_value 10 field) field

-- four numbers below 256
abbrev pub are_octets : List ℕ → Bool
are_octets octets = length octets == 4 && list_all (λ octet. nat_lt octet 256) octets

-- an IPv4 address: four decimal numbers with dots between them
unfoldable pub address_in : List ℕ → Option Ipv4Addr
address_in field =
    checked address_text (λ address. are_octets (ipv4_octets address))
    (address_of (map (digits_value 10) (slice_split (λ byte. byte == 46) field))) field

-- the bytes of pairs of hex digits; no bytes, where the field is not made of such pairs
abbrev pub hex_bytes : List ℕ → List ℕ
hex_bytes field = result_unwrap_or (decode_of field) []

-- bytes in lower-case hex, or `-` for no bytes
unfoldable pub hex_in : List ℕ → Option (List ℕ)
hex_in field = checked hex_text (λ bytes. true) (hex_bytes field) field

-- the bytes of a UTF-8 text in lower-case hex, or `-` for no bytes
unfoldable pub hex_utf8_in : List ℕ → Option (List ℕ)
hex_utf8_in field = checked hex_text is_utf8 (hex_bytes field) field

-- a MAC address: six bytes in lower-case hex
unfoldable pub mac_in : List ℕ → Option (List ℕ)
mac_in field = checked encode_lower (λ bytes. length bytes == 6) (hex_bytes field) field

-- an IPv6 address: sixteen bytes in lower-case hex
unfoldable pub address6_in : List ℕ → Option Ipv6Addr
address6_in field =
    checked address6_text (λ address. length (ipv6_segments address) == 8)
    (ipv6_address_of (hex_bytes field)) field

-- numbers of a width, at most so many, from the front of some bytes, as far as whole numbers stand
-- there
unfoldable pub numbers_within : ℕ → Width → List ℕ → List ℕ
numbers_within zero width bytes = []
numbers_within (suc most) width bytes =
    unwrap_or (option_map (λ read. read.0 ∷ numbers_within most width read.1)
    (number_at width bytes)) []

-- numbers of a width from the front of some bytes, at most as many as there are bytes; bytes at the
-- end that are too few for a number are left out
abbrev pub numbers_of : Width → List ℕ → List ℕ
numbers_of width bytes = numbers_within (length bytes) width bytes

-- numbers of a width in lower-case hex, two digits for each byte, or `-` for no numbers
unfoldable pub numbers_in : Width → List ℕ → Option (List ℕ)
numbers_in width field =
    checked (numbers_text width) (λ numbers. true) (numbers_of width (hex_bytes field)) field

-- words of eight lower-case hex digits, or `-` for no words
abbrev pub words_in : List ℕ → Option (List ℕ)
words_in field = numbers_in w32 field
