-- Fields of texts in hex: bytes, two lower-case digits for each, numbers of a width, MAC addresses
-- and IPv6 addresses.
use Rattle.std.specs.Prelude.{◌≡◌, ◌<◌, ◌^◌, ◌*◌, ℕ, Bool, ◌&&◌, ◌||◌, nat_le, List, [], ◌∷◌, length, codes, All}
use Rattle.std.specs.List.{flat_map}
use Rattle.std.specs.Int.{Width, w32, byte_len, to_be_bytes}
use Rattle.std.specs.Net.Addr.{ipv6_octets}
use Rattle.std.specs.Str.{IsUtf8}
use Rattle.std.specs.declared.net.Ipv6Addr.{Ipv6Addr}
use Rattle.hex.specs.Hex.{IsBytes, encode_lower}

-- the text of a list of bytes: its digits, or `-` where it has none
abbrev pub hex_text : List ℕ → List ℕ
hex_text [] = codes "-"
hex_text (byte ∷ bytes) = encode_lower (byte ∷ bytes)

-- whether a byte is a digit `0` to `9` or a letter `a` to `f`
abbrev pub is_lower_digit : ℕ → Bool
is_lower_digit byte = (nat_le 48 byte && nat_le byte 57) || (nat_le 97 byte && nat_le byte 102)

-- so many bytes
abbrev pub AreOctets : ℕ → List ℕ → Type 0
AreOctets n octets = (length octets ≡ n) × IsBytes octets

-- the six bytes of a MAC address
abbrev pub IsMac : List ℕ → Type 0
IsMac mac = AreOctets 6 mac

-- the text of an IPv6 address: the digits of its sixteen octets
abbrev pub address6_text : Ipv6Addr → List ℕ
address6_text address = encode_lower (ipv6_octets address)

-- the bytes of numbers of a width, the most significant byte of each first
abbrev pub number_bytes : Width → List ℕ → List ℕ
number_bytes width numbers = flat_map (to_be_bytes width) numbers

-- the text of such numbers: two digits for each byte, or `-` where there is none
abbrev pub numbers_text : Width → List ℕ → List ℕ
numbers_text width numbers = hex_text (number_bytes width numbers)

-- numbers of a width
abbrev pub AreOfWidth : Width → List ℕ → Type 0
AreOfWidth width numbers = All (λ number. number < 2 ^ (8 * byte_len width)) numbers

-- the text of words of 32 bits: eight digits for each, or `-` where there is none
abbrev pub words_text : List ℕ → List ℕ
words_text words = numbers_text w32 words

-- numbers of 32 bits
abbrev pub AreWords : List ℕ → Type 0
AreWords words = AreOfWidth w32 words

-- the bytes of a text, which are UTF-8
pub record IsText (bytes : List ℕ) : Type 0 where
  pub are_bytes : IsBytes bytes
  pub utf8 : IsUtf8 bytes
