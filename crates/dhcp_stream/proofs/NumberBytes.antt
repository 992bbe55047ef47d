-- The bytes of a number of a width.
use Rattle.std.proofs.Common.{◌≡◌, ◌<◌, ℕ, zero, suc, List, [], ◌∷◌, ◌++◌, length, arith}
use Rattle.std.specs.Int.{Width, byte_at, byte_len, bytes_high_first, to_be_bytes}
use Rattle.hex.specs.Hex.{IsBytes}
use Rattle.dhcp_wire.proofs.FieldLaws.{length-bytes_high_first}

-- so many bytes
pub length-to_be_bytes : (width : Width) (number : ℕ) → length (to_be_bytes width number) ≡ byte_len width
length-to_be_bytes width number = length-bytes_high_first (byte_len width) number

-- each of them is a byte
byte_at-small : (k number : ℕ) → byte_at k number < 256
byte_at-small zero number = omega arith
byte_at-small (suc k) number = omega arith

IsBytes-high_first : (k number : ℕ) → IsBytes (bytes_high_first k number)
IsBytes-high_first zero number i = omega arith
IsBytes-high_first (suc k) number zero = byte_at-small k number
IsBytes-high_first (suc k) number (suc i) = IsBytes-high_first k number i

pub IsBytes-to_be_bytes : (width : Width) (number : ℕ) → IsBytes (to_be_bytes width number)
IsBytes-to_be_bytes width number = IsBytes-high_first (byte_len width) number

-- two lists of bytes, one after the other
pub IsBytes-append : (xs ys : List ℕ) → IsBytes xs → IsBytes ys → IsBytes (xs ++ ys)
IsBytes-append [] ys h k i = k i
IsBytes-append (x ∷ xs) ys h k zero = h 0
IsBytes-append (x ∷ xs) ys h k (suc i) = IsBytes-append xs ys (λ j. h (suc j)) k i

-- the parts of a list of bytes
pub IsBytes-front : (xs ys : List ℕ) → IsBytes (xs ++ ys) → IsBytes xs
IsBytes-front [] ys h i = omega arith
IsBytes-front (x ∷ xs) ys h zero = h 0
IsBytes-front (x ∷ xs) ys h (suc i) = IsBytes-front xs ys (λ j. h (suc j)) i

pub IsBytes-rest : (xs ys : List ℕ) → IsBytes (xs ++ ys) → IsBytes ys
IsBytes-rest [] ys h i = h i
IsBytes-rest (x ∷ xs) ys h i = IsBytes-rest xs ys (λ j. h (suc j)) i
