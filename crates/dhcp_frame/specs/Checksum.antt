-- The checksum of RFC 1071.
use Rattle.std.specs.Prelude.{◌≡◌, ℕ, ◌≤◌, ◌+◌, ◌-◌, ◌*◌, ◌<◌, List, [], ◌∷◌, slice_index, nat_lt, if◌then◌else◌}

-- each of these numbers fits one byte
abbrev pub AreBytes : List ℕ → Type 0
AreBytes bytes = (k : ℕ) → slice_index bytes k < 256

-- the 16-bit word of these two bytes
abbrev pub word : ℕ → ℕ → ℕ
word high low = high * 256 + low

-- ones'-complement addition of two 16-bit words: a carry out of the 16 bits is added back in
abbrev pub add_words : ℕ → ℕ → ℕ
add_words a b = if nat_lt (a + b) 65536 then a + b else a + b - 65536 + 1

-- the ones'-complement sum of the 16-bit words of these bytes; a last byte alone is followed by a
-- zero byte
unfoldable pub ones_complement_sum : List ℕ → ℕ
ones_complement_sum [] = 0
ones_complement_sum (high ∷ []) = word high 0
ones_complement_sum (high ∷ low ∷ bytes) = add_words (word high low) (ones_complement_sum bytes)

-- the complement of a 16-bit word
abbrev pub complement_of : ℕ → ℕ
complement_of sum = 65535 - sum

-- the checksum of these bytes: the complement of that sum
abbrev pub checksum : List ℕ → ℕ
checksum bytes = complement_of (ones_complement_sum bytes)

-- the plain sum of the same words, with all its carries
unfoldable pub word_sum : List ℕ → ℕ
word_sum [] = 0
word_sum (high ∷ []) = word high 0
word_sum (high ∷ low ∷ bytes) = word high low + word_sum bytes

-- What a plain sum becomes once its carries are added back in: a 16-bit word that differs from it
-- by a multiple of 65535, and is 0 only where the sum is.
pub record IsCarried (sum carried : ℕ) : Type 0 where
  pub fits : carried ≤ 65535
  pub zero_only : carried ≡ 0 → sum ≡ 0
  pub carries : (count : ℕ) × (sum ≡ carried + 65535 * count)
