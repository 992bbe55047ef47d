-- The option codes that a client asks for, as a script of either family lists them.
use Rattle.std.specs.Prelude.{ℕ, Bool, true, nat_le, List, length, codes, Option, Some, None}
use Rattle.dhcp_wire.specs.Field.{Read}
use Rattle.dhcp_stream.specs.TextReader.{after_tag, in_field}
use Rattle.dhcp_script.specs.Field.{or_word}
use Rattle.dhcp_script.specs.FieldReader.{word_or}

-- whether the codes that are listed, if any are, are not more than the most
abbrev pub are_few : {A : Type 0} → ℕ → Option (List A) → Bool
are_few most None = true
are_few most (Some listed) = nat_le (length listed) most

-- the options that a configuration asks for: those listed, in rising order and each once; else
-- those of a new configuration
abbrev pub request_list : {A : Type 0} → (List ℕ → List A) → Option (List ℕ) → List A → List A
request_list rising None by_default = by_default
request_list rising (Some listed) by_default = rising listed

-- the codes: those listed, or the word `default`
abbrev pub listed_text : {A : Type 0} → (A → List ℕ) → Option A → List ℕ
listed_text codes_text listed = or_word (codes "default") codes_text listed

-- the line of the codes
abbrev pub codes_at : {A : Type 0} → (List ℕ → Option A) → List ℕ → Read (Option A)
codes_at codes_in text =
    after_tag (codes "codes ") (in_field (word_or (codes "default") codes_in) 10) text
