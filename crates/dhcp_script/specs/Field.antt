-- The fields of a line: single spaces part them.
use Rattle.std.specs.Prelude.{ℕ, Bool, if◌then◌else◌, List, [], ◌∷◌, map, codes, Option, Some, None}
use Rattle.std.specs.List.{join_with_byte}

-- a list with a comma between two items, or `-` where it has none
abbrev pub list_text : {A : Type 0} → (A → List ℕ) → List A → List ℕ
list_text item [] = codes "-"
list_text item (first ∷ items) = join_with_byte 44 (map item (first ∷ items))

-- a field, or a word where there is no value
abbrev pub or_word : {A : Type 0} → List ℕ → (A → List ℕ) → Option A → List ℕ
or_word word field None = word
or_word word field (Some value) = field value

-- a field that may be absent: the word `none` where it is
abbrev pub unless_none : {A : Type 0} → (A → List ℕ) → Option A → List ℕ
unless_none field value = or_word (codes "none") field value

-- one word or another
abbrev pub flag_text : List ℕ → List ℕ → Bool → List ℕ
flag_text set unset flag = if flag then set else unset
