-- Lines of a text, and their fields.
use Rattle.std.specs.Prelude.{ℕ, List, [], ◌∷◌, ◌++◌}
use Rattle.std.specs.List.{join_with_byte}

-- a line: its text, and a line feed
abbrev pub line : List ℕ → List ℕ
line text = text ++ 10 ∷ []

-- fields with a space between two
abbrev pub spaced : List (List ℕ) → List ℕ
spaced fields = join_with_byte 32 fields
