-- Lines of one kind, each after the same word, and what follows the last of them.
use Rattle.std.specs.Prelude.{ℕ, zero, suc, List, [], ◌∷◌, length, Some, None}
use Rattle.dhcp_wire.specs.Field.{Read, ◌>>=◌}
use Rattle.dhcp_stream.specs.TextReader.{made_of, tag_at}
use Rattle.dhcp_script.specs.FieldReader.{if_tag}

-- lines, each after the first word and each read so, and then the second word; fewer lines than
-- this number
unfoldable pub lines_within : {A : Type 0} → List ℕ → (List ℕ → Read A) → List ℕ → ℕ → List ℕ
    → Read (List A)
lines_within tag line_at end zero text = None
lines_within tag line_at end (suc most) text =
    if_tag (tag_at tag text) (λ text. do
      first ← line_at text
      lines ← lines_within tag line_at end most first.1
      Some (first.0 ∷ lines.0, lines.1))
    (made_of (λ ended. []) (tag_at end) text)

-- the same of however many lines: there are fewer than the text has bytes
abbrev pub lines_at : {A : Type 0} → List ℕ → (List ℕ → Read A) → List ℕ → List ℕ → Read (List A)
lines_at tag line_at end text = lines_within tag line_at end (suc (length text)) text
