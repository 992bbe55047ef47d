-- A dialogue over a reader and a writer of std. What it hears is taken from the front of the bytes
-- that the reader has left, and what it says is added to those that the writer holds, where std
-- knows these.
use Rattle.std.specs.Prelude.{◌≡◌, ℕ, ◌+◌, ◌<◌, ◌≤◌, Bool, true, false, List, [], ◌++◌, length, take, Option, Some, None}
use Rattle.std.specs.Io.KnownBytes.{Appends, Consumes, IsAtEnd, prepend_known}
use Rattle.dhcp_stream.specs.Line.{line}
use Rattle.dhcp_stream.specs.Standard.{StdSinkView, StdSourceView}
use Rattle.dhcp_stream.specs.TextReader.{field_at}
use Rattle.dhcp_dialogue.specs.Dialogue.{Turn, Hears, Misses, Says, most_line_bytes}
use Rattle.dhcp_dialogue.specs.declared.dialogue.Unheard.{Unheard}
use Rattle.dhcp_dialogue.specs.declared.dialogue.Unheard.TheVariants.{End, TooLong, Failed, NoMemory}

-- what contracts see of it: the bytes that were read and not heard yet, and its source and its sink
pub record StdDialogueView : Type 0 where
  pub ahead : List ℕ
  pub source : StdSourceView
  pub sink : StdSinkView

-- the bytes that are still to be heard: those that were read, and those that the reader has left
abbrev pub to_hear : StdDialogueView → Option (List ℕ)
to_hear dialogue = prepend_known dialogue.ahead dialogue.source.remaining

-- how many bytes one read asks for
abbrev pub piece_bytes : ℕ
piece_bytes = 8192

-- Why no line was heard, by the bytes that are gone and those that are left. Of a line that is too
-- long at most one read more is gone than a line has.
abbrev pub IsWhy : Unheard → List ℕ → Option (List ℕ) → Type 0
IsWhy End gone left = (length gone ≤ most_line_bytes) × IsAtEnd left
IsWhy TooLong gone left =
    (most_line_bytes < length gone) × (length gone ≤ most_line_bytes + piece_bytes)
IsWhy Failed gone left = length gone ≤ most_line_bytes
IsWhy NoMemory gone left = length gone ≤ most_line_bytes

-- no line was heard: bytes are gone, among which no line feed ends a line that is short enough
pub record MissesLine (why : Unheard) (before after : StdDialogueView) : Type 0 where
  pub gone : List ℕ
  pub moved : Consumes (to_hear before) (to_hear after) gone
  pub no_line : field_at 10 (take most_line_bytes gone) ≡ None
  pub why_is : IsWhy why gone (to_hear after)

-- what is to be heard, and the reader, stay as they were
pub record HearsNothing (before after : StdDialogueView) : Type 0 where
  pub ahead : after.ahead ≡ before.ahead
  pub source : after.source ≡ before.source

-- what a turn does: hearing leaves the writer as it was, and saying what is to be heard; of a text
-- that did not go out whole, the first bytes are written, at most all of them
abbrev pub MovesBytes : Turn → StdDialogueView → StdDialogueView → Type 0
MovesBytes (Hears text) before after =
    Consumes (to_hear before) (to_hear after) text × (after.sink ≡ before.sink)
MovesBytes (Misses why) before after = MissesLine why before after × (after.sink ≡ before.sink)
MovesBytes (Says text true) before after =
    HearsNothing before after × Appends before.sink.contents after.sink.contents text
MovesBytes (Says text false) before after =
    HearsNothing before after × (n : ℕ) × (n ≤ length text)
    × Appends before.sink.contents after.sink.contents (take n text)

-- What was read is moved to the end of a line: up to and with the first line feed, if there is one;
-- else all of it.
abbrev pub MovesLine : Bool → List ℕ → List ℕ → List ℕ → List ℕ → Type 0
MovesLine true ahead ahead' text text' = (before : List ℕ)
    × ((field_at 10 ahead ≡ Some (before, ahead')) × (text' ≡ text ++ line before))
MovesLine false ahead ahead' text text' =
    (field_at 10 ahead ≡ None) × ((text' ≡ text ++ ahead) × (ahead' ≡ []))
