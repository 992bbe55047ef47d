-- The lines of a life that a program is told one by one.
use Rattle.std.specs.Prelude.{ℕ, List, ◌++◌, codes}
use Rattle.dhcp_stream.specs.HexText.{AreWords, words_text}
use Rattle.dhcp_stream.specs.Line.{line}
use Rattle.dhcp_script.specs.declared.live_line.LiveLine.{LiveLine}
use Rattle.dhcp_script.specs.declared.live_line.LiveLine.TheVariants.{Event, Words, End}
use Rattle.dhcp_script.specs.Life.{IsEvent, event_line}

-- an event, further words, or the last line
abbrev pub live_line_text : LiveLine → List ℕ
live_line_text (Event event) = event_line event
live_line_text (Words words) = line (codes "words " ++ words_text words)
live_line_text End = line (codes "end")

-- one whose moment, bytes and words fit their types
abbrev pub IsLiveLine : LiveLine → Type 0
IsLiveLine (Event event) = IsEvent event
IsLiveLine (Words words) = AreWords words
IsLiveLine End = Unit {0}
