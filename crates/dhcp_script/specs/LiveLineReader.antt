-- The reading of the lines that a program is told one by one.
use Rattle.std.specs.Prelude.{ℕ, ◌==◌, if◌then◌else◌, List, length, codes, Option, Some, None}
use Rattle.dhcp_wire.specs.Field.{Read, ◌>>=◌}
use Rattle.dhcp_stream.specs.TextReader.{in_field, made_of, tag_at, words_in}
use Rattle.dhcp_script.specs.declared.live_line.LiveLine.{LiveLine}
use Rattle.dhcp_script.specs.declared.live_line.LiveLine.TheVariants.{Event, Words, End}
use Rattle.dhcp_script.specs.FieldReader.{if_tag}
use Rattle.dhcp_script.specs.LifeReader.{event_at}

-- a line, from the front of a text
unfoldable pub live_line_at : List ℕ → Read LiveLine
live_line_at text =
    if_tag (tag_at (codes "at ") text) (made_of Event event_at)
    (if_tag (tag_at (codes "words ") text) (made_of Words (in_field words_in 10))
    (made_of (λ ended. End) (tag_at (codes "end\n")) text))

-- a line, which is the whole text
unfoldable pub live_line_in : List ℕ → Option LiveLine
live_line_in text = do
  read ← live_line_at text
  if length read.1 == 0 then Some read.0 else None
