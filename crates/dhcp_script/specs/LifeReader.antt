-- The reading of what a script of either family has after its configuration.
use Rattle.std.specs.Prelude.{ℕ, zero, suc, Bool, if◌then◌else◌, List, [], ◌∷◌, length, codes, Option, Some, None}
use Rattle.std.specs.Str.{bytes_eq}
use Rattle.dhcp_wire.specs.Field.{Read, ◌>>=◌}
use Rattle.dhcp_stream.specs.TextReader.{after_tag, both, hex_in, in_field, made_of, number_in, tag_at, words_in}
use Rattle.dhcp_script.specs.declared.event.Event.{Event}
use Rattle.dhcp_script.specs.declared.event.EventWhat.{EventWhat}
use Rattle.dhcp_script.specs.declared.event.EventWhat.TheVariants.{Nothing, Frame, Payload, Release, CleanUp}
use Rattle.dhcp_script.specs.declared.life.Life.{Life}
use Rattle.dhcp_script.specs.FieldReader.{flag_in, if_tag}

-- what happens without a packet
abbrev pub call_in : List ℕ → Option EventWhat
call_in field =
    if bytes_eq field (codes "none") then Some Nothing
    else if bytes_eq field (codes "release") then Some Release
    else if bytes_eq field (codes "cleanup") then Some CleanUp
    else None

-- what happens
unfoldable pub what_at : List ℕ → Read EventWhat
what_at text =
    if_tag (tag_at (codes "frame ") text) (made_of Frame (in_field hex_in 10))
    (if_tag (tag_at (codes "payload ") text) (made_of Payload (in_field hex_in 10))
    (in_field call_in 10 text))

-- the event of its parts
abbrev pub event_of : ℕ × (Bool × EventWhat) → Event
event_of parts = record { moment = parts.0; refuse = parts.1.0; what = parts.1.1 }

-- an event, after `at `
unfoldable pub event_at : List ℕ → Read Event
event_at text =
    made_of event_of (both (in_field (number_in 18446744073709551615) 32)
    (both (in_field (flag_in (codes "refuse") (codes "ok")) 32) what_at)) text

-- events, and the line `end` after them; fewer events than this number
unfoldable pub events_within : ℕ → List ℕ → Read (List Event)
events_within zero text = None
events_within (suc most) text =
    if_tag (tag_at (codes "at ") text) (λ text. do
      first ← event_at text
      events ← events_within most first.1
      Some (first.0 ∷ events.0, events.1))
    (made_of (λ ended. []) (tag_at (codes "end\n")) text)

-- events, and the line `end` after them: there are fewer than the text has bytes
abbrev pub events_at : List ℕ → Read (List Event)
events_at text = events_within (suc (length text)) text

-- the life of its parts
abbrev pub life_of : List ℕ × (ℕ × List Event) → Life
life_of parts = record { words = parts.0; start = parts.1.0; events = parts.1.1 }

-- the words, the start and the events
unfoldable pub life_at : List ℕ → Read Life
life_at text =
    made_of life_of (both (after_tag (codes "words ") (in_field words_in 10))
    (both (after_tag (codes "start ") (in_field (number_in 18446744073709551615) 10))
    events_at)) text
