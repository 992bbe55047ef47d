-- What a script of either family has after its configuration: the words that the client draws, the
-- moment at which it begins, its events, and the last line.
use Rattle.std.specs.Prelude.{ℕ, ◌<◌, ◌^◌, List, [], ◌∷◌, ◌++◌, codes, All}
use Rattle.std.specs.List.{flat_map}
use Rattle.std.specs.Fmt.{decimal}
use Rattle.hex.specs.Hex.{IsBytes}
use Rattle.dhcp_stream.specs.HexText.{AreWords, hex_text, words_text}
use Rattle.dhcp_stream.specs.Line.{line, spaced}
use Rattle.dhcp_script.specs.declared.event.Event.{Event}
use Rattle.dhcp_script.specs.declared.event.EventWhat.{EventWhat}
use Rattle.dhcp_script.specs.declared.event.EventWhat.TheVariants.{Nothing, Frame, Payload, Release, CleanUp}
use Rattle.dhcp_script.specs.Event.{packet_of}
use Rattle.dhcp_script.specs.Field.{flag_text}

-- what happens
abbrev pub what_text : EventWhat → List ℕ
what_text Nothing = codes "none"
what_text (Frame bytes) = codes "frame " ++ hex_text bytes
what_text (Payload bytes) = codes "payload " ++ hex_text bytes
what_text Release = codes "release"
what_text CleanUp = codes "cleanup"

-- an event
abbrev pub event_text : Event → List ℕ
event_text event =
    spaced (decimal event.moment ∷ flag_text (codes "refuse") (codes "ok") event.refuse
    ∷ what_text event.what ∷ [])

-- the line of an event
abbrev pub event_line : Event → List ℕ
event_line event = line (codes "at " ++ event_text event)

-- the lines of the events, and the last line
abbrev pub events_text : List Event → List ℕ
events_text events = flat_map event_line events ++ line (codes "end")

-- the lines after the configuration
abbrev pub life_text : List ℕ → ℕ → List Event → List ℕ
life_text words start events =
    line (codes "words " ++ words_text words)
    ++ line (codes "start " ++ decimal start)
    ++ events_text events

-- an event whose moment and bytes fit their types
pub record IsEvent (event : Event) : Type 0 where
  pub moment : event.moment < 2 ^ 64
  pub packet : IsBytes (packet_of event.what)

-- words, a start and events that fit their types
pub record IsLife (words : List ℕ) (start : ℕ) (events : List Event) : Type 0 where
  pub words_fit : AreWords words
  pub start_fits : start < 2 ^ 64
  pub events_fit : All IsEvent events
