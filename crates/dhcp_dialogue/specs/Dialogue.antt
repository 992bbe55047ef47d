-- What a program hears and says, turn by turn.
use Rattle.std.specs.Prelude.{◌≡◌, ℕ, Bool, List, [], Some, Result, Ok, Err}
use Rattle.dhcp_stream.specs.TextReader.{field_at}
use Rattle.dhcp_tool.specs.declared.status.Status.{Status}
use Rattle.dhcp_tool.specs.declared.status.Status.TheVariants as statuses
use Rattle.dhcp_dialogue.specs.declared.dialogue.Unheard.{Unheard}
use Rattle.dhcp_dialogue.specs.declared.dialogue.Unheard.TheVariants.{End, TooLong, Failed, NoMemory}

-- a turn: a line that is heard, with its line feed; no line, and why; or a text that is said, and
-- whether all of it went out
pub data Turn : Type 0 where
  Hears : List ℕ → Turn
  Misses : Unheard → Turn
  Says : List ℕ → Bool → Turn

-- the turn of a call that is to hear a line
abbrev pub hearing : Result (Unit {0}) Unheard → List ℕ → Turn
hearing (Ok heard) text = Hears text
hearing (Err why) text = Misses why

-- the status with which a program ends that hears no line
abbrev pub status_of : Unheard → Status
status_of End = statuses.NoScript
status_of TooLong = statuses.TooLong
status_of Failed = statuses.ReadFault
status_of NoMemory = statuses.NoMemory

-- how many bytes a line has at most, its line feed included, and a head with all its lines
abbrev pub most_line_bytes : ℕ
most_line_bytes = 16777216

-- a line: bytes before the first line feed, that line feed, and nothing behind it
abbrev pub IsLine : List ℕ → Type 0
IsLine text = (before : List ℕ) × (field_at 10 text ≡ Some (before, []))
