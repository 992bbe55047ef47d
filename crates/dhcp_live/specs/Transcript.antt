-- What was heard of a session, as a script, and what was said, as its outputs.
use Rattle.std.specs.Prelude.{◌≡◌, ◌⊎◌, ◌≤◌, ◌+◌, ℕ, Bool, true, List, [], ◌∷◌, ◌++◌, length, drop, Option}
use Rattle.dhcp_stream.specs.HexText.{AreWords}
use Rattle.dhcp6_client.specs.Client.{first_draws}
use Rattle.dhcp_dialogue.specs.Dialogue.{Turn, Hears, Misses, Says}
use Rattle.dhcp_draws.specs.Tables.{most_words}
use Rattle.dhcp_output.specs.Output.{PlainOutput}
use Rattle.dhcp_replay.specs.Replayed.{outputs_of}
use Rattle.dhcp_script.specs.Event.{most_events}
use Rattle.dhcp_script.specs.Life.{event_line, events_text}
use Rattle.dhcp_script.specs.LiveLine.{live_line_text}
use Rattle.dhcp_script.specs.Script.{IsScript, is_valid, script_text}
use Rattle.dhcp_script.specs.Script6.{config_of}
use Rattle.dhcp_script.specs.declared.event.Event.{Event}
use Rattle.dhcp_script.specs.declared.live_line.LiveLine.TheVariants as lines
use Rattle.dhcp_script.specs.declared.script.Script.{Script}
use Rattle.dhcp_script.specs.declared.script.Script.TheVariants.{V4, V6}
use Rattle.dhcp_live.specs.Answer.{answer_text}
use Rattle.dhcp_live.specs.declared.dropped.Dropped.{Dropped}
use Rattle.dhcp_live.specs.Session.{ok_line}
use Rattle.dhcp_live.specs.Tool.{IsHead, end_line}

-- an event that was heard, and what was said to it: its outputs, what became of its packet, the
-- moment of the next event, whether a packet is read, and how many words are left
pub record Told : Type 0 where
  pub event : Event
  pub outputs : List PlainOutput
  pub dropped : Option Dropped
  pub next : Option ℕ
  pub is_listening : Bool
  pub left : ℕ

-- a line before the last one: an event, with what was said to it, or further random words, to which
-- nothing is said
pub data Entry : Type 0 where
  Answered : Told → Entry
  Added : List ℕ → Entry

-- the line with these words
abbrev pub words_line : List ℕ → List ℕ
words_line words = live_line_text (lines.Words words)

-- the turns of these entries, to the line `end`
abbrev pub turns_of : List Entry → List Turn
turns_of [] = Hears end_line ∷ Says ok_line true ∷ []
turns_of (Answered told ∷ more) =
    Hears (event_line told.event)
    ∷ Says (answer_text told.outputs told.dropped told.next told.is_listening told.left) true
    ∷ turns_of more
turns_of (Added words ∷ more) = Hears (words_line words) ∷ turns_of more

-- the events, what was said of them, and the words that were added
abbrev pub events_in : List Entry → List Event
events_in [] = []
events_in (Answered told ∷ more) = told.event ∷ events_in more
events_in (Added words ∷ more) = events_in more

abbrev pub outputs_in : List Entry → List PlainOutput
outputs_in [] = []
outputs_in (Answered told ∷ more) = told.outputs ++ outputs_in more
outputs_in (Added words ∷ more) = outputs_in more

abbrev pub words_in : List Entry → List ℕ
words_in [] = []
words_in (Answered told ∷ more) = words_in more
words_in (Added words ∷ more) = words ++ words_in more

-- the lines that were heard, in a row
abbrev pub heard_in : List Turn → List ℕ
heard_in [] = []
heard_in (Hears text ∷ turns) = text ++ heard_in turns
heard_in (Misses why ∷ turns) = heard_in turns
heard_in (Says text whole ∷ turns) = heard_in turns

-- the texts that were said, in a row
abbrev pub said_in : List Turn → List ℕ
said_in [] = []
said_in (Hears text ∷ turns) = said_in turns
said_in (Misses why ∷ turns) = said_in turns
said_in (Says text whole ∷ turns) = text ++ said_in turns

-- a line with further random words
abbrev pub IsWordsLine : List ℕ → Type 0
IsWordsLine text = (words : List ℕ) × (AreWords words × (words_line words ≡ text))

-- no such line was heard
abbrev pub HearsNoWords : List Turn → Type 0
HearsNoWords [] = Unit {0}
HearsNoWords (Hears text ∷ turns) = (IsWordsLine text → ⊥) × HearsNoWords turns
HearsNoWords (Misses why ∷ turns) = HearsNoWords turns
HearsNoWords (Says text whole ∷ turns) = HearsNoWords turns

-- a script with these events
abbrev pub with_events : List Event → Script → Script
with_events events (V4 script) = V4 (record script { events = events })
with_events events (V6 script) = V6 (record script { events = events })

-- a script with further words, behind its own
abbrev pub with_more_words : List ℕ → Script → Script
with_more_words more (V4 script) = V4 (record script { words = script.words ++ more })
with_more_words more (V6 script) = V6 (record script { words = script.words ++ more })

-- the script of a session whose head has this script: all words and all events
abbrev pub script_of : List Entry → Script → Script
script_of entries script =
    with_events (events_in entries) (with_more_words (words_in entries) script)

-- the words of a script, and those that are left once its client has begun
abbrev pub words_of : Script → List ℕ
words_of (V4 script) = script.words
words_of (V6 script) = script.words

abbrev pub words_at_start : Script → List ℕ
words_at_start (V4 script) = drop 1 script.words
words_at_start (V6 script) = (first_draws (config_of script) script.words).left

-- so many words are left, and that is enough, or none is added later
abbrev pub IsEnough : ℕ → List Entry → Type 0
IsEnough left later = (words_in later ≡ []) ⊎ (most_words ≤ left)

-- before each event enough words are left; this is their number before the first entry
abbrev pub AreEnough : ℕ → List Entry → Type 0
AreEnough left [] = Unit {0}
AreEnough left (Answered told ∷ more) = IsEnough left more × AreEnough told.left more
AreEnough left (Added words ∷ more) = AreEnough (left + length words) more

-- and before the client begins
pub record HasEnoughWords (script : Script) (entries : List Entry) : Type 0 where
  pub begins : IsEnough (length (words_of script)) entries
  pub events : AreEnough (length (words_at_start script)) entries

-- A session after a head with this script. Its lines but those with words, behind the head with all
-- words, are the text of a script. What was said after each event are the outputs of that script,
-- if enough words were left wherever some were added later.
pub record IsTranscript (head : List ℕ) (script : Script) (turns : List Turn) : Type 0 where
  pub entries : List Entry
  pub turns_are : turns ≡ turns_of entries
  pub fits : IsScript (script_of entries script)
  -- the head with all words
  pub whole_head : List ℕ
  pub head_is : IsHead whole_head (with_more_words (words_in entries) script)
  pub text : script_text (script_of entries script) ≡ whole_head ++ events_text (events_in entries)
  pub outputs_are : HasEnoughWords script entries →
      outputs_in entries ≡ outputs_of (script_of entries script)
  -- it is valid if that of the head is, and there are not too many events
  pub valid : is_valid script ≡ true → length (events_in entries) ≤ most_events →
      is_valid (script_of entries script) ≡ true
  -- where no words are added, the words of the head are enough, and all lines are the text
  pub no_more : HearsNoWords turns → HasEnoughWords script entries
  pub same_text : HearsNoWords turns →
      script_text (script_of entries script) ≡ head ++ heard_in turns
