-- A session: the lines that are heard after the head, what is said to each, and the status at the
-- end.
use Rattle.std.specs.Prelude.{◌≡◌, ℕ, zero, suc, true, false, List, [], ◌∷◌, ◌++◌, length, Option, codes}
use Rattle.dhcp_clock.specs.Leads.{Leads}
use Rattle.dhcp_clock.specs.declared.link.Handed.{Handed}
use Rattle.dhcp_clock.specs.declared.link.Packet.{Packet}
use Rattle.dhcp_history.specs.Calls.{ClientParts}
use Rattle.dhcp_history.specs.Protocol.{Protocol}
use Rattle.dhcp_output.specs.Output.{PlainOutput, PlainReport}
use Rattle.dhcp_script.specs.LiveLine.{IsLiveLine, live_line_text}
use Rattle.dhcp_script.specs.declared.event.Event.{Event}
use Rattle.dhcp_script.specs.declared.live_line.LiveLine.{LiveLine}
use Rattle.dhcp_script.specs.declared.live_line.LiveLine.TheVariants as lines
use Rattle.dhcp_stream.specs.Line.{line}
use Rattle.dhcp_tool.specs.declared.status.Status.{Status}
use Rattle.dhcp_tool.specs.declared.status.Status.TheVariants.{Done, NoScript, WriteFault, NoMemory, Invalid}
use Rattle.dhcp_live.specs.Answer.{answer_text}
use Rattle.dhcp_dialogue.specs.Dialogue.{Turn, Hears, Misses, Says, status_of}
use Rattle.dhcp_live.specs.Dropped.{PlainVerdict, dropped_of}
use Rattle.dhcp_live.specs.declared.dropped.Dropped.{Dropped}
use Rattle.dhcp_live.specs.Live.{LiveParts, PlaysNext, can_take, is_listening_in, next_of, with_words}
use Rattle.dhcp_dialogue.specs.declared.dialogue.Unheard.{Unheard}
use Rattle.dhcp_live.specs.declared.session.Next.{Next}
use Rattle.dhcp_live.specs.declared.session.Next.TheVariants.{Line, End}

-- how many lines a session has at most
abbrev pub most_lines : ℕ
most_lines = 18446744073709551615

-- the last line that is said
abbrev pub ok_line : List ℕ
ok_line = line (codes "ok")

module _ {Client Config PublicState State Exchange Answer Lease : Type 0}
    (protocol : Config → Protocol PublicState Packet Handed State Exchange Answer Lease)
    (changed : PublicState → PlainReport)
    (parts : Client → ClientParts Config State Exchange)
    (verdict : Client → ℕ → Packet → PlainVerdict) where
  -- what is said to an event with these outputs, and of its packet, where the client stands so then
  abbrev pub answer_after : List PlainOutput → Option Dropped → LiveParts Config State Exchange →
      List ℕ
  answer_after outputs dropped after =
      answer_text outputs dropped (next_of protocol changed after)
      (is_listening_in protocol changed after) (length after.words)

  -- a text that answers an event, after which the client stands so
  pub record IsAnswer (event : Event) (before after : LiveParts Config State Exchange)
      (text : List ℕ) : Type 0 where
    pub outputs : List PlainOutput
    pub plays : PlaysNext protocol changed event outputs before after
    -- the client itself, by which it is said what the packet of the event is to it
    pub client : Client
    pub client_is : parts client ≡ after.parts
    pub text_is : text ≡ answer_after outputs
        (dropped_of verdict client after.number event outputs) after

  -- A session of a client that stands so, with at most this number of lines: its turns, and the
  -- status with which it ends.
  pub data IsSession : ℕ → LiveParts Config State Exchange → List Turn → Status → Type 0 where
    -- the answer to an event is said before the next line is heard
    answers : (left : ℕ) (before after : LiveParts Config State Exchange) (event : Event)
        (text : List ℕ) (turns : List Turn) (status : Status) →
        IsLiveLine (lines.Event event) → can_take before event ≡ true →
        IsAnswer event before after text → IsSession left after turns status →
        IsSession (suc left) before
        (Hears (live_line_text (lines.Event event)) ∷ Says text true ∷ turns) status
    -- the answer did not go out
    is_cut_off : (left : ℕ) (before after : LiveParts Config State Exchange) (event : Event)
        (text : List ℕ) → IsLiveLine (lines.Event event) → can_take before event ≡ true →
        IsAnswer event before after text →
        IsSession (suc left) before
        (Hears (live_line_text (lines.Event event)) ∷ Says text false ∷ []) WriteFault
    -- an event cannot be next
    refuses : (left : ℕ) (before : LiveParts Config State Exchange) (event : Event) →
        IsLiveLine (lines.Event event) → can_take before event ≡ false →
        IsSession (suc left) before (Hears (live_line_text (lines.Event event)) ∷ []) Invalid
    -- random words are added, and nothing is said
    adds_words : (left : ℕ) (before : LiveParts Config State Exchange) (words : List ℕ)
        (turns : List Turn) (status : Status) → IsLiveLine (lines.Words words) →
        IsSession left (with_words words before) turns status →
        IsSession (suc left) before (Hears (live_line_text (lines.Words words)) ∷ turns) status
    -- the last line
    ends : (left : ℕ) (before : LiveParts Config State Exchange) →
        IsSession (suc left) before (Hears (live_line_text lines.End) ∷ Says ok_line true ∷ [])
        Done
    ends_unsaid : (left : ℕ) (before : LiveParts Config State Exchange) →
        IsSession (suc left) before (Hears (live_line_text lines.End) ∷ Says ok_line false ∷ [])
        WriteFault
    -- a line that says nothing
    is_no_line : (left : ℕ) (before : LiveParts Config State Exchange) (text : List ℕ) →
        ((said : LiveLine) → IsLiveLine said → live_line_text said ≡ text → ⊥) →
        IsSession (suc left) before (Hears text ∷ []) NoScript
    -- no line is heard
    misses : (left : ℕ) (before : LiveParts Config State Exchange) (why : Unheard) →
        IsSession (suc left) before (Misses why ∷ []) (status_of why)
    -- out of memory
    runs_out : (left : ℕ) (before : LiveParts Config State Exchange) (text : List ℕ) →
        IsSession (suc left) before (Hears text ∷ []) NoMemory
    -- no line is left
    has_no_line : (before : LiveParts Config State Exchange) → IsSession zero before [] Invalid

  -- a session was held over a dialogue
  pub record HoldsSession {D : Type 0} (moves : Turn → D → D → Type 0)
      (before : LiveParts Config State Exchange) (status : Status) (old new : D) : Type 0 where
    pub turns : List Turn
    pub moved : Leads moves old turns new
    pub is : IsSession most_lines before turns status

  -- What follows a line of a session: turns after which it goes on with the client as it stands
  -- then, or those with which it ends.
  abbrev pub Follows : Next → List ℕ → List Turn → LiveParts Config State Exchange →
      LiveParts Config State Exchange → Type 0
  Follows Line text turns before after =
      (left : ℕ) (rest : List Turn) (status : Status) → IsSession left after rest status →
      IsSession (suc left) before (Hears text ∷ turns ++ rest) status
  Follows (End status) text turns before after =
      (left : ℕ) → IsSession (suc left) before (Hears text ∷ turns) status

  -- a line of a session was answered over a dialogue
  pub record AnswersLine {D : Type 0} (moves : Turn → D → D → Type 0) (text : List ℕ)
      (next : Next) (before after : LiveParts Config State Exchange) (old new : D) : Type 0 where
    pub turns : List Turn
    pub moved : Leads moves old turns new
    pub follows : Follows next text turns before after
