-- What follows a line of a session.
use Rattle.std.proofs.Common.{◌≡◌, ℕ, true, false, List, [], ◌∷◌, Option, Some, refl, sym, subst}
use Rattle.dhcp_clock.specs.declared.link.Handed.{Handed}
use Rattle.dhcp_clock.specs.declared.link.Packet.{Packet}
use Rattle.dhcp_history.specs.Calls.{ClientParts}
use Rattle.dhcp_history.specs.Protocol.{Protocol}
use Rattle.dhcp_output.specs.Output.{PlainReport}
use Rattle.dhcp_script.specs.LiveLine.{IsLiveLine, live_line_text}
use Rattle.dhcp_script.specs.declared.event.Event.{Event}
use Rattle.dhcp_script.specs.declared.live_line.LiveLine.{LiveLine}
use Rattle.dhcp_script.specs.declared.live_line.LiveLine.TheVariants as lines
use Rattle.dhcp_stream.specs.Reading.{IsReading}
use Rattle.dhcp_tool.specs.declared.status.Status.{Status}
use Rattle.dhcp_tool.specs.declared.status.Status.TheVariants.{Done, NoScript, WriteFault, NoMemory, Invalid}
use Rattle.dhcp_dialogue.specs.Dialogue.{Turn, Says}
use Rattle.dhcp_live.specs.Dropped.{PlainVerdict}
use Rattle.dhcp_live.specs.Live.{LiveParts, can_take, with_words}
use Rattle.dhcp_live.specs.Session.{AnswersLine, IsAnswer, adds_words, answers, ends, ends_unsaid, is_cut_off, is_no_line, ok_line, refuses, runs_out}
use Rattle.dhcp_live.specs.declared.session.Next.TheVariants.{Line, End}

-- what was read, as a line that was said
pub said_so : (found : Option LiveLine) (said : LiveLine) (text : List ℕ) → found ≡ Some said → IsReading live_line_text IsLiveLine found text → (live_line_text said ≡ text) × IsLiveLine said
said_so found said text is reading = subst (λ (f : Option LiveLine). IsReading live_line_text IsLiveLine f text) is reading

module _ {Client Config PublicState State Exchange Answer Lease : Type 0} (protocol : Config → Protocol PublicState Packet Handed State Exchange Answer Lease) (changed : PublicState → PlainReport)
    (parts : Client → ClientParts Config State Exchange) (verdict : Client → ℕ → Packet → PlainVerdict) where
  module _ {D : Type 0} (moves : Turn → D → D → Type 0) where
    -- an event
    module _ (before : LiveParts Config State Exchange) (event : Event) (is : IsLiveLine (lines.Event event)) where
      pub refused : (here : D) → can_take before event ≡ false → AnswersLine protocol changed parts verdict moves (live_line_text (lines.Event event)) (End Invalid) before before here here
      refused here can = record { turns = []; moved = refl; follows = λ left. refuses left before event is can }

      module _ (can : can_take before event ≡ true) (after : LiveParts Config State Exchange) (text : List ℕ) (answer : IsAnswer protocol changed parts verdict event before after text) (old new : D) where
        pub answered : moves (Says text true) old new → AnswersLine protocol changed parts verdict moves (live_line_text (lines.Event event)) Line before after old new
        answered says = record { turns = Says text true ∷ []; moved = (new, (says, refl)); follows = λ left rest status more. answers left before after event text rest status is can answer more }

        pub cut_off : moves (Says text false) old new → AnswersLine protocol changed parts verdict moves (live_line_text (lines.Event event)) (End WriteFault) before after old new
        cut_off says = record { turns = Says text false ∷ []; moved = (new, (says, refl)); follows = λ left. is_cut_off left before after event text is can answer }

    -- words
    pub added : (before after : LiveParts Config State Exchange) (words : List ℕ) (here : D) → IsLiveLine (lines.Words words) → after ≡ with_words words before → AnswersLine protocol changed parts verdict moves (live_line_text (lines.Words words)) Line before after here here
    added before after words here is more =
        let exact : AnswersLine protocol changed parts verdict moves (live_line_text (lines.Words words)) Line before (with_words words before) here here =
        record { turns = []; moved = refl; follows = λ left rest status on. adds_words left before words rest status is on } in
        rw more exact

    -- the last line
    pub ended : (here : LiveParts Config State Exchange) (old new : D) → moves (Says ok_line true) old new → AnswersLine protocol changed parts verdict moves (live_line_text lines.End) (End Done) here here old new
    ended here old new says = record { turns = Says ok_line true ∷ []; moved = (new, (says, refl)); follows = λ left. ends left here }

    pub unsaid : (here : LiveParts Config State Exchange) (old new : D) → moves (Says ok_line false) old new → AnswersLine protocol changed parts verdict moves (live_line_text lines.End) (End WriteFault) here here old new
    unsaid here old new says = record { turns = Says ok_line false ∷ []; moved = (new, (says, refl)); follows = λ left. ends_unsaid left here }

    -- no such line
    pub unread : (text : List ℕ) (before : LiveParts Config State Exchange) (here : D) → ((said : LiveLine) → IsLiveLine said → live_line_text said ≡ text → ⊥) → AnswersLine protocol changed parts verdict moves text (End NoScript) before before here here
    unread text before here none = record { turns = []; moved = refl; follows = λ left. is_no_line left before text none }

    -- out of memory
    pub no_memory_left : (text : List ℕ) (before after : LiveParts Config State Exchange) (here : D) (status : Status) → status ≡ NoMemory → AnswersLine protocol changed parts verdict moves text (End status) before after here here
    no_memory_left text before after here status is =
        let exact : AnswersLine protocol changed parts verdict moves text (End NoMemory) before after here here = record { turns = []; moved = refl; follows = λ left. runs_out left before text } in
        subst (λ (s : Status). AnswersLine protocol changed parts verdict moves text (End s) before after here here) (sym is) exact
