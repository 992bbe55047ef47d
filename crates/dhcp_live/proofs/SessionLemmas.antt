-- A session, line by line.
use Rattle.std.proofs.Common.{◌≡◌, ◌≤◌, ◌<◌, ◌+◌, ◌-◌, ℕ, zero, suc, List, [], ◌∷◌, ◌++◌, refl, sym, subst, append_assoc, arith}
use Rattle.dhcp_clock.specs.Leads.{Leads}
use Rattle.dhcp_clock.specs.declared.link.Handed.{Handed}
use Rattle.dhcp_clock.specs.declared.link.Packet.{Packet}
use Rattle.dhcp_history.specs.Calls.{ClientParts}
use Rattle.dhcp_history.specs.Protocol.{Protocol}
use Rattle.dhcp_output.specs.Output.{PlainReport}
use Rattle.dhcp_tool.specs.declared.status.Status.{Status}
use Rattle.dhcp_tool.specs.declared.status.Status.TheVariants.{Invalid}
use Rattle.dhcp_dialogue.specs.Dialogue.{Turn, Hears, Misses, status_of}
use Rattle.dhcp_dialogue.specs.declared.dialogue.Unheard.{Unheard}
use Rattle.dhcp_live.specs.Dropped.{PlainVerdict}
use Rattle.dhcp_live.specs.Live.{LiveParts}
use Rattle.dhcp_live.specs.Session.{AnswersLine, HoldsSession, IsSession, has_no_line, misses, most_lines}
use Rattle.dhcp_live.specs.declared.session.Next.TheVariants.{Line, End}
use Rattle.dhcp_live.proofs.TurnLemmas.{Leads-append}

-- one line fewer is left
next_count : (most counter : ℕ) → counter < most → most - counter ≡ suc (most - (counter + 1))
next_count most counter below = omega arith

no_count : (most counter : ℕ) → most ≤ counter → most - counter ≡ zero
no_count most counter over = omega arith

module _ {Client Config PublicState State Exchange Answer Lease : Type 0} (protocol : Config → Protocol PublicState Packet Handed State Exchange Answer Lease) (changed : PublicState → PlainReport)
    (parts : Client → ClientParts Config State Exchange) (verdict : Client → ℕ → Packet → PlainVerdict)
    {D : Type 0} (moves : Turn → D → D → Type 0) (first : LiveParts Config State Exchange) (old : D) where
  -- so many lines are left of a session, and the client and the dialogue stand so
  pub record SoFar (left : ℕ) (here : LiveParts Config State Exchange) (new : D) : Type 0 where
    pub turns : List Turn
    pub moved : Leads moves old turns new
    pub goes_on : (rest : List Turn) (status : Status) → IsSession protocol changed parts verdict left here rest status → IsSession protocol changed parts verdict most_lines first (turns ++ rest) status

  -- before its first line
  pub begun : SoFar most_lines first old
  begun = record { turns = []; moved = refl; goes_on = λ rest status is. is }

  -- one of the lines that are left is the next one
  pub with_next : (counter : ℕ) (here : LiveParts Config State Exchange) (new : D) → counter < most_lines → SoFar (most_lines - counter) here new → SoFar (suc (most_lines - (counter + 1))) here new
  with_next counter here new below so = subst (λ (left : ℕ). SoFar left here new) (next_count most_lines counter below) so

  -- turns after which the session is over
  ended : (left : ℕ) (here : LiveParts Config State Exchange) (between new : D) (more : List Turn) (status : Status) → SoFar left here between → Leads moves between more new →
      IsSession protocol changed parts verdict left here more status → HoldsSession protocol changed parts verdict moves first status old new
  ended left here between new more status so on is = record {
    turns = so.turns ++ more;
    moved = Leads-append moves old between new so.turns more so.moved on;
    is = so.goes_on more status is;
  }

  -- the status by another name
  pub held_so : (given status : Status) (new : D) → given ≡ status → HoldsSession protocol changed parts verdict moves first status old new → HoldsSession protocol changed parts verdict moves first given old new
  held_so given status new is held = subst (λ (s : Status). HoldsSession protocol changed parts verdict moves first s old new) (sym is) held

  module _ (left : ℕ) (here : LiveParts Config State Exchange) (between : D) (so : SoFar (suc left) here between) where
    -- after a line with which it goes on
    pub one_line_more : (text : List ℕ) (after : LiveParts Config State Exchange) (heard new : D) → moves (Hears text) between heard →
        AnswersLine protocol changed parts verdict moves text Line here after heard new → SoFar left after new
    one_line_more text after heard new hears answer = record {
      turns = so.turns ++ (Hears text ∷ answer.turns);
      moved = Leads-append moves old between new so.turns (Hears text ∷ answer.turns) so.moved (heard, (hears, answer.moved));
      goes_on = λ rest status is.
          subst (λ (all : List Turn). IsSession protocol changed parts verdict most_lines first all status) (sym (append_assoc so.turns (Hears text ∷ answer.turns) rest))
          (so.goes_on (Hears text ∷ answer.turns ++ rest) status (answer.follows left rest status is));
    }

    -- after a line with which it ends
    pub last_line : (text : List ℕ) (status : Status) (after : LiveParts Config State Exchange) (heard new : D) → moves (Hears text) between heard →
        AnswersLine protocol changed parts verdict moves text (End status) here after heard new → HoldsSession protocol changed parts verdict moves first status old new
    last_line text status after heard new hears answer =
        ended (suc left) here between new (Hears text ∷ answer.turns) status so (heard, (hears, answer.moved)) (answer.follows left)

    -- where no line is heard
    pub no_line : (why : Unheard) (new : D) → moves (Misses why) between new → HoldsSession protocol changed parts verdict moves first (status_of why) old new
    no_line why new moved = ended (suc left) here between new (Misses why ∷ []) (status_of why) so (new, (moved, refl)) (misses left here why)

  -- where no line is left
  pub over : (counter : ℕ) (here : LiveParts Config State Exchange) (new : D) → most_lines ≤ counter → SoFar (most_lines - counter) here new → HoldsSession protocol changed parts verdict moves first Invalid old new
  over counter here new none so = ended zero here new new [] Invalid (subst (λ (left : ℕ). SoFar left here new) (no_count most_lines counter none) so) refl (has_no_line here)
