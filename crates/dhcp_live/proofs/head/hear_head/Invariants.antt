-- The head so far; a line of it is not empty.
use Rattle.std.proofs.Common.{◌+◌, ◌-◌, length}
use Rattle.dhcp_dialogue.specs.Dialogue.{most_line_bytes}
use Rattle.dhcp_live.proofs.HeadLemmas.{HeadSoFar}
use Rattle.dhcp_live.proofs.head.hear_head.Given as goal

abbrev pub invariant-lines : goal.invariant-lines
invariant-lines g l = HeadSoFar g.D.Dialogue.moves l.fn.dialogue l.head.items l.dialogue

abbrev pub decreases-lines : goal.decreases-lines
decreases-lines g l = most_line_bytes + 1 - length l.head.items
