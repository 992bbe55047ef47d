-- The head, and what follows it.
use Rattle.std.proofs.Common.{ℕ, List, subst}
use Rattle.dhcp_live.specs.Tool.{RunsAfterHead}
use Rattle.dhcp_live.proofs.ToolLemmas.{has_ended, went_on}
use Rattle.dhcp_live.proofs.tool.run.Goals as goal

pub returns-in-Ok : goal.returns-in-Ok
returns-in-Ok g c =
    went_on g.D.Dialogue.moves c.in-Ok.head c.run_after.result c.args.dialogue.now c.hear_head.new.dialogue c.run_after.new.dialogue c.in-Ok.ensures
    (subst (λ (head : List ℕ). RunsAfterHead g.D.Dialogue.moves head c.run_after.result c.hear_head.new.dialogue c.run_after.new.dialogue) c.as_slice.ensures c.run_after.ensures)

pub returns-in-Err : goal.returns-in-Err
returns-in-Err g c = has_ended g.D.Dialogue.moves c.in-Err.status c.args.dialogue.now c.hear_head.new.dialogue c.in-Err.ensures
