-- Whether the script is valid, and by its family.
use Rattle.std.proofs.Common.{sym, ◌∙◌}
use Rattle.dhcp_live.proofs.ToolLemmas.{holds, is_invalid}
use Rattle.dhcp_live.proofs.tool.run_script.Goals as goal

pub returns-then-not-is_valid : goal.returns-then-not-is_valid
returns-then-not-is_valid g c = is_invalid g.D.Dialogue.moves c.args.script.now c.args.dialogue.now (sym c.is_valid.ensures ∙ c.if-not-is_valid.true)

pub run4-requires : goal.run4-requires
run4-requires g c = rw c.in-V4.is at (sym c.is_valid.ensures ∙ c.if-not-is_valid.false)

pub run6-requires : goal.run6-requires
run6-requires g c = rw c.in-V6.is at (sym c.is_valid.ensures ∙ c.if-not-is_valid.false)

pub returns-in-V4 : goal.returns-in-V4
returns-in-V4 g c = holds g.D.Dialogue.moves c.args.script.now c.run4.result c.args.dialogue.now c.run4.new.dialogue (sym c.is_valid.ensures ∙ c.if-not-is_valid.false) (rw c.in-V4.is c.run4.ensures)

pub returns-in-V6 : goal.returns-in-V6
returns-in-V6 g c = holds g.D.Dialogue.moves c.args.script.now c.run6.result c.args.dialogue.now c.run6.new.dialogue (sym c.is_valid.ensures ∙ c.if-not-is_valid.false) (rw c.in-V6.is c.run6.ensures)
