-- The script of a head, or the status.
use Rattle.dhcp_live.proofs.ToolLemmas.{with_script, without_script}
use Rattle.dhcp_live.proofs.tool.run_after.Goals as goal

pub returns-in-Ok : goal.returns-in-Ok
returns-in-Ok g c = with_script g.D.Dialogue.moves c.args.head.now c.in-Ok.script c.run_script-status.result c.args.dialogue.now c.run_script-status.new.dialogue c.in-Ok.ensures c.run_script-status.ensures

pub returns-in-Err : goal.returns-in-Err
returns-in-Err g c = without_script g.D.Dialogue.moves c.args.head.now c.in-Err.status c.args.dialogue.now c.in-Err.ensures
