-- The number of the status.
use Rattle.dhcp_live.proofs.ToolLemmas.{numbered}
use Rattle.dhcp_live.proofs.tool.live_tool.Goals as goal

pub returns : goal.returns
returns g c = numbered g.D.Dialogue.moves c.into.result c.run.result c.args.dialogue.now c.run.new.dialogue c.into.ensures c.run.ensures
