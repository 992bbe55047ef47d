-- The headline is what status 0 and 5 say of a run.
use Rattle.dhcp_replay.specs.declared.request.Request.TheVariants.{Run}
use Rattle.dhcp_replay.proofs.tool.replay_tool.Goals as goal

pub returns-clause-headline : goal.returns-clause-headline
returns-clause-headline g c = λ script asked one valid left short kept sink_kept. (c.run_tool.ensures.ends Run (asked, tt)).complete script one valid left short kept sink_kept
