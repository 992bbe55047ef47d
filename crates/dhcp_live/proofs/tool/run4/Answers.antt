-- The session of the client that begins.
use Rattle.dhcp_script.specs.Script4 as scripts
use Rattle.dhcp_script.specs.declared.script.Script.TheVariants.{V4}
use Rattle.dhcp_live.specs.Begin as begin
use Rattle.dhcp_live.proofs.BeginLemmas as begins
use Rattle.dhcp_live.proofs.ToolLemmas.{held4, no_memory_left}
use Rattle.dhcp_live.proofs.tool.run4.Goals as goal

pub out_of_memory-requires : goal.out_of_memory-requires
out_of_memory-requires g c = begins.no_memory_left (scripts.is_valid c.args.script.now) c.in-Err.error c.requires c.in-Err.ensures.refused

pub returns-in-Ok : goal.returns-in-Ok
returns-in-Ok g c = held4 g.D.Dialogue.moves c.args.script.now c.play_events.result (begin.held4 c.in-Ok.client) c.args.dialogue.now c.play_events.new.dialogue c.in-Ok.ensures.begins c.play_events.ensures

pub returns-in-Err : goal.returns-in-Err
returns-in-Err g c = no_memory_left g.D.Dialogue.moves (V4 c.args.script.now) c.out_of_memory.result c.args.dialogue.now c.out_of_memory.ensures
