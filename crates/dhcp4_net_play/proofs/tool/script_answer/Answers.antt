-- The status is that of the error.
use Rattle.dhcp4_net_play.proofs.ToolLemmas.{refused_answers}
use Rattle.dhcp4_net_play.proofs.tool.script_answer.Goals as goal

pub returns-in-Err : goal.returns-in-Err
returns-in-Err c = rw (c.status_of.ensures, c.kind.ensures.value) (refused_answers c.args.script.now c.in-Err.error c.in-Err.ensures)
