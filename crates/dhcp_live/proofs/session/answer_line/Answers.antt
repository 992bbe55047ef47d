-- A line that says nothing, or no memory.
use Rattle.dhcp_live.specs.Live.{held}
use Rattle.dhcp_live.proofs.AnswerLemmas.{no_memory_left, unread}
use Rattle.dhcp_live.proofs.session.answer_line.Goals as goal

pub returns-in-Ok-None : goal.returns-in-Ok-None
returns-in-Ok-None g c = unread g.C.FamilyClient.protocol g.C.Reported.FamilyState.changed g.C.FamilyClient.parts g.C.VerdictClient.packet_verdict g.D.Dialogue.moves c.args.line.now (held g.C.FamilyClient.parts c.args.client.now) c.args.dialogue.now (rw c.in-Ok-None.field-0-is at c.in-Ok-None.ensures.reading)

pub returns-in-Err : goal.returns-in-Err
returns-in-Err g c = no_memory_left g.C.FamilyClient.protocol g.C.Reported.FamilyState.changed g.C.FamilyClient.parts g.C.VerdictClient.packet_verdict g.D.Dialogue.moves c.args.line.now (held g.C.FamilyClient.parts c.args.client.now) (held g.C.FamilyClient.parts c.args.client.now) c.args.dialogue.now c.out_of_memory.result c.out_of_memory.ensures
