-- Whether there is memory for the words.
use Rattle.dhcp_script.specs.LiveLine.{live_line_text}
use Rattle.dhcp_script.specs.declared.live_line.LiveLine.TheVariants as lines
use Rattle.dhcp_live.specs.Live.{held}
use Rattle.dhcp_live.proofs.AnswerLemmas.{added, no_memory_left}
use Rattle.dhcp_live.proofs.session.add_words.Goals as goal

pub returns-in-Ok : goal.returns-in-Ok
returns-in-Ok g c =
    added g.C.FamilyClient.protocol g.C.Reported.FamilyState.changed g.C.FamilyClient.parts g.C.VerdictClient.packet_verdict g.D.Dialogue.moves (held g.C.FamilyClient.parts c.args.client.now) (held g.C.FamilyClient.parts c.add_words.new.self) c.args.words.now c.args.dialogue.now c.requires c.in-Ok.ensures.added

pub returns-in-Err : goal.returns-in-Err
returns-in-Err g c =
    no_memory_left g.C.FamilyClient.protocol g.C.Reported.FamilyState.changed g.C.FamilyClient.parts g.C.VerdictClient.packet_verdict g.D.Dialogue.moves (live_line_text (lines.Words c.args.words.now)) (held g.C.FamilyClient.parts c.args.client.now) (held g.C.FamilyClient.parts c.add_words.new.self) c.args.dialogue.now c.out_of_memory.result c.out_of_memory.ensures
