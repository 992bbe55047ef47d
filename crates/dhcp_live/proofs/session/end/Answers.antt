-- Whether the last line went out.
use Rattle.std.proofs.Common.{Bool, subst}
use Rattle.dhcp_dialogue.specs.Dialogue.{Says}
use Rattle.dhcp_live.specs.Live.{held}
use Rattle.dhcp_live.specs.Session.{ok_line}
use Rattle.dhcp_live.proofs.AnswerLemmas.{ended, unsaid}
use Rattle.dhcp_live.proofs.session.end.Goals as goal

pub returns-then-say : goal.returns-then-say
returns-then-say g c =
    ended g.C.FamilyClient.protocol g.C.Reported.FamilyState.changed g.C.FamilyClient.parts g.C.VerdictClient.packet_verdict g.D.Dialogue.moves (held g.C.FamilyClient.parts c.args.client.now) c.args.dialogue.now c.say.new.self
    (subst (λ (whole : Bool). g.D.Dialogue.moves (Says ok_line whole) c.args.dialogue.now c.say.new.self) c.if-say.true c.say.ensures.moved)

pub returns-else-say : goal.returns-else-say
returns-else-say g c =
    unsaid g.C.FamilyClient.protocol g.C.Reported.FamilyState.changed g.C.FamilyClient.parts g.C.VerdictClient.packet_verdict g.D.Dialogue.moves (held g.C.FamilyClient.parts c.args.client.now) c.args.dialogue.now c.say.new.self
    (subst (λ (whole : Bool). g.D.Dialogue.moves (Says ok_line whole) c.args.dialogue.now c.say.new.self) c.if-say.false c.say.ensures.moved)
