-- Whether the event can be next, there is memory, and the answer went out.
use Rattle.std.proofs.Common.{◌≡◌, Bool, false, true, ℕ, List, ◌∙◌, subst, sym}
use Rattle.dhcp_dialogue.specs.Dialogue.{Says}
use Rattle.dhcp_script.specs.LiveLine.{live_line_text}
use Rattle.dhcp_script.specs.declared.live_line.LiveLine.TheVariants as lines
use Rattle.dhcp_live.specs.Live.{can_take, held}
use Rattle.dhcp_live.proofs.AnswerLemmas.{answered, cut_off, no_memory_left, refused}
use Rattle.dhcp_live.proofs.session.answer_event.Goals as goal

pub returns-then-not-can_take : goal.returns-then-not-can_take
returns-then-not-can_take g c =
    refused g.C.FamilyClient.protocol g.C.Reported.FamilyState.changed g.C.FamilyClient.parts g.C.VerdictClient.packet_verdict g.D.Dialogue.moves (held g.C.FamilyClient.parts c.args.client.now) c.args.event.now c.requires c.args.dialogue.now (sym c.can_take.ensures ∙ c.if-not-can_take.true)

pub returns-in-Err : goal.returns-in-Err
returns-in-Err g c =
    no_memory_left g.C.FamilyClient.protocol g.C.Reported.FamilyState.changed g.C.FamilyClient.parts g.C.VerdictClient.packet_verdict g.D.Dialogue.moves (live_line_text (lines.Event c.args.event.now)) (held g.C.FamilyClient.parts c.args.client.now) (held g.C.FamilyClient.parts c.play_and_print.new.client) c.args.dialogue.now c.out_of_memory.result c.out_of_memory.ensures

pub returns-then-say : goal.returns-then-say
returns-then-say g c =
    let can : can_take (held g.C.FamilyClient.parts c.args.client.now) c.args.event.now ≡ true = sym c.can_take.ensures ∙ c.if-not-can_take.false in
    answered g.C.FamilyClient.protocol g.C.Reported.FamilyState.changed g.C.FamilyClient.parts g.C.VerdictClient.packet_verdict g.D.Dialogue.moves (held g.C.FamilyClient.parts c.args.client.now) c.args.event.now c.requires can (held g.C.FamilyClient.parts c.play_and_print.new.client) c.in-Ok.text c.in-Ok.ensures.text c.args.dialogue.now c.say.new.self
    (subst (λ (text : List ℕ). g.D.Dialogue.moves (Says text true) c.args.dialogue.now c.say.new.self) c.as_slice.ensures (subst (λ (whole : Bool). g.D.Dialogue.moves (Says c.as_slice.result.now whole) c.args.dialogue.now c.say.new.self) c.if-say.true c.say.ensures.moved))

pub returns : goal.returns
returns g c =
    let can : can_take (held g.C.FamilyClient.parts c.args.client.now) c.args.event.now ≡ true = sym c.can_take.ensures ∙ c.if-not-can_take.false in
    cut_off g.C.FamilyClient.protocol g.C.Reported.FamilyState.changed g.C.FamilyClient.parts g.C.VerdictClient.packet_verdict g.D.Dialogue.moves (held g.C.FamilyClient.parts c.args.client.now) c.args.event.now c.requires can (held g.C.FamilyClient.parts c.play_and_print.new.client) c.in-Ok.text c.in-Ok.ensures.text c.args.dialogue.now c.say.new.self
    (subst (λ (text : List ℕ). g.D.Dialogue.moves (Says text false) c.args.dialogue.now c.say.new.self) c.as_slice.ensures (subst (λ (whole : Bool). g.D.Dialogue.moves (Says c.as_slice.result.now whole) c.args.dialogue.now c.say.new.self) c.if-say.false c.say.ensures.moved))
