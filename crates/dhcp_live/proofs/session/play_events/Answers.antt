-- Line by line.
use Rattle.std.proofs.Common.{ℕ, List, ◌+◌, ◌-◌, subst, sym}
use Rattle.dhcp_dialogue.specs.Dialogue.{Hears, status_of}
use Rattle.dhcp_live.specs.Live.{held}
use Rattle.dhcp_live.specs.Session.{most_lines}
use Rattle.dhcp_live.proofs.SessionLemmas.{held_so, last_line, no_line, one_line_more, over, with_next}
use Rattle.dhcp_live.proofs.session.play_events.Goals as goal

pub returns-in-Err : goal.returns-in-Err
returns-in-Err g c =
    held_so g.C.FamilyClient.protocol g.C.Reported.FamilyState.changed g.C.FamilyClient.parts g.C.VerdictClient.packet_verdict g.D.Dialogue.moves (held g.C.FamilyClient.parts c.args.client.now) c.args.dialogue.now c.into.result (status_of c.in-Err.why) c.hear.new.self c.into.ensures
    (no_line g.C.FamilyClient.protocol g.C.Reported.FamilyState.changed g.C.FamilyClient.parts g.C.VerdictClient.packet_verdict g.D.Dialogue.moves (held g.C.FamilyClient.parts c.args.client.now) c.args.dialogue.now (most_lines - (c.lines.counter + 1)) (held g.C.FamilyClient.parts c.lines.client) c.lines.dialogue
    (with_next g.C.FamilyClient.protocol g.C.Reported.FamilyState.changed g.C.FamilyClient.parts g.C.VerdictClient.packet_verdict g.D.Dialogue.moves (held g.C.FamilyClient.parts c.args.client.now) c.args.dialogue.now c.lines.counter (held g.C.FamilyClient.parts c.lines.client) c.lines.dialogue c.lines-test.true c.lines.invariant)
    c.in-Err.why c.hear.new.self c.in-Err.ensures.moved)

pub returns-in-End : goal.returns-in-End
returns-in-End g c =
    last_line g.C.FamilyClient.protocol g.C.Reported.FamilyState.changed g.C.FamilyClient.parts g.C.VerdictClient.packet_verdict g.D.Dialogue.moves (held g.C.FamilyClient.parts c.args.client.now) c.args.dialogue.now (most_lines - (c.lines.counter + 1)) (held g.C.FamilyClient.parts c.lines.client) c.lines.dialogue
    (with_next g.C.FamilyClient.protocol g.C.Reported.FamilyState.changed g.C.FamilyClient.parts g.C.VerdictClient.packet_verdict g.D.Dialogue.moves (held g.C.FamilyClient.parts c.args.client.now) c.args.dialogue.now c.lines.counter (held g.C.FamilyClient.parts c.lines.client) c.lines.dialogue c.lines-test.true c.lines.invariant)
    c.as_slice.result.now c.in-End.status (held g.C.FamilyClient.parts c.answer_line.new.client) c.hear.new.self c.answer_line.new.dialogue
    (subst (λ (text : List ℕ). g.D.Dialogue.moves (Hears text) c.lines.dialogue c.hear.new.self) (sym c.as_slice.ensures.value) c.in-Ok.ensures.moved) c.in-End.ensures

pub lines-preserved : goal.lines-preserved
lines-preserved g c =
    one_line_more g.C.FamilyClient.protocol g.C.Reported.FamilyState.changed g.C.FamilyClient.parts g.C.VerdictClient.packet_verdict g.D.Dialogue.moves (held g.C.FamilyClient.parts c.args.client.now) c.args.dialogue.now (most_lines - (c.lines.counter + 1)) (held g.C.FamilyClient.parts c.lines.client) c.lines.dialogue
    (with_next g.C.FamilyClient.protocol g.C.Reported.FamilyState.changed g.C.FamilyClient.parts g.C.VerdictClient.packet_verdict g.D.Dialogue.moves (held g.C.FamilyClient.parts c.args.client.now) c.args.dialogue.now c.lines.counter (held g.C.FamilyClient.parts c.lines.client) c.lines.dialogue c.lines-test.true c.lines.invariant)
    c.as_slice.result.now (held g.C.FamilyClient.parts c.answer_line.new.client) c.hear.new.self c.answer_line.new.dialogue
    (subst (λ (text : List ℕ). g.D.Dialogue.moves (Hears text) c.lines.dialogue c.hear.new.self) (sym c.as_slice.ensures.value) c.in-Ok.ensures.moved) c.in-Line.ensures

pub returns : goal.returns
returns g c = over g.C.FamilyClient.protocol g.C.Reported.FamilyState.changed g.C.FamilyClient.parts g.C.VerdictClient.packet_verdict g.D.Dialogue.moves (held g.C.FamilyClient.parts c.args.client.now) c.args.dialogue.now c.lines.counter (held g.C.FamilyClient.parts c.lines.client) c.lines.dialogue c.lines-test.false c.lines.invariant
