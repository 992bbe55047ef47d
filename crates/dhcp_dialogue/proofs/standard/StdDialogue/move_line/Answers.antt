-- The bytes up to and with the line feed are a part of those that were read.
use Rattle.std.proofs.Common.{true, ◌+◌, ◌-◌, length, take, drop, subst, arith}
use Rattle.dhcp_dialogue.specs.Standard.{MovesLine, StdDialogueView}
use Rattle.dhcp_dialogue.proofs.LineLemmas.{field-fits, field-length, field-moves}
use Rattle.dhcp_dialogue.proofs.standard.StdDialogue.move_line.Goals as goal

pub slice_bounds-extend_from_slice-end : goal.slice_bounds-extend_from_slice-end
slice_bounds-extend_from_slice-end g c = field-length c.self.inside.start c.self.inside.end c.deref.result.now c.in-Some.before.now c.in-Some.field-0-1.now c.in-Some.ensures

pub invariant_of-self : goal.invariant_of-self
invariant_of-self g c =
    let small = field-fits c.self.inside.start c.self.inside.end c.deref.result.now c.in-Some.before.now c.in-Some.field-0-1.now c.in-Some.ensures in
    (omega (arith, small, c.self.invariant.0), c.self.invariant.1)

pub returns-in_ok-extend_from_slice-in-Some-clause-moved : goal.returns-in_ok-extend_from_slice-in-Some-clause-moved
returns-in_ok-extend_from_slice-in-Some-clause-moved g c =
    let moves = field-moves c.self.inside.start c.self.inside.end c.self.inside.piece.items c.in-Some.before.now c.in-Some.field-0-1.now (rw c.deref.ensures.value at c.in-Some.ensures) c.self.invariant.0 c.args.line.now.items c.extend_from_slice.new.self.items (rw c.deref.ensures.value at c.in_ok-extend_from_slice-in-Some.ensures.items) in
    subst (λ (dialogue : StdDialogueView). MovesLine true dialogue.ahead (take (c.self.inside.end - (c.self.inside.start + (length c.in-Some.before.now + 1))) (drop (c.self.inside.start + (length c.in-Some.before.now + 1)) c.self.inside.piece.items)) c.args.line.now.items c.extend_from_slice.new.self.items) c.self.view_is moves
