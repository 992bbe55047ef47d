-- Line by line.
use Rattle.std.proofs.Common.{◌≡◌, ◌≤◌, true, false, length, List, ℕ, Ok, subst, sym, ap, ◌∙◌, arith}
use Rattle.dhcp_dialogue.specs.Dialogue.{most_line_bytes, status_of}
use Rattle.dhcp_live.specs.Tool.{HearsHead, is_last_of_head}
use Rattle.dhcp_live.proofs.HeadLemmas.{HeadSoFar, ended_so, last_line, line_some, no_line, no_memory_left, one_line_more, put_behind, shorter, too_long}
use Rattle.dhcp_live.proofs.head.hear_head.Goals as goal

pub returns-in_err-hear : goal.returns-in_err-hear
returns-in_err-hear g c =
    let short : length c.lines.head.items ≤ most_line_bytes = omega arith in
    ended_so g.D.Dialogue.moves c.args.dialogue.now c.from_residual.result (status_of c.in_err-hear.field-0.0) c.hear.new.self c.from_residual.ensures.1
    (no_line g.D.Dialogue.moves c.args.dialogue.now c.lines.head.items c.lines.dialogue c.lines.invariant short c.in_err-hear.field-0.0 c.hear.new.self c.in_err-hear.ensures.moved)

pub returns-then-is_err : goal.returns-then-is_err
returns-then-is_err g c =
    let short : length c.lines.head.items ≤ most_line_bytes = omega arith in
    no_memory_left g.D.Dialogue.moves c.args.dialogue.now c.lines.head.items c.lines.dialogue c.lines.invariant short c.hear.new.line.items c.hear.new.self c.in_ok-hear.ensures.moved

pub returns-then-is_last : goal.returns-then-is_last
returns-then-is_last g c =
    let short : length c.lines.head.items ≤ most_line_bytes = omega arith in
    let last : is_last_of_head c.hear.new.line.items ≡ true = ap is_last_of_head (sym c.as_slice-in-lines.ensures.value) ∙ sym c.is_last.ensures ∙ c.if-is_last.true in
    subst (λ (head : List ℕ). HearsHead g.D.Dialogue.moves (Ok head) c.args.dialogue.now c.hear.new.self)
    (sym (c.from.ensures ∙ put_behind c.extend_from_slice.result c.extend_from_slice.new.self.items c.lines.head.items c.as_slice.result.now c.hear.new.line.items c.extend_from_slice.ensures.items c.as_slice.ensures.value c.if-is_err.ensures.value))
    (last_line g.D.Dialogue.moves c.args.dialogue.now c.lines.head.items c.lines.dialogue c.lines.invariant short c.hear.new.line.items c.hear.new.self c.in_ok-hear.ensures.moved last)

pub lines-smaller : goal.lines-smaller
lines-smaller g c =
    let short : length c.lines.head.items ≤ most_line_bytes = omega arith in
    shorter most_line_bytes c.extend_from_slice.new.self.items c.lines.head.items c.hear.new.line.items
    (put_behind c.extend_from_slice.result c.extend_from_slice.new.self.items c.lines.head.items c.as_slice.result.now c.hear.new.line.items c.extend_from_slice.ensures.items c.as_slice.ensures.value c.if-is_err.ensures.value)
    (line_some c.hear.new.line.items c.in_ok-hear.ensures.line) short

pub lines-preserved : goal.lines-preserved
lines-preserved g c =
    let short : length c.lines.head.items ≤ most_line_bytes = omega arith in
    let inner : is_last_of_head c.hear.new.line.items ≡ false = ap is_last_of_head (sym c.as_slice-in-lines.ensures.value) ∙ sym c.is_last.ensures ∙ c.if-is_last.false in
    subst (λ (head : List ℕ). HeadSoFar g.D.Dialogue.moves c.args.dialogue.now head c.hear.new.self)
    (sym (put_behind c.extend_from_slice.result c.extend_from_slice.new.self.items c.lines.head.items c.as_slice.result.now c.hear.new.line.items c.extend_from_slice.ensures.items c.as_slice.ensures.value c.if-is_err.ensures.value))
    (one_line_more g.D.Dialogue.moves c.args.dialogue.now c.lines.head.items c.lines.dialogue c.lines.invariant short c.hear.new.line.items c.hear.new.self c.in_ok-hear.ensures.moved inner)

pub returns : goal.returns
returns g c = too_long g.D.Dialogue.moves c.args.dialogue.now c.lines.head.items c.lines.dialogue c.lines.invariant (omega arith)
