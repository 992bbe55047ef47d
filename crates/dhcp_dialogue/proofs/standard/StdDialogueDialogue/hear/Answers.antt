-- A line grows piece by piece.
use Rattle.std.proofs.Common.{◌≡◌, ◌<◌, ◌≤◌, length, true, false, Err, ap, arith}
use Rattle.std.proofs.KnownBytes.{Consumes-kept}
use Rattle.dhcp_stream.specs.Standard.{StdSourceView}
use Rattle.dhcp_dialogue.proofs.LineLemmas.{line-ends, line-goes-on, on_ok}
use Rattle.dhcp_dialogue.proofs.MoveLemmas.{Consumes-piece, grows-within, hears_line, misses, no_line-clear}
use Rattle.dhcp_dialogue.specs.Dialogue.{most_line_bytes}
use Rattle.dhcp_dialogue.specs.Standard.{piece_bytes}
use Rattle.dhcp_dialogue.specs.declared.dialogue.Unheard.TheVariants.{NoMemory}
use Rattle.dhcp_dialogue.proofs.standard.StdDialogueDialogue.hear.Goals as goal

pub pieces-preserved : goal.pieces-preserved
pieces-preserved g c =
    let moves = rw c.if-branch.false at c.in_ok-move_line.ensures.moved in
    let short : length c.pieces.line.items ≤ most_line_bytes = grind arith in
    let few : length c.read_ahead.new.self.ahead ≤ piece_bytes = c.in_ok-read_ahead.ensures.few in
    let same : c.move_line.new.self.source.faults ≡ c.read_ahead.new.self.source.faults = ap (λ (source : StdSourceView). source.faults) c.in_ok-move_line.ensures.source in
    record {
      clear = line-goes-on c.read_ahead.new.self.ahead c.move_line.new.self.ahead c.pieces.line.items c.move_line.new.line.items c.pieces.invariant.clear moves;
      moved = Consumes-piece false c.args.self.now c.pieces.self c.read_ahead.new.self c.move_line.new.self c.pieces.line.items c.move_line.new.line.items c.pieces.invariant.moved
          c.in_ok-read_ahead.ensures.bytes moves c.in_ok-move_line.ensures.source;
      within = omega (arith, short, few, grows-within false c.read_ahead.new.self.ahead c.move_line.new.self.ahead c.pieces.line.items c.move_line.new.line.items moves);
      later = omega (arith, same, c.pieces.invariant.later, c.in_ok-read_ahead.ensures.later);
      sink = rw (c.in_ok-move_line.ensures.sink, c.in_ok-read_ahead.ensures.sink) c.pieces.invariant.sink;
    }

pub returns-then-branch-clause-line : goal.returns-then-branch-clause-line
returns-then-branch-clause-line g c =
    on_ok c.check_length.result (line-ends c.read_ahead.new.self.ahead c.move_line.new.self.ahead c.pieces.line.items c.move_line.new.line.items c.pieces.invariant.clear (rw c.if-branch.true at c.in_ok-move_line.ensures.moved))

pub returns-then-branch-clause-moved : goal.returns-then-branch-clause-moved
returns-then-branch-clause-moved g c =
    let moves = rw c.if-branch.true at c.in_ok-move_line.ensures.moved in
    let short : length c.pieces.line.items ≤ most_line_bytes = grind arith in
    let few : length c.read_ahead.new.self.ahead ≤ piece_bytes = c.in_ok-read_ahead.ensures.few in
    hears_line c.check_length.result c.args.self.now c.move_line.new.self c.move_line.new.line.items
    (line-ends c.read_ahead.new.self.ahead c.move_line.new.self.ahead c.pieces.line.items c.move_line.new.line.items c.pieces.invariant.clear moves)
    (rw c.as_slice.ensures.value at c.check_length.ensures.error)
    (omega (arith, short, few, grows-within true c.read_ahead.new.self.ahead c.move_line.new.self.ahead c.pieces.line.items c.move_line.new.line.items moves))
    (Consumes-piece true c.args.self.now c.pieces.self c.read_ahead.new.self c.move_line.new.self c.pieces.line.items c.move_line.new.line.items c.pieces.invariant.moved
    c.in_ok-read_ahead.ensures.bytes moves c.in_ok-move_line.ensures.source)
    (rw (c.in_ok-move_line.ensures.sink, c.in_ok-read_ahead.ensures.sink) c.pieces.invariant.sink)

pub returns-in_err-read_ahead-clause-moved : goal.returns-in_err-read_ahead-clause-moved
returns-in_err-read_ahead-clause-moved g c =
    let short : length c.pieces.line.items ≤ most_line_bytes = grind arith in
    let is : c.from_residual.result ≡ Err c.in_err-read_ahead.field-0.0 = grind arith in
    misses c.from_residual.result c.in_err-read_ahead.field-0.0 c.args.self.now c.read_ahead.new.self c.pieces.line.items c.pieces.line.items is c.pieces.invariant.clear
    (Consumes-kept _ _ _ _ c.pieces.invariant.moved c.in_err-read_ahead.ensures.bytes)
    (c.in_err-read_ahead.ensures.why c.pieces.line.items short)
    (rw c.in_err-read_ahead.ensures.sink c.pieces.invariant.sink)

pub returns-in_err-move_line-clause-moved : goal.returns-in_err-move_line-clause-moved
returns-in_err-move_line-clause-moved g c =
    let short : length c.pieces.line.items ≤ most_line_bytes = grind arith in
    let is : c.from_residual-in_err-move_line.result ≡ Err NoMemory = grind arith in
    let read = Consumes-kept _ _ _ _ c.pieces.invariant.moved c.in_ok-read_ahead.ensures.bytes in
    let sink : c.read_ahead.new.self.sink ≡ c.args.self.now.sink = rw c.in_ok-read_ahead.ensures.sink c.pieces.invariant.sink in
    misses c.from_residual-in_err-move_line.result NoMemory c.args.self.now c.move_line.new.self c.move_line.new.line.items c.pieces.line.items is c.pieces.invariant.clear
    (rw (c.in_err-move_line.ensures.kept, c.in_err-move_line.ensures.source) read) short (rw c.in_err-move_line.ensures.sink sink)

pub returns-clause-moved : goal.returns-clause-moved
returns-clause-moved g c =
    let long : most_line_bytes < length c.pieces.line.items = grind arith in
    (record { gone = c.pieces.line.items; moved = c.pieces.invariant.moved; no_line = no_line-clear c.pieces.line.items c.pieces.invariant.clear; why_is = (long, c.pieces.invariant.within) }, c.pieces.invariant.sink)
