use Rattle.std.proofs.Common.{◌++◌, take, arith, ap, ◌∙◌}
use Rattle.std.proofs.KnownBytes.{Consumes-nil, Consumes-trans}
use Rattle.std.proofs.lemmas.Grind.{common_steps}
use Rattle.std.specs.Io.KnownBytes.{IsAtEnd}
use Rattle.dhcp_stream.specs.declared.stream.ReadOutcome.TheVariants.{Read}
use Rattle.dhcp_stream.proofs.StreamLemmas.{Consumes-end, Consumes-still}
use Rattle.dhcp_stream.proofs.whole.read_whole.Goals as goal

pub loop-piece-init : goal.loop-piece-init
loop-piece-init g c = rw c.new-bytes.ensures.items record { within = omega arith; moved = Consumes-nil _; counted = omega arith }

pub returns-in-Read-eq0-clause-outcome : goal.returns-in-Read-eq0-clause-outcome
returns-in-Read-eq0-clause-outcome g c =
    let zero = c.in-Read-eq0.field-0-test in
    let still = rw zero at c.in-Read-eq0.ensures.moved in
    let end : IsAtEnd (g.S.Source.left c.read.new.self) = c.read.ensures.end (c.in-Read-eq0.is ∙ ap Read zero) (grind (arith, common_steps)) in
    rw c.from.ensures
    (Consumes-end _ _ _ (Consumes-still _ _ _ _ c.loop-piece.invariant.moved still) end, grind (arith, common_steps), end)

pub returns-in-Read-eq0-clause-goes_on : goal.returns-in-Read-eq0-clause-goes_on
returns-in-Read-eq0-clause-goes_on g c =
    let still = rw c.in-Read-eq0.field-0-test at c.in-Read-eq0.ensures.moved in
    (c.loop-piece.bytes.items, c.loop-piece.invariant.within, Consumes-still _ _ _ _ c.loop-piece.invariant.moved still)

pub loop-piece-preserved : goal.loop-piece-preserved
loop-piece-preserved g c = record {
  within = grind (arith, common_steps);
  moved = grind (arith, common_steps, Consumes-trans _ _ _ _ _ c.loop-piece.invariant.moved c.in-Read.ensures.moved);
  counted = omega arith;
}

pub returns-in_err-extend_from_slice-in-Read-clause-goes_on :
    goal.returns-in_err-extend_from_slice-in-Read-clause-goes_on
returns-in_err-extend_from_slice-in-Read-clause-goes_on g c = (
  c.loop-piece.bytes.items ++ take c.in-Read.count c.read.new.into,
  grind (arith, common_steps),
  Consumes-trans _ _ _ _ _ c.loop-piece.invariant.moved c.in-Read.ensures.moved,
)

pub returns-in-Failed-clause-goes_on : goal.returns-in-Failed-clause-goes_on
returns-in-Failed-clause-goes_on g c = (
  c.loop-piece.bytes.items,
  c.loop-piece.invariant.within,
  Consumes-still _ _ _ _ c.loop-piece.invariant.moved c.in-Failed.ensures.moved,
)

pub returns-clause-outcome : goal.returns-clause-outcome
returns-clause-outcome g c = (c.loop-piece.bytes.items, grind (arith, common_steps), c.loop-piece.invariant.moved)

pub returns-clause-goes_on : goal.returns-clause-goes_on
returns-clause-goes_on g c = (c.loop-piece.bytes.items, c.loop-piece.invariant.within, c.loop-piece.invariant.moved)

pub returns-in-Failed-clause-outcome : goal.returns-in-Failed-clause-outcome
returns-in-Failed-clause-outcome g c = (
  grind (arith, common_steps),
  (c.loop-piece.bytes.items, grind (arith, common_steps), Consumes-still _ _ _ _ c.loop-piece.invariant.moved c.in-Failed.ensures.moved),
)
