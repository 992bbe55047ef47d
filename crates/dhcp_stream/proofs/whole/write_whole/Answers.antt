use Rattle.std.proofs.Common.{arith}
use Rattle.std.proofs.KnownBytes.{Appends-nil}
use Rattle.std.proofs.lemmas.Grind.{common_steps}
use Rattle.dhcp_stream.proofs.StreamLemmas.{Appends-more, Appends-still}
use Rattle.dhcp_stream.proofs.whole.write_whole.Goals as goal

pub loop-done-init : goal.loop-done-init
loop-done-init g c = record { within = omega arith; took = Appends-nil _; counted = omega arith }

pub loop-done-preserved : goal.loop-done-preserved
loop-done-preserved g c = record {
  within = grind (arith, common_steps);
  took = Appends-more _ _ _ _ _ _ _ c.loop-done.invariant.took (grind (arith, common_steps)) c.in-Wrote.ensures.took;
  counted = omega arith;
}

pub returns-in-Failed-clause-front : goal.returns-in-Failed-clause-front
returns-in-Failed-clause-front g c = λ _.
    (c.loop-done.done, grind (arith, common_steps), Appends-still _ _ _ _ c.loop-done.invariant.took c.in-Failed.ensures.took)
