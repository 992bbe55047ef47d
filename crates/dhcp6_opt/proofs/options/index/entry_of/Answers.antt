-- Each step goes on at one side of the middle, or ends there.
use Rattle.std.proofs.Common.{◌≡◌, ℕ, suc, ◌+◌, ◌-◌, ◌/◌, ◌<◌, length, take, subst, arith}
use Rattle.std.specs.Cmp.{ranked}
use Rattle.std.specs.declared.cmp.Ordering.TheVariants.{Less, Equal, Greater}
use Rattle.dhcp6_opt.specs.OptionIndex.{AllBelow}
use Rattle.dhcp6_opt.proofs.OptionIndexLemmas.{above_from, below_through, cost_step, is_entry_at, pow_step}
use Rattle.dhcp6_opt.proofs.options.index.entry_of.Goals as goal

pub loop-low-preserved-in-Less : goal.loop-low-preserved-in-Less
loop-low-preserved-in-Less g c =
    let es = c.args.entries.now in
    let m : ℕ = c.loop-low.low + (c.loop-low.high - c.loop-low.low) / 2 in
    let inside : m < length es = omega (arith, c.loop-low.invariant.inside, c.loop-low-test.true) in
    let below : AllBelow c.args.number (take (suc m) es) = below_through c.args.number m es _ c.requires inside (ranked _ _ Less c.in-Less.ensures) in
    let next : suc m ≡ m + 1 = omega arith in
    let cost = cost_step _ _ (c.loop-low.high - c.loop-low.low) (c.loop-low.high - (m + 1)) (length es) (pow_step (g.S.StepCounter.counted c.args.steps.now) (g.S.StepCounter.counted c.loop-low.steps) (g.S.StepCounter.counted c.step.new.self) c.step.ensures.most) (omega (arith, c.loop-low-test.true)) (omega (arith, c.loop-low-test.true)) c.loop-low.invariant.halved in
    record {
      ordered = omega (arith, c.loop-low-test.true);
      inside = c.loop-low.invariant.inside;
      below = subst (λ k. AllBelow c.args.number (take k es)) next below;
      above = c.loop-low.invariant.above;
      halved = cost.0;
      few = cost.1;
      kept = omega (arith, c.step.ensures.least, c.loop-low.invariant.kept);
      begun = λ _. omega (arith, c.step.ensures.least, c.loop-low.invariant.kept);
    }

pub returns-in-Equal-clause-place : goal.returns-in-Equal-clause-place
returns-in-Equal-clause-place g c =
    let m : ℕ = c.loop-low.low + (c.loop-low.high - c.loop-low.low) / 2 in
    let inside : m < length c.args.entries.now = omega (arith, c.loop-low.invariant.inside, c.loop-low-test.true) in
    is_entry_at c.args.number m c.args.entries.now _ c.requires inside (ranked _ _ Equal c.in-Equal.ensures)

pub returns-in-Equal-clause-cost : goal.returns-in-Equal-clause-cost
returns-in-Equal-clause-cost g c =
    let cost = cost_step _ _ (c.loop-low.high - c.loop-low.low) 0 (length c.args.entries.now) (pow_step (g.S.StepCounter.counted c.args.steps.now) (g.S.StepCounter.counted c.loop-low.steps) (g.S.StepCounter.counted c.step.new.self) c.step.ensures.most) (omega (arith, c.loop-low-test.true)) (omega arith) c.loop-low.invariant.halved in
    cost.1

pub returns-in-Equal-clause-counted : goal.returns-in-Equal-clause-counted
returns-in-Equal-clause-counted g c _ = omega (arith, c.step.ensures.least, c.loop-low.invariant.kept)

pub loop-low-preserved : goal.loop-low-preserved
loop-low-preserved g c =
    let es = c.args.entries.now in
    let m : ℕ = c.loop-low.low + (c.loop-low.high - c.loop-low.low) / 2 in
    let inside : m < length es = omega (arith, c.loop-low.invariant.inside, c.loop-low-test.true) in
    let above = above_from c.args.number m es _ c.requires inside (ranked _ _ Greater c.in-Greater.ensures) in
    let cost = cost_step _ _ (c.loop-low.high - c.loop-low.low) (m - c.loop-low.low) (length es) (pow_step (g.S.StepCounter.counted c.args.steps.now) (g.S.StepCounter.counted c.loop-low.steps) (g.S.StepCounter.counted c.step.new.self) c.step.ensures.most) (omega (arith, c.loop-low-test.true)) (omega (arith, c.loop-low-test.true)) c.loop-low.invariant.halved in
    record {
      ordered = omega (arith, c.loop-low-test.true);
      inside = omega (arith, inside);
      below = c.loop-low.invariant.below;
      above = above;
      halved = cost.0;
      few = cost.1;
      kept = omega (arith, c.step.ensures.least, c.loop-low.invariant.kept);
      begun = λ _. omega (arith, c.step.ensures.least, c.loop-low.invariant.kept);
    }
