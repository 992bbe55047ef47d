-- Each turn takes one option off.
use Rattle.std.proofs.Common.{cond, length, ◌∷◌, sym, ap, ◌∙◌, arith}
use Rattle.std.specs.List.{filter}
use Rattle.dhcp6_opt.specs.OptionIndex.{has_number}
use Rattle.dhcp6_opt.proofs.EqualityLemmas.{empty_list}
use Rattle.dhcp6_opt.proofs.options.equality.next_numbered.Goals as goal

pub returns-then-has_number-clause-next : goal.returns-then-has_number-clause-next
returns-then-has_number-clause-next c =
    let split = c.in-Some.ensures.cases.0 in
    let p = has_number c.args.number in
    let x = c.in-Some.option.now in
    let later = c.in-Some.later.now in
    c.loop-option.invariant.same ∙ ap (filter p) split ∙ ap (λ b. cond b (x ∷ filter p later) (filter p later)) (sym c.if-has_number.ensures)

pub returns-then-has_number-clause-shorter : goal.returns-then-has_number-clause-shorter
returns-then-has_number-clause-shorter c =
    let split = ap length c.in-Some.ensures.cases.0 in
    omega (arith, split, c.loop-option.invariant.few)

pub loop-option-smaller : goal.loop-option-smaller
loop-option-smaller c =
    let split = ap length c.in-Some.ensures.cases.0 in
    omega (arith, split)

pub loop-option-preserved : goal.loop-option-preserved
loop-option-preserved c =
    let split = c.in-Some.ensures.cases.0 in
    let long = ap length split in
    let p = has_number c.args.number in
    let x = c.in-Some.option.now in
    let later = c.in-Some.later.now in
    record {
      same = c.loop-option.invariant.same ∙ ap (filter p) split ∙ ap (λ b. cond b (x ∷ filter p later) (filter p later)) (sym c.if-has_number.ensures);
      few = omega (arith, long, c.loop-option.invariant.few);
    }

pub returns-clause-next : goal.returns-clause-next
returns-clause-next c = c.loop-option.invariant.same ∙ ap (filter (has_number c.args.number)) (empty_list _ c.in_default.ensures.cases)
