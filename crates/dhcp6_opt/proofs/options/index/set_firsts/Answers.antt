-- Each turn sets the entry of one option's number, which is there.
use Rattle.std.proofs.Common.{◌≡◌, ◌==◌, ℕ, ◌+◌, ◌-◌, ◌<◌, cond, length, drop, get_or, Some, refl, sym, ap, subst, ◌∙◌, arith}
use Rattle.std.specs.List.{position_from}
use Rattle.dhcp6_opt.specs.OptionCode.{number_of}
use Rattle.dhcp6_opt.specs.OptionIndex.{first_place, GoesAt, has_number, IsEntryAt}
use Rattle.dhcp6_opt.specs.Value.{option_number}
use Rattle.dhcp6_opt.proofs.OptionIndexLemmas.{first_place-entry, first_place-missing, first_set}
use Rattle.dhcp6_opt.proofs.OptionListLemmas.{has_entry, set_all, set_earlier, set_same}
use Rattle.dhcp6_opt.proofs.options.index.set_firsts.Goals as goal

pub loop-left-preserved-in-Ok : goal.loop-left-preserved-in-Ok
loop-left-preserved-in-Ok c =
    let i : ℕ = c.loop-left.left - 1 in
    let kept = c.args.kept.now in
    let es = c.loop-left.entries.items in
    let n = c.from-number.result in
    let d = c.index-kept-left.result in
    let inside : i < length kept = omega (arith, c.loop-left-test.true, c.loop-left.invariant.inside) in
    let next : i + 1 ≡ c.loop-left.left = omega (arith, c.loop-left-test.true) in
    let here : option_number (get_or kept i d) ≡ n = sym (c.from-number.ensures ∙ ap number_of c.code.ensures ∙ ap option_number c.index-kept-left.is) in
    let entry = subst (λ entries. IsEntryAt entries n c.in-Ok.place) c.deref.ensures.value c.in-Ok.ensures.place in
    let changed = first_set n c.in-Ok.place es (record { number = n; first = i }) c.loop-left.invariant.rises entry refl in
    record {
      inside = omega (arith, inside);
      rises = changed.0;
      same = set_same kept es _ n i _ (first_place-entry n _ es (record { number = n; first = i }) entry) c.loop-left.invariant.same changed.1;
      later = set_earlier kept es _ i d inside (λ q p is. c.loop-left.invariant.later q p (subst (λ k. position_from (has_number q) k (drop k kept) ≡ Some p) next is))
          (λ q. changed.1 q ∙ ap (λ m. cond (q == m) (Some i) (first_place q es)) (sym here));
    }

pub loop-left-preserved : goal.loop-left-preserved
loop-left-preserved c =
    let i : ℕ = c.loop-left.left - 1 in
    let kept = c.args.kept.now in
    let es = c.loop-left.entries.items in
    let n = c.from-number.result in
    let d = c.index-kept-left.result in
    let inside : i < length kept = omega (arith, c.loop-left-test.true, c.loop-left.invariant.inside) in
    let here : option_number (get_or kept i d) ≡ n = sym (c.from-number.ensures ∙ ap number_of c.code.ensures ∙ ap option_number c.index-kept-left.is) in
    let goes = subst (λ entries. GoesAt entries n c.in_default.field-0) c.deref.ensures.value c.in_default.ensures.place in
    absurd (has_entry kept es i d inside c.loop-left.invariant.same (ap (λ m. first_place m es) here ∙ first_place-missing n _ es goes))

pub returns-clause-firsts : goal.returns-clause-firsts
returns-clause-firsts c =
    let kept = c.args.kept.now in
    let end : 0 ≡ c.loop-left.left = omega (arith, c.loop-left-test.false) in
    set_all kept c.loop-left.entries.items c.loop-left.invariant.same
    (λ q p is. c.loop-left.invariant.later q p (subst (λ k. position_from (has_number q) k (drop k kept) ≡ Some p) end is))
