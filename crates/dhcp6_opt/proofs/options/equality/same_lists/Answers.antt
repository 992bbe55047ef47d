-- Each turn takes an entry off both.
use Rattle.std.proofs.Common.{map, sym, ap, ◌∙◌}
use Rattle.std.proofs.lemmas.Bool.{and_from, eq-eqb}
use Rattle.std.specs.Cmp.Lexicographic.{pointwise}
use Rattle.std.specs.List.{filter}
use Rattle.dhcp6_opt.specs.contracts.option.DhcpV6OptionPartialEq.TheImpl.{ghosts}
use Rattle.dhcp6_opt.specs.OptionIndex.{entry_in, has_number, same_entry}
use Rattle.dhcp6_opt.proofs.EqualityLemmas.{pointwise_step}
use Rattle.dhcp6_opt.proofs.options.equality.same_lists.Goals as goal

pub loop-entry-preserved : goal.loop-entry-preserved
loop-entry-preserved c =
    let x = c.in-Some.entry.now in
    let y = c.in-Some-split_first.other.now in
    let same = sym (ap (λ n. pointwise ghosts.eq (filter (has_number x.number) c.args.mine.now) (filter (has_number n) c.args.theirs.now)) c.if-entry-other.false) ∙ sym c.if-not-same_numbered.ensures in
    c.loop-entry.invariant ∙ pointwise_step (same_entry ghosts.eq) _ _ _ _ _ _
    (ap (map (entry_in c.args.mine.now)) c.in-Some.ensures.cases.0) (ap (map (entry_in c.args.theirs.now)) c.in-Some-split_first.ensures.cases.0)
    (and_from _ _ (eq-eqb x.number y.number c.if-entry-other.false) same)
