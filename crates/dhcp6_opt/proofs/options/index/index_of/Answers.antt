-- The entries of the options are sorted stably, and the first of each number stays.
use Rattle.std.proofs.Common.{ap, ◌∙◌, arith, rules}
use Rattle.std.proofs.lemmas.Fn.{dedup_same}
use Rattle.std.proofs.lemmas.List.{take_all}
use Rattle.std.proofs.lemmas.List.Sorted.{answers_always, IsNonDecreasingBy-from_sort_by_key}
use Rattle.dhcp6_opt.specs.OptionCode.{number_of}
use Rattle.dhcp6_opt.proofs.IndexBuildLemmas.{entries_from, entries_from-more, entry_number, index_built, same_code}
use Rattle.dhcp6_opt.proofs.options.index.index_of.Goals as goal

pub loop-option-preserved : goal.loop-option-preserved
loop-option-preserved c =
    rw c.in_ok-push.ensures.items
    (entries_from-more c.args.kept.now _ _ _ _ c.option-item.result (omega (arith, c.loop-option-test.true)) c.option-item.is
    (c.from-number.ensures ∙ ap number_of c.code.ensures) (omega (arith, c.len-first.ensures)) c.loop-option.invariant)

pub returns : goal.returns
returns c =
    let kept = c.args.kept.now in
    let read = c.loop-option.invariant ∙ ap (entries_from 0) (take_all _ kept (omega (arith, c.loop-option-test.false))) in
    let left = dedup_same _ same_code _ (λ x y b f' x' y' k. search rules) _ _ c.dedup_by_key.ensures.filtered in
    rw left
    (index_built kept _ _ c.requires read
    (IsNonDecreasingBy-from_sort_by_key entry_number _ c.in_ok-sort_by_key.ensures.sorted (λ a r q k. search rules))
    (c.sort_by_key.ensures.stable entry_number (answers_always _ _ _ (λ f a r g h. search rules))))
