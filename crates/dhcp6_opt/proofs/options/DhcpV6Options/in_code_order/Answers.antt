-- All options, in order of insertion, are sorted stably.
use Rattle.std.proofs.Common.{◌≡◌, IsTrue, Ok, ◌∙◌, rules}
use Rattle.std.proofs.lemmas.Iterator.{YieldsList-from_slice}
use Rattle.std.proofs.lemmas.Iterator.Consumers.{map_from_collect}
use Rattle.std.proofs.lemmas.List.Sorted.{answers_always, IsNonDecreasingBy-from_sort_by_key}
use Rattle.std.specs.declared.alloc.AllocError.{AllocError}
use Rattle.dhcp6_opt.specs.declared.option.DhcpV6Option.{DhcpV6Option}
use Rattle.dhcp6_opt.specs.Value.{fits}
use Rattle.dhcp6_opt.proofs.EqualityLemmas.{groups_of}
use Rattle.dhcp6_opt.proofs.OptionListLemmas.{fit_at}
use Rattle.dhcp6_opt.proofs.SortLemmas.{behind, each_sorted, number_at, sorted_values}
use Rattle.dhcp6_opt.proofs.options.DhcpV6Options.in_code_order.Goals as goal

pub returns-clause-value : goal.returns-clause-value
returns-clause-value c =
    let kept = c.self.inside.kept.items in
    let read : behind c.in_ok-ordered.ordered.items ≡ kept = map_from_collect {E = AllocError} (Ok c.in_ok-ordered.ordered) c.in_ok-ordered.ensures.ran (YieldsList-from_slice kept (c.iter.ensures.rest ∙ c.deref.ensures.value)) in
    rw (← c.self.view_is)
    (sorted_values kept _ _ _ c.self.invariant read c.sort_by_key.ensures.permutation
    (IsNonDecreasingBy-from_sort_by_key number_at _ c.in_ok-sort_by_key.ensures.sorted (λ a r q k. search rules))
    (c.sort_by_key.ensures.stable number_at (answers_always _ _ _ (λ f a r g h. search rules))))

pub returns-clause-fit : goal.returns-clause-fit
returns-clause-fit c =
    let kept = c.self.inside.kept.items in
    let read : behind c.in_ok-ordered.ordered.items ≡ kept = map_from_collect {E = AllocError} (Ok c.in_ok-ordered.ordered) c.in_ok-ordered.ensures.ran (YieldsList-from_slice kept (c.iter.ensures.rest ∙ c.deref.ensures.value)) in
    let Fits : DhcpV6Option → Type 0 = λ option. IsTrue (fits option) in
    each_sorted Fits kept _ _ (λ k d inside. fit_at k kept d c.self.invariant.fit inside) read c.sort_by_key.ensures.permutation

pub returns-clause-groups : goal.returns-clause-groups
returns-clause-groups c = rw (← c.self.view_is) (groups_of _ _ c.self.invariant)
