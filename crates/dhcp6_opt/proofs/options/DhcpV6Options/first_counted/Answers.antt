-- The entry of the number has the place of its first option.
use Rattle.std.proofs.Common.{Some, IsTrue, sym, ap, subst, ◌∙◌, arith}
use Rattle.dhcp6_opt.specs.declared.option.DhcpV6Option.{DhcpV6Option}
use Rattle.dhcp6_opt.specs.declared.option.DhcpV6Option.TheVariants.{RapidCommit}
use Rattle.std.proofs.lemmas.Bool.{eqb-true}
use Rattle.dhcp6_opt.specs.OptionIndex.{GoesAt, has_number, IsEntryAt}
use Rattle.dhcp6_opt.specs.Value.{fits, option_number}
use Rattle.dhcp6_opt.proofs.OptionIndexLemmas.{first_place-entry, first_place-missing}
use Rattle.dhcp6_opt.proofs.OptionListLemmas.{first_of-missing, first_of-placed, fit_at, len-lists_of, placed}
use Rattle.dhcp6_opt.proofs.options.DhcpV6Options.first_counted.Goals as goal

pub index-requires-in-Ok : goal.index-requires-in-Ok
index-requires-in-Ok g c =
    let entry = subst (λ es. IsEntryAt es c.from.result c.in-Ok.place) c.deref.ensures.value c.in-Ok.ensures.place in
    let at = sym (c.self.invariant.firsts c.from.result) ∙ first_place-entry c.from.result _ _ c.index.result.now entry ∙ ap (λ e. Some e.first) (sym c.index.ensures) in
    let option : DhcpV6Option = RapidCommit in
    let inside = (placed (has_number c.from.result) c.self.inside.kept.items _ option at).inside in
    omega (arith, inside, c.self.inside.kept.ok)

pub returns-in-Ok-clause-value : goal.returns-in-Ok-clause-value
returns-in-Ok-clause-value g c =
    let entry = subst (λ es. IsEntryAt es c.from.result c.in-Ok.place) c.deref.ensures.value c.in-Ok.ensures.place in
    let at = sym (c.self.invariant.firsts c.from.result) ∙ first_place-entry c.from.result _ _ c.index.result.now entry ∙ ap (λ e. Some e.first) (sym c.index.ensures) in
    rw (← c.self.view_is, ← c.from.ensures) (ap Some c.index-in-Ok.ensures ∙ sym (first_of-placed _ _ _ c.index-in-Ok.result.now at))

pub returns-in-Ok-clause-kept : goal.returns-in-Ok-clause-kept
returns-in-Ok-clause-kept g c =
    let entry = subst (λ es. IsEntryAt es c.from.result c.in-Ok.place) c.deref.ensures.value c.in-Ok.ensures.place in
    let at = sym (c.self.invariant.firsts c.from.result) ∙ first_place-entry c.from.result _ _ c.index.result.now entry ∙ ap (λ e. Some e.first) (sym c.index.ensures) in
    let found = placed (has_number c.from.result) c.self.inside.kept.items _ c.index-in-Ok.result.now at in (
      ap option_number c.index-in-Ok.ensures ∙ sym (eqb-true _ _ found.passes) ∙ c.from.ensures,
      subst (λ option. IsTrue (fits option)) (sym c.index-in-Ok.ensures) (fit_at _ _ c.index-in-Ok.result.now c.self.invariant.fit found.inside),
    )

pub returns-in-Ok-clause-cost : goal.returns-in-Ok-clause-cost
returns-in-Ok-clause-cost g c =
    let option : DhcpV6Option = RapidCommit in
    let many = len-lists_of _ _ option c.self.invariant in
    rw (← c.self.view_is, many) (rw c.deref.ensures.value at c.in-Ok.ensures.cost)

pub returns-in-Ok-clause-counted : goal.returns-in-Ok-clause-counted
returns-in-Ok-clause-counted g c =
    let option : DhcpV6Option = RapidCommit in
    let many = len-lists_of _ _ option c.self.invariant in
    rw (← c.self.view_is, many) (rw c.deref.ensures.value at c.in-Ok.ensures.counted)

pub returns-in-Err-clause-value : goal.returns-in-Err-clause-value
returns-in-Err-clause-value g c =
    let goes = subst (λ es. GoesAt es c.from.result c.in-Err.field-0) c.deref.ensures.value c.in-Err.ensures.place in
    rw (← c.self.view_is, ← c.from.ensures) (sym (first_of-missing _ _ (sym (c.self.invariant.firsts c.from.result) ∙ first_place-missing c.from.result _ _ goes)))

pub returns-in-Err-clause-cost : goal.returns-in-Err-clause-cost
returns-in-Err-clause-cost g c =
    let option : DhcpV6Option = RapidCommit in
    let many = len-lists_of _ _ option c.self.invariant in
    rw (← c.self.view_is, many) (rw c.deref.ensures.value at c.in-Err.ensures.cost)

pub returns-in-Err-clause-counted : goal.returns-in-Err-clause-counted
returns-in-Err-clause-counted g c =
    let option : DhcpV6Option = RapidCommit in
    let many = len-lists_of _ _ option c.self.invariant in
    rw (← c.self.view_is, many) (rw c.deref.ensures.value at c.in-Err.ensures.counted)
