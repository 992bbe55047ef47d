-- The options of the number are gone, and the others' entries have their new places.
use Rattle.std.proofs.Common.{◌≡◌, ◌==◌, not, cond, None, is_some, sym, ap, subst, ◌∙◌, rules}
use Rattle.std.specs.FinMap as map
use Rattle.std.specs.Prelude.{position}
use Rattle.std.proofs.lemmas.Fn.{filter_same}
use Rattle.dhcp6_opt.specs.declared.option.DhcpV6Option.{DhcpV6Option}
use Rattle.dhcp6_opt.specs.declared.option.DhcpV6Option.TheVariants.{RapidCommit}
use Rattle.dhcp6_opt.specs.OptionIndex.{GoesAt, has_number, IsEntryAt}
use Rattle.dhcp6_opt.specs.Options.{lists_of}
use Rattle.dhcp6_opt.specs.Value.{option_number}
use Rattle.dhcp6_opt.proofs.OptionIndexLemmas.{first_place-missing, removed}
use Rattle.dhcp6_opt.proofs.OptionListLemmas.{fit_filter, lists_of-without, remove-missing, some-without, without}
use Rattle.dhcp6_opt.proofs.options.DhcpV6Options.remove.Goals as goal

pub set_firsts-requires-clause-rises : goal.set_firsts-requires-clause-rises
set_firsts-requires-clause-rises c =
    let n = c.from-number.result in
    let entry = subst (λ es. IsEntryAt es n c.in-Ok.place) c.deref.ensures.value c.in-Ok.ensures.place in
    rw c.remove.ensures.items (removed n _ _ c.self.invariant.rises entry).0

pub set_firsts-requires-clause-same : goal.set_firsts-requires-clause-same
set_firsts-requires-clause-same c =
    let n = c.from-number.result in
    let entry = subst (λ es. IsEntryAt es n c.in-Ok.place) c.deref.ensures.value c.in-Ok.ensures.place in
    let option : DhcpV6Option = RapidCommit in
    let kept : c.retain.new.self.items ≡ without n c.self.inside.kept.items = filter_same _ (λ option. not (c.from-number.result == option_number option)) _ (λ x b f is. search rules) _ _ c.retain.ensures.filtered in
    λ q. rw (c.remove.ensures.items, c.deref-in-Ok.ensures.value, kept)
    (ap is_some ((removed n _ _ c.self.invariant.rises entry).1 q ∙ ap (cond (q == n) None) (c.self.invariant.firsts q)) ∙ sym (some-without _ n q option))

pub invariant_of-self : goal.invariant_of-self
invariant_of-self c =
    let n = c.from-number.result in
    let kept : c.retain.new.self.items ≡ without n c.self.inside.kept.items = filter_same _ (λ option. not (c.from-number.result == option_number option)) _ (λ x b f is. search rules) _ _ c.retain.ensures.filtered in
    record {
      fit = rw kept (fit_filter _ c.self.inside.kept.items c.self.invariant.fit);
      rises = c.set_firsts.ensures.rises;
      firsts = λ q. c.set_firsts.ensures.firsts q ∙ ap (position (has_number q)) c.deref-in-Ok.ensures.value;
    }

pub returns-in-Ok : goal.returns-in-Ok
returns-in-Ok c =
    let n = c.from-number.result in
    let kept : c.retain.new.self.items ≡ without n c.self.inside.kept.items = filter_same _ (λ option. not (c.from-number.result == option_number option)) _ (λ x b f is. search rules) _ _ c.retain.ensures.filtered in
    ap lists_of kept ∙ lists_of-without c.self.inside.kept.items n ∙ ap (λ options. map.remove options n) c.self.view_is ∙ ap (map.remove c.args.self.now) c.from-number.ensures

pub returns-in_default : goal.returns-in_default
returns-in_default c =
    let n = c.from-number.result in
    let goes = subst (λ es. GoesAt es n c.in_default.field-0) c.deref.ensures.value c.in_default.ensures.place in
    let none = sym (c.self.invariant.firsts n) ∙ first_place-missing n _ _ goes in
    sym (ap (map.remove c.args.self.now) (sym c.from-number.ensures) ∙ ap (λ options. map.remove options n) (sym c.self.view_is)
    ∙ remove-missing c.self.inside.kept.items n none ∙ c.self.view_is)
