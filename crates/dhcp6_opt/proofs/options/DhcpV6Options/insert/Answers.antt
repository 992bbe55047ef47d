-- The option goes to the end, and its number has an entry.
use Rattle.std.proofs.Common.{◌≡◌, ◌==◌, ℕ, cond, length, Some, ap, subst, ◌∙◌, arith}
use Rattle.dhcp6_opt.specs.declared.options.index.IndexEntry.{IndexEntry}
use Rattle.dhcp6_opt.specs.OptionCode.{number_of}
use Rattle.dhcp6_opt.specs.OptionIndex.{first_place, GoesAt, IsEntryAt}
use Rattle.dhcp6_opt.specs.Value.{option_number}
use Rattle.dhcp6_opt.proofs.OptionIndexLemmas.{first_place-entry, first_place-missing, inserted}
use Rattle.dhcp6_opt.proofs.OptionListLemmas.{IsIndexed-more, IsIndexed-new, lists_of-push}
use Rattle.dhcp6_opt.proofs.options.DhcpV6Options.insert.Goals as goal
use Rattle.dhcp6_opt.proofs.options.DhcpV6Options.insert.Goals.{in-Err+in_ok-insert, in_default}

pub invariant_of-self-in-Continue-branch-2 : goal.invariant_of-self-in-Continue-branch-2
invariant_of-self-in-Continue-branch-2 c =
    let kept = c.self.inside.kept.items in
    let es = c.self.inside.index.items in
    let n : ℕ = option_number c.args.opt in
    let own : c.from-number.result ≡ n = c.from-number.ensures ∙ ap number_of c.code.ensures in
    let entries = c.deref.ensures.value ∙ c.in_ok-push_with_room.ensures.kept in
    let goes : GoesAt es n c.in-Err.place = subst (λ n. GoesAt es n c.in-Err.place) own (subst (λ es. GoesAt es c.from-number.result c.in-Err.place) entries c.in-Err.ensures.place) in
    let more = inserted n c.in-Err.place es (record { number = c.from-number.result; first = c.len-first.result }) c.self.invariant.rises goes own in
    let long : c.len-first.result ≡ length kept = omega (arith, c.len-first.ensures, c.self.inside.kept.ok) in
    rw (c.in_ok-push_with_room.ensures.ok, c.in_ok-insert.ensures.items, c.in_ok-push_with_room.ensures.kept)
    (IsIndexed-new kept es _ c.args.opt c.self.invariant c.requires (first_place-missing n _ es goes) more.0
    (λ q. more.1 q ∙ ap (λ len. cond (q == n) (Some len) (first_place q es)) long))

pub invariant_of-self-in_default : goal.invariant_of-self-in_default
invariant_of-self-in_default c =
    let kept = c.self.inside.kept.items in
    let es = c.self.inside.index.items in
    let n : ℕ = option_number c.args.opt in
    let own : c.from-number.result ≡ n = c.from-number.ensures ∙ ap number_of c.code.ensures in
    let entries = c.deref.ensures.value ∙ c.in_ok-push_with_room.ensures.kept in
    let entry : IsEntryAt es n c.in_default.field-0 = subst (λ n. IsEntryAt es n c.in_default.field-0) own (subst (λ es. IsEntryAt es c.from-number.result c.in_default.field-0) entries c.in_default.ensures.place) in
    let d : IndexEntry = record { number = 0; first = 0 } in
    rw (c.in_ok-push_with_room.ensures.ok, c.in_ok-push_with_room.ensures.kept)
    (IsIndexed-more kept es c.args.opt _ c.self.invariant c.requires (first_place-entry n _ es d entry))

pub returns-clause-ok : goal.returns-clause-ok
returns-clause-ok c =
    elim c.match-entry_of.branch [
      | in-Err+in_ok-insert w ↦ rw (w.self-is, c.in_ok-push_with_room.ensures.ok, ← c.self.view_is) (lists_of-push c.self.inside.kept.items c.args.opt)
      | in_default w ↦ rw (w.self-is, c.in_ok-push_with_room.ensures.ok, ← c.self.view_is) (lists_of-push c.self.inside.kept.items c.args.opt)
    ]
