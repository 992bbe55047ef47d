-- Options whose codes do not fall are written as they are kept, others as they were sorted.
use Rattle.std.proofs.Common.{IsTrue, ap, refl, sym, subst, ◌∙◌}
use Rattle.std.specs.List.{All, flat_map}
use Rattle.std.specs.List.Sorted.{IsNonDecreasingBy}
use Rattle.dhcp_wire.specs.Outcome.{Emits}
use Rattle.dhcp6_opt.specs.Value.{fits, option_number, written_option}
use Rattle.dhcp6_opt.proofs.OptionListLemmas.{fit_at}
use Rattle.dhcp6_opt.proofs.SortLemmas.{written_behind, written_kept}
use Rattle.dhcp6_opt.proofs.options.DhcpV6Options.emit.Goals as goal

pub emit_kept-requires : goal.emit_kept-requires
emit_kept-requires c =
    subst (All (λ option. IsTrue (fits option))) (sym c.deref-then-are_in_code_order.ensures.value)
    (λ k d inside. fit_at k c.self.inside.kept.items d c.self.invariant.fit inside)

pub returns-then-are_in_code_order : goal.returns-then-are_in_code_order
returns-then-are_in_code_order c =
    let kept = c.self.inside.kept.items in
    let up = subst (IsNonDecreasingBy option_number) c.deref.ensures.value (c.if-are_in_code_order.ensures refl) in
    let same = ap (flat_map written_option) c.deref-then-are_in_code_order.ensures.value ∙ written_kept kept _ c.self.invariant up in
    rw (← c.self.view_is) (subst (Emits c.emit_kept.result c.args.buf.now c.emit_kept.new.buf) same c.emit_kept.ensures)

pub returns-in_ok-in_code_order : goal.returns-in_ok-in_code_order
returns-in_ok-in_code_order c =
    let same = ap (flat_map (λ option. written_option option.now)) c.deref-else-are_in_code_order.ensures.value ∙ written_behind _ _ c.in_ok-in_code_order.ensures.value in
    subst (Emits c.emit_references.result c.args.buf.now c.emit_references.new.buf) same c.emit_references.ensures
