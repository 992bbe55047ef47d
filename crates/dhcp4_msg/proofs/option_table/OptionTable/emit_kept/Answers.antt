-- Options that rise as they are kept are those of the map, number by number.
use Rattle.std.proofs.Common.{IsTrue, sym, ap, subst, ◌∙◌}
use Rattle.std.specs.List.{All, flat_map}
use Rattle.dhcp_wire.specs.Outcome.{Emits}
use Rattle.dhcp4_msg.specs.Value.{fits, written_option}
use Rattle.dhcp4_msg.specs.Options.{RiseFrom}
use Rattle.dhcp4_msg.proofs.RiseLemmas.{all_fit, values_rising}
use Rattle.dhcp4_msg.proofs.option_table.OptionTable.emit_kept.Goals as goal

pub emit_all-requires : goal.emit_all-requires
emit_all-requires c =
    subst (All (λ option. IsTrue (fits option))) (sym c.as_slice-then-are_rising.ensures.value) (all_fit _ c.self.invariant.fit)

pub returns-then-are_rising : goal.returns-then-are_rising
returns-then-are_rising c =
    let rise = subst (RiseFrom 0) c.as_slice.ensures.value (c.are_rising.ensures c.if-are_rising.true) in
    let same = ap (flat_map written_option) (c.as_slice-then-are_rising.ensures.value ∙ sym (values_rising _ rise)) in
    rw (← c.self.view_is) (subst (Emits c.emit_all.result c.args.buf.now c.emit_all.new.buf) same c.emit_all.ensures)
