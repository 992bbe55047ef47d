-- The table has the place of the option that is kept under the number.
use Rattle.std.proofs.Common.{◌<◌, Some, get_or, sym, ap, ◌∙◌, arith}
use Rattle.dhcp4_msg.specs.Value.{option_number}
use Rattle.dhcp4_msg.proofs.SlotLemmas.{place_is, get_placed, get_missing, number_placed}
use Rattle.dhcp4_msg.proofs.option_table.OptionTable.kept_at.Goals as goal

pub returns-in-Some-clause-value : goal.returns-in-Some-clause-value
returns-in-Some-clause-value c =
    let small : c.args.number < 256 = omega arith in
    let at = place_is _ _ _ _ _ c.self.invariant small c.from.ensures c.in-Some.is in
    let here = c.index.ensures ∙ ap (λ i. get_or c.self.inside.kept.items i c.index.result.now) c.from-in-Some.ensures in
    rw (← c.self.view_is) (ap Some here ∙ sym (get_placed _ _ _ c.index.result.now at))

pub returns-in-Some-clause-own : goal.returns-in-Some-clause-own
returns-in-Some-clause-own c =
    let small : c.args.number < 256 = omega arith in
    let at = place_is _ _ _ _ _ c.self.invariant small c.from.ensures c.in-Some.is in
    let here = c.index.ensures ∙ ap (λ i. get_or c.self.inside.kept.items i c.index.result.now) c.from-in-Some.ensures in
    ap option_number here ∙ number_placed _ _ _ c.index.result.now at

pub returns-in-None-clause-value : goal.returns-in-None-clause-value
returns-in-None-clause-value c =
    let small : c.args.number < 256 = omega arith in
    rw (← c.self.view_is) (sym (get_missing _ _ (place_is _ _ _ _ _ c.self.invariant small c.from.ensures c.in-None.is)))
