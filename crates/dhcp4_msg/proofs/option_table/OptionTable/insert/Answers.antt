-- The option goes to the place of the one of its number, or to the end.
use Rattle.std.proofs.Common.{◌≡◌, ◌<◌, length, None, get_or, sym, ap, ◌∙◌, arith}
use Rattle.dhcp4_msg.specs.OptionCode.{number_of}
use Rattle.dhcp4_msg.specs.Value.{option_number}
use Rattle.dhcp4_msg.proofs.SlotLemmas.{place_is, map_of-set, map_of-push, IsIndexed-set, IsIndexed-push, fewer}
use Rattle.dhcp4_msg.proofs.option_table.OptionTable.insert.Goals as goal
use Rattle.dhcp4_msg.proofs.option_table.OptionTable.insert.Goals.{in-Some, in-None+in_ok-push-in-None}

pub invariant_of-self : goal.invariant_of-self
invariant_of-self c =
    let own : c.from.result ≡ option_number c.args.option = c.from.ensures ∙ ap number_of c.code.ensures in
    let small : option_number c.args.option < 256 = rw (← own) c.from.type_inv in
    let at = place_is _ _ _ _ _ c.self.invariant small (c.from-number.ensures ∙ own) c.in-Some.is in
    rw (c.put.ensures, c.from-in-Some.ensures)
    (IsIndexed-set _ _ _ c.args.option c.self.invariant (record { is_byte = small; fit = c.requires }) at)

pub overflow_cast-self : goal.overflow_cast-self
overflow_cast-self c =
    let below : c.from-number.result < 256 = omega (arith, c.from-number.ensures, c.from.type_inv) in
    let few = fewer _ _ c.from-number.result c.self.invariant below c.in-None.is in
    omega (arith, few, c.len-place.ensures, c.self.inside.kept.ok)

pub invariant_of-self-in-None : goal.invariant_of-self-in-None
invariant_of-self-in-None c =
    let own : c.from.result ≡ option_number c.args.option = c.from.ensures ∙ ap number_of c.code.ensures in
    let small : option_number c.args.option < 256 = rw (← own) c.from.type_inv in
    let free = sym (ap (λ i. get_or c.self.inside.places i None) (c.from-number.ensures ∙ own)) ∙ c.in-None.is in
    let long : c.len-place.result ≡ length c.self.inside.kept.items = omega (arith, c.len-place.ensures, c.self.inside.kept.ok) in
    rw (c.in_ok-push-in-None.ensures.items, long, c.from-number.ensures ∙ own)
    (IsIndexed-push _ _ c.args.option c.self.invariant (record { is_byte = small; fit = c.requires }) free)

pub returns-clause-ok : goal.returns-clause-ok
returns-clause-ok c =
    let own : c.from.result ≡ option_number c.args.option = c.from.ensures ∙ ap number_of c.code.ensures in
    let small : option_number c.args.option < 256 = rw (← own) c.from.type_inv in
    elim c.match-self-number.branch [
      | in-Some w ↦
          let at = place_is _ _ _ _ _ c.self.invariant small (c.from-number.ensures ∙ own) w.in-Some.is in
          rw (w.self-is, w.put.ensures, w.from-in-Some.ensures, ← c.self.view_is) (map_of-set _ _ c.args.option at)
      | in-None+in_ok-push-in-None w ↦
          let none = place_is _ _ _ _ _ c.self.invariant small (c.from-number.ensures ∙ own) w.in-None.is in
          rw (w.self-is, w.in_ok-push-in-None.ensures.items, ← c.self.view_is) (map_of-push _ c.args.option none)
    ]
