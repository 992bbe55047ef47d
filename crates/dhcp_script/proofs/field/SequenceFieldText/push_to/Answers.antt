use Rattle.std.proofs.Common.{sym, ap, ◌∙◌}
use Rattle.dhcp_script.specs.Field.{list_text}
use Rattle.dhcp_script.proofs.PrintLemmas.{list_text-items, pushed2}
use Rattle.dhcp_script.proofs.field.SequenceFieldText.push_to.Goals as goal

pub returns-in_ok-push_to-in-Some : goal.returns-in_ok-push_to-in-Some
returns-in_ok-push_to-in-Some g c =
    pushed2 c.push_after_commas.result _ _ _ _ _ _ c.push_after_commas.ensures c.in_ok-push_to-in-Some.ensures
    (ap (list_text g.T.FieldText.field_text) (sym c.as_slice.ensures ∙ c.in-Some.ensures.cases.0) ∙ list_text-items g.T.FieldText.field_text c.in-Some.first.now c.in-Some.rest.now)
