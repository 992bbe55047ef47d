use Rattle.std.proofs.Common.{length}
use Rattle.dhcp_script.specs.FieldReader.{items_in}
use Rattle.dhcp_script.proofs.FieldLemmas.{HasItems}
use Rattle.dhcp_script.proofs.field.items.Given as goal

abbrev pub invariant-loop-item : goal.invariant-loop-item
invariant-loop-item g l = HasItems g.T.Field.value_in (items_in g.T.Field.value_in l.field) l.items.items l.left

abbrev pub decreases-loop-item : goal.decreases-loop-item
decreases-loop-item g l = length l.left
