-- No options, and no place for any number.
use Rattle.dhcp4_msg.proofs.SlotLemmas.{IsIndexed-nil}
use Rattle.dhcp4_msg.proofs.option_table.OptionTable.new.Goals as goal

pub invariant_of-result : goal.invariant_of-result
invariant_of-result c = rw c.new.ensures.items IsIndexed-nil
