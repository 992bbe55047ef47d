-- The copy so far has the items before the place.
use Rattle.std.proofs.Common.{◌≡◌, take}
use Rattle.dhcp_wire.proofs.sequence.SequenceTryClone.try_clone.Given as goal

abbrev pub invariant-loop-item : goal.invariant-loop-item
invariant-loop-item g l = l.copy.items ≡ take l.item-index l.self
