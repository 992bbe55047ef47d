-- The copy has the options so far.
use Rattle.std.proofs.Common.{◌≡◌, take}
use Rattle.dhcp4_msg.proofs.option_table.OptionTable.try_clone.Given as goal

abbrev pub invariant-loop-option : goal.invariant-loop-option
invariant-loop-option l = l.kept.items ≡ take l.option-index l.self-inside.kept.items
