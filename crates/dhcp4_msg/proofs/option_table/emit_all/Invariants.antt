-- What was written so far.
use Rattle.std.proofs.Common.{◌≡◌, ◌++◌, take}
use Rattle.std.specs.List.{flat_map}
use Rattle.dhcp4_msg.specs.Value.{written_option}
use Rattle.dhcp4_msg.proofs.option_table.emit_all.Given as goal

abbrev pub invariant-loop-option : goal.invariant-loop-option
invariant-loop-option l = l.buf ≡ l.initial.buf ++ flat_map written_option (take l.option-index l.options)
