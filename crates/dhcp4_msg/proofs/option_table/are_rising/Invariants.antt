-- The options rise, if those that are left rise from here on.
use Rattle.std.proofs.Common.{◌≤◌, drop}
use Rattle.dhcp4_msg.specs.Options.{RiseFrom}
use Rattle.dhcp4_msg.proofs.option_table.are_rising.Given as goal

abbrev pub invariant-loop-option : goal.invariant-loop-option
invariant-loop-option l = (l.least ≤ 256) × (RiseFrom l.least (drop l.option-index l.options) → RiseFrom 0 l.options)
