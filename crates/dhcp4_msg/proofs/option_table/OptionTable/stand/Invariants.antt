-- The options so far have their widths.
use Rattle.std.proofs.Common.{ℕ, ◌<◌, get_or}
use Rattle.dhcp4_msg.specs.declared.option.DhcpV4Option.{DhcpV4Option}
use Rattle.dhcp4_msg.specs.Laws.{HasWidths}
use Rattle.dhcp4_msg.proofs.option_table.OptionTable.stand.Given as goal

abbrev pub invariant-loop-option : goal.invariant-loop-option
invariant-loop-option l = (k : ℕ) (d : DhcpV4Option) → k < l.option-index → HasWidths (get_or l.option-items k d)
