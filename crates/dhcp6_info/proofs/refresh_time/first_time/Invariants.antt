-- What is left holds the time that is looked for.
use Rattle.std.proofs.Common.{◌≡◌, length}
use Rattle.dhcp_wire.specs.RawOption.{raw_options}
use Rattle.dhcp_wire.specs.declared.raw_option.OptionFormat.TheVariants.{DhcpV6}
use Rattle.dhcp6_info.specs.Info.{first_time}
use Rattle.dhcp6_info.proofs.refresh_time.first_time.Given as goal

abbrev pub invariant-loop-option : goal.invariant-loop-option
invariant-loop-option l = first_time l.left.options ≡ first_time (raw_options DhcpV6 l.options)

abbrev pub decreases-loop-option : goal.decreases-loop-option
decreases-loop-option l = length l.left.options
