-- What is left holds the value that is looked for.
use Rattle.std.proofs.Common.{◌≡◌, length}
use Rattle.dhcp_wire.specs.RawOption.{raw_options}
use Rattle.dhcp_wire.specs.declared.raw_option.OptionFormat.TheVariants.{DhcpV6}
use Rattle.dhcp6_relay.specs.Relay.{first_value}
use Rattle.dhcp6_relay.proofs.view.first_value.Given as goal

abbrev pub invariant-loop-option : goal.invariant-loop-option
invariant-loop-option l =
    first_value l.code l.left.options ≡ first_value l.code (raw_options DhcpV6 l.options)

abbrev pub decreases-loop-option : goal.decreases-loop-option
decreases-loop-option l = length l.left.options
