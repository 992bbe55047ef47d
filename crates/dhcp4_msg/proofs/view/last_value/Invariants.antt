-- The last value so far, unless a later option says one, is that of all options.
use Rattle.std.proofs.Common.{◌≡◌, length}
use Rattle.std.specs.Option.{option_or}
use Rattle.dhcp_wire.specs.RawOption.{raw_options}
use Rattle.dhcp_wire.specs.declared.raw_option.OptionFormat.TheVariants.{DhcpV4}
use Rattle.dhcp4_msg.specs.View.{last_value}
use Rattle.dhcp4_msg.proofs.view.last_value.Given as goal

abbrev pub invariant-loop-raw : goal.invariant-loop-raw
invariant-loop-raw g l =
    option_or (last_value g.V.OptionValue.value_in l.fn.code (raw_options DhcpV4 l.rest)) l.found
    ≡ last_value g.V.OptionValue.value_in l.fn.code (raw_options DhcpV4 l.fn.options)

abbrev pub decreases-loop-raw : goal.decreases-loop-raw
decreases-loop-raw g l = length l.rest
