-- The options so far, with those of the rest entered, are those of all bytes.
use Rattle.std.proofs.Common.{◌≡◌, length}
use Rattle.dhcp_wire.specs.RawOption.{raw_options}
use Rattle.dhcp_wire.specs.declared.raw_option.OptionFormat.TheVariants.{DhcpV4}
use Rattle.dhcp4_msg.specs.Options.{read_options}
use Rattle.dhcp4_msg.proofs.OptionsLemmas.{entered}
use Rattle.dhcp4_msg.proofs.option_table.OptionTable.parse.Given as goal

abbrev pub invariant-loop-raw : goal.invariant-loop-raw
invariant-loop-raw l = entered l.options (raw_options DhcpV4 l.rest) ≡ read_options l.fn.raw

abbrev pub decreases-loop-raw : goal.decreases-loop-raw
decreases-loop-raw l = length l.rest
