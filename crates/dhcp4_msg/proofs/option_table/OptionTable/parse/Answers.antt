-- Each turn enters one option.
use Rattle.dhcp_wire.specs.declared.raw_option.OptionFormat.TheVariants.{DhcpV4}
use Rattle.dhcp_wire.proofs.RawOptionLemmas.{counted_after-shorter}
use Rattle.dhcp4_msg.proofs.OptionsLemmas.{entered_more, entered_end, read_options-entered}
use Rattle.dhcp4_msg.proofs.option_table.OptionTable.parse.Goals as goal

pub loop-raw-init : goal.loop-raw-init
loop-raw-init c = rw c.in_ok-options.ensures (read_options-entered _)

pub loop-raw-smaller : goal.loop-raw-smaller
loop-raw-smaller c = rw c.counted_after-rest.ensures (counted_after-shorter DhcpV4 _ _ _ c.in-Some.ensures.found)

pub loop-raw-preserved : goal.loop-raw-preserved
loop-raw-preserved c =
    rw (c.in_ok-keep.ensures, c.counted_after-rest.ensures) (entered_more _ _ _ _ _ c.loop-raw.invariant c.in-Some.ensures.found)

pub returns : goal.returns
returns c = entered_end _ _ _ c.loop-raw.invariant c.in_default.ensures.found
