-- Each turn looks at one option.
use Rattle.dhcp_wire.specs.declared.raw_option.OptionFormat.TheVariants.{DhcpV4}
use Rattle.dhcp_wire.proofs.RawOptionLemmas.{counted_after-shorter}
use Rattle.dhcp4_msg.proofs.ViewLemmas.{value_end, value_more}
use Rattle.dhcp4_msg.proofs.view.last_value.Goals as goal

pub loop-raw-smaller : goal.loop-raw-smaller
loop-raw-smaller g c = rw c.counted_after-rest.ensures (counted_after-shorter DhcpV4 _ _ _ c.in-Some.ensures.found)

pub loop-raw-preserved : goal.loop-raw-preserved
loop-raw-preserved g c =
    rw (c.counted_after-rest.ensures, c.or-found.ensures, c.value_under.ensures)
    (value_more g.V.OptionValue.value_in c.args.code _ _ _ _ _ c.loop-raw.invariant c.in-Some.ensures.found)

pub returns : goal.returns
returns g c = value_end g.V.OptionValue.value_in c.args.code _ _ _ c.loop-raw.invariant c.in_default.ensures.found
