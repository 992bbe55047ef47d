-- What was written before the failure is a front of all.
use Rattle.std.proofs.Common.{◌∙◌}
use Rattle.dhcp_wire.proofs.EmitLemmas.{emits_exit, front_pieces}
use Rattle.dhcp4_msg.proofs.value.emit_addresses.Goals as goal

pub returns-in_err-write_ipv4 : goal.returns-in_err-write_ipv4
returns-in_err-write_ipv4 c =
    emits_exit _ _ _ _ _ c.from_residual.ensures.1 c.in_err-write_ipv4.ensures.0
    (front_pieces _ c.loop-address.address-index _ _ _ (c.in_err-write_ipv4.ensures.1 ∙ c.loop-address.invariant))
