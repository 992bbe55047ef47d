-- What was written before the failure is a front of all.
use Rattle.std.proofs.Common.{◌∙◌}
use Rattle.dhcp4_msg.specs.OptionCode.{number_of}
use Rattle.dhcp_wire.proofs.EmitLemmas.{emits_exit, front_mapped}
use Rattle.dhcp4_msg.proofs.value.emit_codes.Goals as goal

pub returns-in_err-write_u8 : goal.returns-in_err-write_u8
returns-in_err-write_u8 c =
    emits_exit _ _ _ _ _ c.from_residual.ensures.1 c.in_err-write_u8.ensures.0
    (front_mapped number_of c.loop-code.code-index _ _ _ (c.in_err-write_u8.ensures.1 ∙ c.loop-code.invariant))
