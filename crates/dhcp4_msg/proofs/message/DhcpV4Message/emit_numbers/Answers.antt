-- One number after the other.
use Rattle.dhcp_wire.proofs.EmitLemmas.{emits_last, emits_appends}
use Rattle.dhcp4_msg.proofs.message.DhcpV4Message.emit_numbers.Goals as goal

pub returns : goal.returns
returns c =
    emits_last _ _ _ _ _ _ c.in_ok-write_bytes.ensures
    (emits_last _ _ _ _ _ _ c.in_ok-write_u32_be.ensures
    (emits_last _ _ _ _ _ _ c.in_ok-write_u16_be.ensures (emits_appends _ _ _ _ c.write_u16_be-2.ensures)))
