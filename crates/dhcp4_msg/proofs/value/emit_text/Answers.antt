-- The kept bytes, and then the zero byte.
use Rattle.dhcp_wire.proofs.EmitLemmas.{emits_exit, emits_last, emits_appends, front_unchanged}
use Rattle.dhcp4_msg.proofs.value.emit_text.Goals as goal

pub returns-in_err-write_bytes : goal.returns-in_err-write_bytes
returns-in_err-write_bytes c =
    emits_exit _ _ _ _ _ c.from_residual.ensures.1 c.in_err-write_bytes.ensures.0
    (front_unchanged _ _ _ c.in_err-write_bytes.ensures.1)

pub returns : goal.returns
returns c =
    emits_last _ _ _ _ _ _ (rw c.kept_of.ensures at c.in_ok-write_bytes.ensures)
    (emits_appends _ _ _ _ c.write_u8.ensures)
