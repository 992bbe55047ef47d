-- One text after the other, and the cookie.
use Rattle.dhcp_wire.proofs.EmitLemmas.{emits_exit, emits_last, emits_appends, front_unchanged}
use Rattle.dhcp4_msg.proofs.message.DhcpV4Message.emit_texts.Goals as goal

pub returns-in_err-write_string_with_null : goal.returns-in_err-write_string_with_null
returns-in_err-write_string_with_null c =
    emits_exit _ _ _ _ _ c.from_residual.ensures.1 c.in_err-write_string_with_null.ensures.0
    (front_unchanged _ _ _ c.in_err-write_string_with_null.ensures.1)

pub returns : goal.returns
returns c =
    emits_last _ _ _ _ _ _ (rw c.as_str.ensures.same at c.in_ok-write_string_with_null.ensures)
    (emits_last _ _ _ _ _ _ (rw c.as_str-2.ensures.same at c.in_ok-write_string_with_null-2.ensures)
    (emits_appends _ _ _ _ c.write_u32_be.ensures))
