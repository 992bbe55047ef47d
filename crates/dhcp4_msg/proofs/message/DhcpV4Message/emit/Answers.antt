-- Room is made, and then the parts are written.
use Rattle.dhcp_wire.proofs.EmitLemmas.{emits_exit, front_unchanged}
use Rattle.dhcp4_msg.proofs.message.DhcpV4Message.emit.Goals as goal

pub returns-in_err-reserve : goal.returns-in_err-reserve
returns-in_err-reserve c =
    emits_exit _ _ _ _ _ c.from_residual.ensures.1 c.in_err-reserve.ensures.err (front_unchanged _ _ _ c.in_err-reserve.ensures.same)
