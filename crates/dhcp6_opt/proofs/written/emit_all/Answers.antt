-- What was written before the failure, in the item too, is a front of all.
use Rattle.dhcp_wire.proofs.EmitLemmas.{emits_exit, front_piece}
use Rattle.dhcp6_opt.proofs.written.emit_all.Goals as goal

pub returns-in_err-emit : goal.returns-in_err-emit
returns-in_err-emit g c =
    emits_exit _ _ _ _ _ c.from_residual.ensures.1 c.in_err-emit.ensures.0
    (front_piece g.T.Written.written c.loop-item.item-index _ c.item-item.result _ _ _ c.loop-item-test.true c.item-item.is c.loop-item.invariant c.in_err-emit.ensures.1)
