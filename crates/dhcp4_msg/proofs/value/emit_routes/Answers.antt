-- What was written before the failure, in the route too, is a front of all.
use Rattle.std.proofs.lemmas.List.{get_or_default}
use Rattle.dhcp4_msg.specs.Route.{written_route}
use Rattle.dhcp_wire.proofs.EmitLemmas.{emits_exit, front_piece}
use Rattle.dhcp4_msg.proofs.value.emit_routes.Goals as goal

pub returns-in_err-emit : goal.returns-in_err-emit
returns-in_err-emit c =
    emits_exit _ _ _ _ _ c.from_residual.ensures.1 c.in_err-emit.ensures.0
    (front_piece written_route c.loop-route.route-index _ _ _ _ _ c.loop-route-test.true (get_or_default _ _ _ _ c.loop-route-test.true) c.loop-route.invariant c.in_err-emit.ensures.1)
