-- What was written so far.
use Rattle.std.proofs.Common.{◌≡◌, ◌++◌, take}
use Rattle.std.specs.List.{flat_map}
use Rattle.dhcp4_msg.specs.Route.{written_route}
use Rattle.dhcp4_msg.proofs.value.emit_routes.Given as goal

abbrev pub invariant-loop-route : goal.invariant-loop-route
invariant-loop-route l = l.buf ≡ l.initial.buf ++ flat_map written_route (take l.route-index l.routes)
