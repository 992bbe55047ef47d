-- The bytes so far, at most nine for each route.
use Rattle.std.proofs.Common.{◌≡◌, ◌*◌, ◌≤◌, length, take}
use Rattle.std.specs.List.{flat_map}
use Rattle.dhcp4_msg.specs.Route.{written_route}
use Rattle.dhcp4_msg.proofs.value.routes_len.Given as goal

abbrev pub invariant-loop-route : goal.invariant-loop-route
invariant-loop-route l =
    (l.len ≡ length (flat_map written_route (take l.route-index l.routes))) × (l.len ≤ 9 * l.route-index)
