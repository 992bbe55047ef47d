-- The routes so far, and those of the rest, are those of the value.
use Rattle.std.proofs.Common.{◌≡◌, ◌++◌, length, option_map}
use Rattle.dhcp4_msg.specs.Route.{routes_of}
use Rattle.dhcp4_msg.proofs.route.DhcpV4ClasslessRoute.parse_list.Given as goal

abbrev pub invariant-loop-rest : goal.invariant-loop-rest
invariant-loop-rest l = option_map (λ later. l.routes ++ later) (routes_of l.rest) ≡ routes_of l.fn.value

abbrev pub decreases-loop-rest : goal.decreases-loop-rest
decreases-loop-rest l = length l.rest
