-- Those so far are whole.
use Rattle.std.proofs.Common.{ℕ, ◌<◌, get_or}
use Rattle.dhcp4_msg.specs.declared.route.DhcpV4ClasslessRoute.{DhcpV4ClasslessRoute}
use Rattle.dhcp4_msg.specs.Laws.{HasWholeAddresses}
use Rattle.dhcp4_msg.proofs.laws.routes_are_whole.Given as goal

abbrev pub invariant-loop-route : goal.invariant-loop-route
invariant-loop-route l = (k : ℕ) (d : DhcpV4ClasslessRoute) → k < l.route-index → HasWholeAddresses (get_or l.routes k d)
