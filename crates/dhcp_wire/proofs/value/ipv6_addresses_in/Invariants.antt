-- The addresses so far, and those of the rest, are those of the value.
use Rattle.std.proofs.Common.{◌≡◌, ◌++◌, length}
use Rattle.dhcp_wire.specs.Value.{ipv6_addresses_in}
use Rattle.dhcp_wire.proofs.value.ipv6_addresses_in.Given as goal

abbrev pub invariant-loop-octets : goal.invariant-loop-octets
invariant-loop-octets l = l.addresses ++ ipv6_addresses_in l.rest ≡ ipv6_addresses_in l.fn.value

abbrev pub decreases-loop-octets : goal.decreases-loop-octets
decreases-loop-octets l = length l.rest
