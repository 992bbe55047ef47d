-- The addresses so far, and those of the rest, are those of the value.
use Rattle.std.proofs.Common.{◌≡◌, ◌++◌, length}
use Rattle.dhcp_wire.specs.Value.{addresses_in}
use Rattle.dhcp_wire.proofs.value.addresses_in.Given as goal

abbrev pub invariant-loop-rest : goal.invariant-loop-rest
invariant-loop-rest l = l.addresses ++ addresses_in l.rest ≡ addresses_in l.fn.value

abbrev pub decreases-loop-rest : goal.decreases-loop-rest
decreases-loop-rest l = length l.rest
