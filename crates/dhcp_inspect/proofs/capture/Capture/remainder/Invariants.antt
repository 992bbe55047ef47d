use Rattle.std.proofs.Common.{◌≡◌, length}
use Rattle.dhcp_inspect.specs.Capture.{records_in}
use Rattle.dhcp_inspect.proofs.capture.Capture.remainder.Given as goal

abbrev pub invariant-loop-rest : goal.invariant-loop-rest
invariant-loop-rest l = (records_in l.order l.left).remainder ≡ (records_in l.order l.initial.left).remainder

abbrev pub decreases-loop-rest : goal.decreases-loop-rest
decreases-loop-rest l = length l.left
