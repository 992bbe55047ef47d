-- The codes so far, and those of the rest, are those of the value.
use Rattle.std.proofs.Common.{◌≡◌, ◌++◌, length}
use Rattle.dhcp6_opt.specs.Value.{codes_in}
use Rattle.dhcp6_opt.proofs.value.codes_in.Given as goal

abbrev pub invariant-loop-rest : goal.invariant-loop-rest
invariant-loop-rest l = l.codes ++ codes_in l.rest ≡ codes_in l.fn.value

abbrev pub decreases-loop-rest : goal.decreases-loop-rest
decreases-loop-rest l = length l.rest
