-- The names so far, and those of the rest, are those of the value.
use Rattle.std.proofs.Common.{◌≡◌, length}
use Rattle.dhcp6_opt.specs.DomainName.{names_in}
use Rattle.dhcp6_opt.proofs.NameLemmas.{names_after}
use Rattle.dhcp6_opt.proofs.domain_name.names_in.Given as goal

abbrev pub invariant-loop-rest : goal.invariant-loop-rest
invariant-loop-rest l = names_after l.names l.rest ≡ names_in l.fn.value

abbrev pub decreases-loop-rest : goal.decreases-loop-rest
decreases-loop-rest l = length l.rest
