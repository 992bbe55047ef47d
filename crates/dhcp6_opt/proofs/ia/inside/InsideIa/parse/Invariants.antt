-- What stands inside so far, with the options that fill the rest, is what stands inside the bytes.
use Rattle.std.proofs.Common.{◌≡◌, length}
use Rattle.dhcp6_opt.specs.Ia.{inside_in}
use Rattle.dhcp6_opt.proofs.InsideLemmas.{inside_after}
use Rattle.dhcp6_opt.proofs.ia.inside.InsideIa.parse.Given as goal

abbrev pub invariant-loop-rest : goal.invariant-loop-rest
invariant-loop-rest g l = inside_after g.A.InnerAddress.kind l.inside l.rest ≡ inside_in g.A.InnerAddress.kind l.fn.bytes

abbrev pub decreases-loop-rest : goal.decreases-loop-rest
decreases-loop-rest g l = length l.rest
