-- Turns of a dialogue, one after the other.
use Rattle.std.proofs.Common.{List, [], ◌∷◌, ◌++◌, subst}
use Rattle.dhcp_clock.specs.Leads.{Leads}

-- steps, and then further ones
pub Leads-append : {Step Value : Type 0} (moves : Step → Value → Value → Type 0) (old between new : Value) (first second : List Step) →
    Leads moves old first between → Leads moves between second new → Leads moves old (first ++ second) new
Leads-append {Step} {Value} moves old between new [] second to on = subst (λ (value : Value). Leads moves value second new) to on
Leads-append moves old between new (step ∷ steps) second to on = (to.0, (to.1.0, Leads-append moves to.0 between new steps second to.1.1 on))
