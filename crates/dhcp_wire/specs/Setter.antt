-- A chain of setters: each returns the reference that it was given, or refuses.
use Rattle.std.specs.Prelude.{◌≡◌, Result, Ok, Err}
use Rattle.std.specs.Borrow.{Fml, MutBor, RattleType, RestsIfErr}
use Rattle.dhcp_wire.specs.declared.setter.SetterStep.{SetterStep}

-- what a setter returns where its step has returned this
abbrev pub setter_answer : {V E : Type 0} → Result (SetterStep V) E → Result (MutBor V) E
setter_answer (Ok chain) = Ok chain.value
setter_answer (Err error) = Err error

-- What a value of the type R ends as where it was lent to a setter: what was last left behind the
-- reference that the setter returned; after a refusal or out of memory, what it was before.
abbrev pub UnchangedIfRefused : (R : RattleType) {E : Type 0}
    → MutBor R.Denot → Result (MutBor R.Denot) E → Fml
UnchangedIfRefused R lent answer =
    RestsIfErr R lent (λ value. value.ghost_name) answer (λ left. left ≡ lent.now)
