-- The error of a poll, as the call of a client returns it.
use Rattle.std.proofs.Common.{◌≡◌, sym, subst}
use Rattle.std.specs.Prelude.{Option, Result, Ok, Err, IsErrAnd}
use Rattle.dhcp_wire.specs.Error.{ErrorParts}
use Rattle.dhcp_history.specs.declared.machine.RunError.{RunError}
use Rattle.dhcp_history.specs.declared.machine.RunError.TheVariants as run
use Rattle.dhcp_history.specs.Errors.{error_of_run, run_answer}
use Rattle.dhcp_history.specs.Run.{OnNoMemory}

-- what holds out of memory holds of the answer of the call
pub on_failure : (A : Type 0) {State PublicState : Type 0} (view : State → PublicState) (result : Result (Option State) ErrorParts) (error : RunError) (P : Type 0) →
    IsErrAnd result (λ given. given ≡ error_of_run error) → OnNoMemory {A = A} (Err error) P → OnNoMemory (run_answer view result) P
on_failure A view (Ok a) error P is h = absurd is
on_failure A view (Err given) run.TimedOut P is h = subst (λ (e : ErrorParts). OnNoMemory (run_answer view (Err e)) P) (sym is) tt
on_failure A view (Err given) run.OutOfMemory P is h = subst (λ (e : ErrorParts). OnNoMemory (run_answer view (Err e)) P) (sym is) h
