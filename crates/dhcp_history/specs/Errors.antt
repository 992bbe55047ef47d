-- The errors of a client's calls, and its answers, as its rules have them.
use Rattle.std.specs.Prelude.{Option, option_map, Result, Ok, Err}
use Rattle.dhcp_wire.specs.Error.{ErrorParts, error_of, fixed_text, no_memory}
use Rattle.dhcp_wire.specs.declared.error.ErrorKind.{ErrorKind}
use Rattle.dhcp_wire.specs.declared.error.ErrorKind.TheVariants as kinds
use Rattle.dhcp_wire.specs.declared.error.FixedText.TheVariants as texts
use Rattle.dhcp_clock.specs.declared.link.Sent.{Sent}
use Rattle.dhcp_clock.specs.declared.link.Sent.TheVariants as sent
use Rattle.dhcp_history.specs.declared.machine.RunError.{RunError}
use Rattle.dhcp_history.specs.declared.machine.RunError.TheVariants as run
use Rattle.dhcp_history.specs.declared.release.ReleaseError.{ReleaseError}
use Rattle.dhcp_history.specs.declared.release.ReleaseError.TheVariants as release

-- the error of a client whose time limit is over
abbrev pub timed_out : ErrorParts
timed_out = error_of kinds.Timeout (fixed_text texts.TimedOut)

-- the error of a message that the link refused
abbrev pub send_refused : ErrorParts
send_refused = error_of kinds.IoError (fixed_text texts.Refused)

-- the error of a poll, and of a release
abbrev pub error_of_run : RunError → ErrorParts
error_of_run run.TimedOut = timed_out
error_of_run run.OutOfMemory = no_memory

abbrev pub error_of_release : ReleaseError → ErrorParts
error_of_release release.Refused = send_refused
error_of_release release.OutOfMemory = no_memory

-- the answer of a poll, as the rules have it
abbrev pub run_error : ErrorKind → RunError
run_error kinds.Timeout = run.TimedOut
run_error _ = run.OutOfMemory

abbrev pub run_answer : {State PublicState : Type 0} → (State → PublicState) →
    Result (Option State) ErrorParts → Result (Option PublicState) RunError
run_answer view (Ok state) = Ok (option_map view state)
run_answer view (Err error) = Err (run_error error.kind)

-- the answer of a release, as the rules have it; a refusal of any other kind comes before anything
-- is sent, as out of memory does
abbrev pub release_error : ErrorKind → ReleaseError
release_error kinds.IoError = release.Refused
release_error _ = release.OutOfMemory

abbrev pub release_answer : {A : Type 0} → Result A ErrorParts → Result A ReleaseError
release_answer (Ok a) = Ok a
release_answer (Err error) = Err (release_error error.kind)

-- what became of the message of a release, by its answer
abbrev pub sent_when : {A : Type 0} → Result A ReleaseError → Sent
sent_when (Ok a) = sent.Taken
sent_when (Err release.Refused) = sent.Refused
sent_when (Err release.OutOfMemory) = sent.NoMemory

abbrev pub sent_of : {A : Type 0} → Result A ErrorParts → Sent
sent_of answer = sent_when (release_answer answer)
