-- The error of a kind with a text.
use Rattle.std.proofs.Common.{◌≡◌, ℕ, List, refl}
use Rattle.dhcp_wire.specs.declared.error.ErrorKind.{ErrorKind}
use Rattle.dhcp_wire.specs.declared.error.ErrorKind.TheVariants.{OutOfMemory}
use Rattle.dhcp_wire.specs.Error.{error_of}

-- its kind is that one
pub kind_of_an_error : (kind : ErrorKind) (text : List ℕ) → (error_of kind text).kind ≡ kind
kind_of_an_error OutOfMemory text = refl
kind_of_an_error _ text = refl

-- an error other than out of memory has its text
pub other_errors : (kind : ErrorKind) (text : List ℕ) → ¬ (kind ≡ OutOfMemory) → error_of kind text ≡ record { kind = kind; text = text }
other_errors OutOfMemory text other = absurd (other refl)
other_errors _ text other = refl

pub ruleset errors = (kind_of_an_error, other_errors)
