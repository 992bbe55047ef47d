-- How contracts see an error: plumbing, which no public clause reads.
use Rattle.std.specs.Prelude.{◌≡◌, ℕ, List, []}
use Rattle.dhcp_wire.specs.Error.{ErrorParts, fixed_text}
use Rattle.dhcp_wire.specs.declared.error.ErrorKind.TheVariants.{OutOfMemory}
use Rattle.dhcp_wire.specs.declared.error.ErrorText.{ErrorText}
use Rattle.dhcp_wire.specs.declared.error.ErrorText.TheVariants.{Fixed, Owned}
use Rattle.dhcp_wire.specs.declared.error.DhcpError.TheInside.{Inside}

-- the bytes of a text, wherever it is kept
abbrev pub text_bytes : ErrorText → List ℕ
text_bytes (Fixed text) = fixed_text text
text_bytes (Owned text) = text

-- its kind and its text
abbrev pub parts_of : Inside → ErrorParts
parts_of error = record { kind = error.kind; text = text_bytes error.text }

-- an error of kind OutOfMemory keeps no text
abbrev pub KeepsNoText : Inside → Type 0
KeepsNoText error = error.kind ≡ OutOfMemory → text_bytes error.text ≡ []
