-- What a call puts into a value that it is lent.
use Rattle.std.specs.Prelude.{◌≡◌, Result, Ok, Err}
use Rattle.dhcp_wire.specs.Error.{ErrorParts, no_memory}

-- what was put into a value makes it this one, unless out of memory
abbrev pub Puts : {X A : Type 0} → Result X ErrorParts → A → A → Type 0
Puts (Ok _) value expected = value ≡ expected
Puts (Err e) value expected = e ≡ no_memory
