-- A value that a call changes, or out of memory.
use Rattle.std.specs.Prelude.{◌≡◌, Result, Ok, Err}
use Rattle.dhcp_wire.specs.Error.{ErrorParts, no_memory}

-- the value became this one, unless out of memory
abbrev pub Becomes : {X Y : Type 0} → Result X ErrorParts → Y → Y → Type 0
Becomes (Ok _) new expected = new ≡ expected
Becomes (Err e) new expected = e ≡ no_memory
