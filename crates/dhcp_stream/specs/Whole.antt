-- Reading a source to its end, and writing bytes whole.
use Rattle.std.specs.Prelude.{◌≡◌, ℕ, ◌+◌, ◌<◌, ◌≤◌, List, length, take, Option, IfSome, Result, Ok, Err}
use Rattle.std.specs.Io.KnownBytes.{Appends, Consumes, IsAtEnd}
use Rattle.dhcp_wire.specs.Fault.{Rose}
use Rattle.dhcp_wire.specs.Error.{ErrorParts, no_memory}
use Rattle.dhcp_stream.specs.declared.whole.Whole.{Whole}
use Rattle.dhcp_stream.specs.declared.whole.Whole.TheVariants.{All, Failed, TooLong}

-- how many bytes are read at most
abbrev pub most_bytes : ℕ
most_bytes = 16777216

-- at most so many bytes have gone from the front of what was left, where this is known
abbrev pub HasGone : ℕ → Option (List ℕ) → Option (List ℕ) → Type 0
HasGone most before after = (gone : List ℕ) × (length gone ≤ most) × Consumes before after gone

-- one byte more than are read at most has gone
abbrev pub HasReadTooMany : Option (List ℕ) → Option (List ℕ) → Type 0
HasReadTooMany before after =
    (gone : List ℕ) × (length gone ≡ most_bytes + 1) × Consumes before after gone

-- What reading a source to its end gives, by the bytes left before and after, where they are known,
-- and the counts of its faults. All: the bytes that were left, at most the most that are read, and
-- none is left. Failed: the count rose, and at most so many bytes have gone. TooLong: more were
-- left, and one more than so many has gone. Out of memory says nothing of the source.
abbrev pub ReadsWhole : Result Whole ErrorParts → Option (List ℕ) → Option (List ℕ) → ℕ → ℕ → Type 0
ReadsWhole (Ok (All bytes)) before after faults faults_after =
    IfSome before (λ left. left ≡ bytes) × (length bytes ≤ most_bytes) × IsAtEnd after
ReadsWhole (Ok Failed) before after faults faults_after =
    Rose faults faults_after × HasGone most_bytes before after
ReadsWhole (Ok TooLong) before after faults faults_after = HasReadTooMany before after
ReadsWhole (Err e) before after faults faults_after = e ≡ no_memory

-- What was taken in addition, where it is known, is a prefix of these bytes that lacks at least one
-- of them.
abbrev pub TakesFront : Option (List ℕ) → Option (List ℕ) → List ℕ → Type 0
TakesFront before after bytes =
    (n : ℕ) × (n < length bytes) × Appends before after (take n bytes)
