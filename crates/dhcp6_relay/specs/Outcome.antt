-- What a call returns, against what a definition says.
use Rattle.std.specs.Prelude.{◌≡◌, ◌⊎◌, ℕ, List, length, nat_le, if◌then◌else◌, Result, Ok, Err}
use Rattle.dhcp6_relay.specs.declared.error.RelayError.{RelayError}
use Rattle.dhcp6_relay.specs.declared.error.RelayError.TheVariants.{OutOfMemory, TooLong}

-- A call that does not allocate: the value or the refusal that the definition gives.
abbrev pub Answers : {X Y : Type 0}
    → (X → Y) → Result X RelayError → Result Y RelayError → Type 0
Answers view (Ok x) expected = expected ≡ Ok (view x)
Answers view (Err e) expected = expected ≡ Err e

-- A call that allocates: the same, or out of memory.
abbrev pub Gives : {X Y : Type 0}
    → (X → Y) → Result X RelayError → Result Y RelayError → Type 0
Gives view (Ok x) expected = expected ≡ Ok (view x)
Gives view (Err e) expected = (e ≡ OutOfMemory) ⊎ (expected ≡ Err e)

-- what follows a value; a refusal stays as it is
infixl 10 ◌>>=◌
abbrev pub ◌>>=◌ : {X Y : Type 0}
    → Result X RelayError → (X → Result Y RelayError) → Result Y RelayError
(Ok x) >>= next = next x
(Err e) >>= next = Err e

-- how many bytes a relayed message has at most: as many as the length of an option can say
abbrev pub most_bytes : ℕ
most_bytes = 65535

-- these bytes, if they are not too many for a message
abbrev pub within_limit : List ℕ → Result (List ℕ) RelayError
within_limit bytes = if nat_le (length bytes) most_bytes then Ok bytes else Err TooLong

-- such a number of bytes, if it is not too great for a message
abbrev pub length_within_limit : ℕ → Result ℕ RelayError
length_within_limit n = if nat_le n most_bytes then Ok n else Err TooLong
