-- What contracts see of a client with its words and its link, before a call or after it.
use Rattle.std.specs.Prelude.{ℕ, List, Option}
use Rattle.dhcp_clock.specs.Link.{Shown}

-- a client; the words that are left, if their source exposes them; what its link exposes, if it
-- does; and how often that has failed
pub record Seen (Client : Type 0) : Type 0 where
  pub client : Client
  pub words : Option (List ℕ)
  pub shown : Option Shown
  pub faults : ℕ

abbrev pub seen : {Client : Type 0} → Client → Option (List ℕ) → Option Shown → ℕ → Seen Client
seen client words shown faults =
    record { client = client; words = words; shown = shown; faults = faults }
