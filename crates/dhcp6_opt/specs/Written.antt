-- Values that are written as options, RFC 8415 section 21.1: those of a list, and those inside
-- another option.
use Rattle.std.specs.Prelude.{ℕ, List, [], Option, Some, None}
use Rattle.dhcp_wire.specs.RawOption.{written_raw_option}
use Rattle.dhcp_wire.specs.declared.raw_option.OptionFormat.TheVariants.{DhcpV6}

-- the option of this code and value
unfoldable pub as_option : ℕ → List ℕ → List ℕ
as_option code value = written_raw_option DhcpV6 (record { code = code; value = value })

-- the option of this code, if there is a value
abbrev pub if_some : {X : Type 0} → ℕ → (X → List ℕ) → Option X → List ℕ
if_some code written None = []
if_some code written (Some value) = as_option code (written value)
