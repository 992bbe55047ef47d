-- The raw options of a list: a code, the length of a value, and the value; RFC 2132 section 2, RFC
-- 8415 section 21.1.
use Rattle.std.specs.Prelude.{Option, ℕ, zero, suc, ◌^◌, ◌*◌, ◌<◌, ◌≡◌, Bool, false, ◌==◌, ◌||◌, List, [], ◌∷◌, ◌++◌, length, drop, Some, None, IsTrue, if◌then◌else◌}
use Rattle.std.specs.Int.{Width, w8, w16, byte_len, to_be_bytes}
use Rattle.std.specs.List.{flat_map}
use Rattle.dhcp_wire.specs.Field.{Read, ◌>>=◌, bytes_at, number_at}
use Rattle.dhcp_wire.specs.declared.raw_option.OptionFormat.{OptionFormat}
use Rattle.dhcp_wire.specs.declared.raw_option.OptionFormat.TheVariants.{DhcpV4, DhcpV6}

-- an option as it stands: its code and the bytes of its value
pub record RawOptionParts : Type 0 where
  pub code : ℕ
  pub value : List ℕ

-- the width of a code, and of a length
abbrev pub width_of : OptionFormat → Width
width_of DhcpV4 = w8
width_of DhcpV6 = w16

-- whether an option of this code is its code alone: Pad and End of DHCPv4
abbrev pub is_code_alone : OptionFormat → ℕ → Bool
is_code_alone DhcpV4 code = (code == 0) || (code == 255)
is_code_alone DhcpV6 code = false

-- whether an option of this code ends the list: End of DHCPv4
abbrev pub ends_list : OptionFormat → ℕ → Bool
ends_list DhcpV4 code = code == 255
ends_list DhcpV6 code = false

-- what follows the code of an option that has a value: a length, and so many bytes
abbrev pub raw_value_at : OptionFormat → List ℕ → Read (List ℕ)
raw_value_at format bytes = do
  length ← number_at (width_of format) bytes
  bytes_at length.0 length.1

-- the value of an option of this code, in the bytes after the code
abbrev pub value_after : OptionFormat → ℕ → List ℕ → Read (List ℕ)
value_after format code bytes =
    if is_code_alone format code then Some ([], bytes) else raw_value_at format bytes

-- the option at the front, where it is whole
unfoldable pub raw_option_at : OptionFormat → List ℕ → Read RawOptionParts
raw_option_at format bytes = do
  code ← number_at (width_of format) bytes
  value ← value_after format code.0 code.1
  Some (record { code = code.0; value = value.0 }, value.1)

-- the bytes of a list that count after an option of this code: none after one that ends the list
abbrev pub counted_after : OptionFormat → ℕ → List ℕ → List ℕ
counted_after format code bytes = if ends_list format code then [] else bytes

-- an option that is found, and the options of the bytes after it that count
abbrev pub with_later : OptionFormat
    → (List ℕ → List RawOptionParts) → Read RawOptionParts → List RawOptionParts
with_later format later None = []
with_later format later (Some found) = found.0 ∷ later (counted_after format found.0.code found.1)

-- the options of a list, at most fuel of them
unfoldable pub raw_options_within : OptionFormat → ℕ → List ℕ → List RawOptionParts
raw_options_within format zero bytes = []
raw_options_within format (suc fuel) bytes =
    with_later format (raw_options_within format fuel) (raw_option_at format bytes)

-- The options of a list: the one at the front, then those of what follows, up to one that ends the
-- list or a truncated one. There are no more options than bytes.
abbrev pub raw_options : OptionFormat → List ℕ → List RawOptionParts
raw_options format bytes = raw_options_within format (length bytes) bytes

-- what contracts see of a list that is being read: its format, and the options that are left
pub record OptionsLeft : Type 0 where
  pub format : OptionFormat
  pub options : List RawOptionParts

-- taking the first of the options that are left, or none where none is left
abbrev pub TakesFirst : Option RawOptionParts → OptionsLeft → OptionsLeft → Type 0
TakesFirst None old new = (old.options ≡ []) × (new ≡ old)
TakesFirst (Some option) old new = old ≡ record new { options = option ∷ new.options }

-- a value as it is written after its option's code: its length, and its bytes
abbrev pub written_raw_value : OptionFormat → List ℕ → List ℕ
written_raw_value format value = to_be_bytes (width_of format) (length value) ++ value

-- an option as it is written
unfoldable pub written_raw_option : OptionFormat → RawOptionParts → List ℕ
written_raw_option format option =
    to_be_bytes (width_of format) option.code
    ++ (if is_code_alone format option.code then [] else written_raw_value format option.value)

-- what remains of a list after its last option: nothing, bytes after one that ends the list, or a
-- truncated option
abbrev pub after_options : OptionFormat → List ℕ → List ℕ
after_options format bytes =
    drop (length (flat_map (written_raw_option format) (raw_options format bytes))) bytes

-- the options of a list that they fill: none where something remains after the last
unfoldable pub filling_options : OptionFormat → List ℕ → Option (List RawOptionParts)
filling_options format bytes =
    if length (after_options format bytes) == 0 then Some (raw_options format bytes) else None

-- a number that fits the width of a code, and of a length
abbrev pub FitsWidth : OptionFormat → ℕ → Type 0
FitsWidth format n = n < 2 ^ (8 * byte_len (width_of format))

-- an option that a list can hold: its code and its length fit, and a code alone has no value
pub record FitsFormat (format : OptionFormat) (option : RawOptionParts) : Type 0 where
  pub code : FitsWidth format option.code
  pub length : FitsWidth format (length option.value)
  pub alone : IsTrue (is_code_alone format option.code) → option.value ≡ []
