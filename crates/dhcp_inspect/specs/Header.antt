-- The header of a capture file in the classic pcap format: a magic number of 4 bytes, two version
-- numbers of 2 bytes, three numbers of 4 bytes, and the link type in 4 bytes.
use Rattle.std.specs.Prelude.{◌≡◌, ℕ, ◌≤◌, ◌==◌, List, length, take, drop, Option, Some, None, option_map, nat_le, if◌then◌else◌}
use Rattle.std.specs.Int.{w32, from_be_bytes, from_le_bytes}
use Rattle.std.specs.Option.{option_or}
use Rattle.dhcp_wire.specs.Field.{Read}
use Rattle.dhcp_inspect.specs.declared.header.ByteOrder.{ByteOrder}
use Rattle.dhcp_inspect.specs.declared.header.ByteOrder.TheVariants.{BigEndian, LittleEndian}
use Rattle.dhcp_inspect.specs.declared.header.TimeUnit.{TimeUnit}
use Rattle.dhcp_inspect.specs.declared.header.TimeUnit.TheVariants.{Microseconds, Nanoseconds}
use Rattle.dhcp_inspect.specs.declared.header.Header.{Header}

-- the number of four bytes in this order
abbrev pub u32_of : ByteOrder → List ℕ → ℕ
u32_of BigEndian bytes = from_be_bytes w32 bytes
u32_of LittleEndian bytes = from_le_bytes w32 bytes

-- the number of the first four bytes
abbrev pub u32_in : ByteOrder → List ℕ → ℕ
u32_in order bytes = u32_of order (take 4 bytes)

-- the magic number of a file whose fractions of a second are in this unit
abbrev pub magic_number : TimeUnit → ℕ
magic_number Microseconds = 0xa1b2c3d4
magic_number Nanoseconds = 0xa1b23c4d

-- the link type of Ethernet
abbrev pub ethernet : ℕ
ethernet = 1

-- how many bytes a header has
abbrev pub header_length : ℕ
header_length = 24

-- the unit that a magic number says, if it is one
abbrev pub unit_of : ℕ → Option TimeUnit
unit_of magic =
    if magic == magic_number Microseconds then Some Microseconds
    else if magic == magic_number Nanoseconds then Some Nanoseconds
    else None

-- the header whose numbers are in this order: its magic number says the unit, and its link type is
-- Ethernet's. The version and the three numbers are not tested.
unfoldable pub header_in : ByteOrder → List ℕ → Option Header
header_in order file =
    if u32_in order (drop 20 file) == ethernet
    then option_map (λ unit. record { order = order; unit = unit }) (unit_of (u32_in order file))
    else None

-- the header whose numbers are in one order or the other
abbrev pub header_in_either : List ℕ → Option Header
header_in_either file = option_or (header_in BigEndian file) (header_in LittleEndian file)

-- the header of a file, and the bytes after it
unfoldable pub read_header : List ℕ → Read Header
read_header file =
    if nat_le header_length (length file)
    then option_map (λ header. (header, drop header_length file)) (header_in_either file)
    else None

-- The file begins with a whole header of this order and unit, and its link type is Ethernet's.
pub record HasHeader (file : List ℕ) (header : Header) : Type 0 where
  pub whole : header_length ≤ length file
  pub magic : u32_in header.order file ≡ magic_number header.unit
  pub link_type : u32_in header.order (drop 20 file) ≡ ethernet

-- the file is a capture that can be read: it begins with such a header
abbrev pub IsCapture : List ℕ → Type 0
IsCapture file = (header : Header) × HasHeader file header
