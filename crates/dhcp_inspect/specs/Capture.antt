-- A capture file: its header, its records as long as each is whole, and what remains.
use Rattle.std.specs.Prelude.{ℕ, zero, suc, List, [], ◌∷◌, length, Option, Some, None, option_map}
use Rattle.dhcp_wire.specs.Field.{Read}
use Rattle.dhcp_inspect.specs.Header.{read_header}
use Rattle.dhcp_inspect.specs.Record.{RecordParts, record_at}
use Rattle.dhcp_inspect.specs.declared.header.ByteOrder.{ByteOrder}
use Rattle.dhcp_inspect.specs.declared.header.Header.{Header}
use Rattle.dhcp_inspect.specs.declared.header.TimeUnit.{TimeUnit}

-- records, and the bytes that remain after the last one
pub record Records : Type 0 where
  pub whole : List RecordParts
  pub remainder : List ℕ

-- the record at the front, if there is one, and those of the bytes after it
abbrev pub with_later : List ℕ → (List ℕ → Records) → Read RecordParts → Records
with_later bytes later None = record { whole = []; remainder = bytes }
with_later bytes later (Some found) =
    record { whole = found.0 ∷ (later found.1).whole; remainder = (later found.1).remainder }

-- the records of these bytes, at most fuel of them
unfoldable pub records_within : ByteOrder → ℕ → List ℕ → Records
records_within order zero bytes = record { whole = []; remainder = bytes }
records_within order (suc fuel) bytes =
    with_later bytes (records_within order fuel) (record_at order bytes)

-- The records of these bytes: the one at the front, then those of what follows, as long as each is
-- whole. There are no more records than bytes.
abbrev pub records_in : ByteOrder → List ℕ → Records
records_in order bytes = records_within order (length bytes) bytes

-- what contracts see of a capture that is being read: the unit of its fractions, the records that
-- are left, and how many bytes remain after the last
pub record CaptureParts : Type 0 where
  pub unit : TimeUnit
  pub records : List RecordParts
  pub remainder : ℕ

-- the records that are left
abbrev pub records_left : CaptureParts → List RecordParts
records_left capture = capture.records

-- the capture with this header whose bytes after it, or those that are left of them, are these
abbrev pub capture_of : Header → List ℕ → CaptureParts
capture_of header bytes = record {
  unit = header.unit;
  records = (records_in header.order bytes).whole;
  remainder = length (records_in header.order bytes).remainder;
}

-- the capture that a file is
unfoldable pub read_capture : List ℕ → Option CaptureParts
read_capture file =
    option_map (λ read. capture_of read.0 read.1) (read_header file)
