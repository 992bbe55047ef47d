-- A record of a capture file: seconds, the fraction of a second, the number of bytes kept and that
-- of bytes on the wire, 4 bytes each, and then the bytes kept.
use Rattle.std.specs.Prelude.{ℕ, List, Some, option_map}
use Rattle.dhcp_wire.specs.Field.{Read, ◌>>=◌, bytes_at}
use Rattle.dhcp_inspect.specs.Header.{u32_of}
use Rattle.dhcp_inspect.specs.declared.header.ByteOrder.{ByteOrder}

-- what contracts see of a record
pub record RecordParts : Type 0 where
  pub seconds : ℕ
  pub fraction : ℕ
  pub wire_length : ℕ
  pub bytes : List ℕ

-- a number of four bytes in this order
unfoldable pub u32_at : ByteOrder → List ℕ → Read ℕ
u32_at order bytes = option_map (λ read. (u32_of order read.0, read.1)) (bytes_at 4 bytes)

-- the record at the front, where it is whole
unfoldable pub record_at : ByteOrder → List ℕ → Read RecordParts
record_at order bytes = do
  seconds ← u32_at order bytes
  fraction ← u32_at order seconds.1
  kept ← u32_at order fraction.1
  wire_length ← u32_at order kept.1
  packet ← bytes_at kept.0 wire_length.1
  Some (
    record {
      seconds = seconds.0;
      fraction = fraction.0;
      wire_length = wire_length.0;
      bytes = packet.0;
    },
    packet.1,
  )
