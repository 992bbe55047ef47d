-- What the laws on the records of a file speak of.
use Rattle.std.specs.Prelude.{◌≡◌, ℕ, ◌+◌, List, length, drop, None}
use Rattle.std.specs.List.{sum_by}
use Rattle.dhcp_inspect.specs.Capture.{Records}
use Rattle.dhcp_inspect.specs.Record.{RecordParts, record_at}
use Rattle.dhcp_inspect.specs.declared.header.ByteOrder.{ByteOrder}

-- how many bytes a record takes: its four numbers, and the bytes kept
abbrev pub record_length : RecordParts → ℕ
record_length packet = 16 + length packet.bytes

-- Records fill these bytes up to a remainder, which begins with no whole record.
pub record Fills (order : ByteOrder) (records : Records) (bytes : List ℕ) : Type 0 where
  pub filled : sum_by record_length records.whole + length records.remainder ≡ length bytes
  pub remainder : records.remainder ≡ drop (sum_by record_length records.whole) bytes
  pub ended : record_at order records.remainder ≡ None
