-- Messages of a client that read back as they are written.
use Rattle.std.specs.Prelude.{◌≡◌, ℕ, ◌<◌, ◌≤◌, ◌^◌, length, Some, IfSome}
use Rattle.std.specs.Net.Addr.{IsIpv4Addr}
use Rattle.std.specs.Str.{IsUtf8}
use Rattle.dhcp4_msg.specs.Laws.{read_back}
use Rattle.dhcp4_msg.specs.Message.{read_message, written_message}
use Rattle.dhcp4_lease.specs.declared.message_table.Row.{Row}
use Rattle.dhcp4_lease.specs.Config.{Config}
use Rattle.dhcp4_lease.specs.MessageTable.{table_message}

-- what the types of a configuration keep: its MAC address has six bytes, and its host name is UTF-8
pub record IsTyped (config : Config) : Type 0 where
  pub src_mac : length config.src_mac ≡ 6
  pub host_name : IsUtf8 config.host_name

-- a row whose addresses are IPv4 addresses
pub record IsRow (row : Row) : Type 0 where
  pub ciaddr : IsIpv4Addr row.ciaddr
  pub requested : IfSome row.requested IsIpv4Addr
  pub server : IfSome row.server IsIpv4Addr

-- The message of a row, with any transaction id, reads back: as the table has it, with the codes
-- that it requests under their names, and with End, which is written after its options.
abbrev pub RowReadsBack : Config → Row → Type 0
RowReadsBack config row =
    (id : ℕ) → id < 2 ^ 32 →
    let message = table_message id config row in
    read_message (written_message message) ≡ Some (read_back message)

-- The message of a row, with any transaction id, has at most 1,027 bytes.
abbrev pub RowIsShort : Config → Row → Type 0
RowIsShort config row =
    (id : ℕ) → length (written_message (table_message id config row)) ≤ 1027
