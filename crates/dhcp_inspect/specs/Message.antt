-- The DHCP message that a record carries, as far as its line shows it.
use Rattle.std.specs.Prelude.{ℕ, Bool, true, false, ◌||◌, ◌==◌, List, length, Option, Some, None, option_map, nat_le, if◌then◌else◌}
use Rattle.dhcp_wire.specs.Field.{◌>>=◌}
use Rattle.dhcp_frame.specs.View.{read_frame}
use Rattle.dhcp_frame.specs.View6.{read_frame6}
use Rattle.dhcp4_msg.specs.Message as v4
use Rattle.dhcp4_msg.specs.Options as options4
use Rattle.dhcp6_msg.specs.Message as v6
use Rattle.dhcp6_msg.specs.declared.message.DhcpV6Message.{DhcpV6Message}
use Rattle.dhcp6_msg.specs.declared.message_type.DhcpV6MessageType.{DhcpV6MessageType}
use Rattle.dhcp6_msg.specs.declared.message_type.DhcpV6MessageType.TheVariants.{RelayForward, RelayReply}
use Rattle.dhcp_inspect.specs.Record.{RecordParts}
use Rattle.dhcp_inspect.specs.declared.message.Message.{Message}
use Rattle.dhcp_inspect.specs.declared.message.Message.TheVariants.{V4, V6}
use Rattle.dhcp_inspect.specs.declared.message.Message4.{Message4}
use Rattle.dhcp_inspect.specs.declared.message.Message6.{Message6}

-- a port of DHCPv4: of servers, or of clients (RFC 2131, section 4.1)
abbrev pub is_port4 : ℕ → Bool
is_port4 port = port == 67 || port == 68

-- a port of DHCPv6: of clients, or of servers and relays (RFC 8415, section 7.2)
abbrev pub is_port6 : ℕ → Bool
is_port6 port = port == 546 || port == 547

-- the DHCPv4 message of a frame
unfoldable pub message4_in : List ℕ → Option Message4
message4_in bytes = do
  frame ← read_frame bytes
  message ← if is_port4 frame.src_port || is_port4 frame.dst_port
      then v4.read_message frame.payload
      else None
  Some (record {
    source = frame.src_ip;
    destination = frame.dst_ip;
    message_type = options4.message_type message.options;
    xid = message.xid;
    yiaddr = message.yiaddr;
  })

-- whether a DHCPv6 message of this type is a relay's (RFC 8415, section 9)
abbrev pub is_of_relay : DhcpV6MessageType → Bool
is_of_relay RelayForward = true
is_of_relay RelayReply = true
is_of_relay kind = false

-- the transaction id of a DHCPv6 message; a relay's has none
abbrev pub transaction_id : DhcpV6Message → Option ℕ
transaction_id message =
    if is_of_relay message.msg_type then None else Some (v6.id_number message.xid)

-- the DHCPv6 message of a frame
unfoldable pub message6_in : List ℕ → Option Message6
message6_in bytes = do
  frame ← read_frame6 bytes
  message ← if is_port6 frame.src_port || is_port6 frame.dst_port
      then v6.read_message frame.payload
      else None
  Some (record {
    source = frame.src_ip;
    destination = frame.dst_ip;
    message_type = message.msg_type;
    xid = transaction_id message;
  })

-- the message of a frame of either family, if that of DHCPv4 is this one
abbrev pub either_message : Option Message4 → Option Message6 → Option Message
either_message (Some message) other = Some (V4 message)
either_message None other = option_map V6 other

-- the message of a record; none where more bytes are kept than were on the wire
unfoldable pub message_of : RecordParts → Option Message
message_of packet =
    if nat_le (length packet.bytes) packet.wire_length
    then either_message (message4_in packet.bytes) (message6_in packet.bytes)
    else None
