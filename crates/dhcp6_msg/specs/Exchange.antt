-- What a client tests of a message that may answer it, and the transaction id that it draws: RFC
-- 8415 sections 16.1, 16.3 and 16.10.
use Rattle.std.specs.Prelude.{ℕ, ◌%◌, ◌==◌, ◌&&◌, Bool, List, Option, Some, None, if◌then◌else◌}
use Rattle.dhcp_clock.specs.declared.link.Packet.{Packet}
use Rattle.dhcp_clock.specs.declared.link.PacketKind.{PacketKind}
use Rattle.dhcp_clock.specs.declared.link.PacketKind.TheVariants as carriers
use Rattle.dhcp6_msg.specs.declared.message.DhcpV6Message.{DhcpV6Message}
use Rattle.dhcp6_msg.specs.declared.message_type.DhcpV6MessageType.{DhcpV6MessageType}
use Rattle.dhcp6_msg.specs.Message.{id_number}
use Rattle.dhcp6_msg.specs.MessageType.{type_number}

-- a new transaction id, of three bytes
abbrev pub new_id : ℕ → ℕ
new_id word = word % 16777215

-- the payload of a packet; a frame has none here
abbrev pub payload_by : PacketKind → List ℕ → Option (List ℕ)
payload_by carriers.Frame bytes = None
payload_by carriers.Payload bytes = Some bytes

abbrev pub payload_in : Packet → Option (List ℕ)
payload_in packet = payload_by packet.kind packet.bytes

-- whether a message is of this type and has this transaction id; its client identifier, which RFC
-- 8415 sections 16.3 and 16.10 compare too, is not compared
abbrev pub concerns : DhcpV6MessageType → ℕ → DhcpV6Message → Bool
concerns kind xid message =
    (type_number message.msg_type == type_number kind) && (id_number message.xid == xid)

-- the message, if it concerns an attempt with this transaction id that awaits this type
abbrev pub concerning : DhcpV6MessageType → ℕ → DhcpV6Message → Option DhcpV6Message
concerning kind xid message = if concerns kind xid message then Some message else None
