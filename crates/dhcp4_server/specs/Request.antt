-- What a packet asks a server for, RFC 2131 section 4.3.
use Rattle.std.specs.Prelude.{◌≡◌, ◌<◌, ℕ, ◌^◌, ◌==◌, length, Bool, true, List, Option, Some, None, unwrap_or, if◌then◌else◌}
use Rattle.std.specs.Net.Addr.{ipv4_bits}
use Rattle.std.specs.declared.net.Ipv4Addr.{Ipv4Addr}
use Rattle.dhcp_wire.specs.Field.{◌>>=◌}
use Rattle.dhcp_clock.specs.declared.link.Packet.{Packet}
use Rattle.dhcp_clock.specs.declared.link.PacketKind.{PacketKind}
use Rattle.dhcp_clock.specs.declared.link.PacketKind.TheVariants as kinds
use Rattle.dhcp_frame.specs.View.{read_frame}
use Rattle.dhcp_frame.specs.declared.frame.Frame.{Frame}
use Rattle.dhcp4_msg.specs.declared.message.DhcpV4Message.{DhcpV4Message}
use Rattle.dhcp4_msg.specs.declared.message_type.DhcpV4MessageType.{DhcpV4MessageType}
use Rattle.dhcp4_msg.specs.declared.message_type.DhcpV4MessageType.TheVariants as types
use Rattle.dhcp4_msg.specs.Message.{read_message}
use Rattle.dhcp4_msg.specs.Options.{message_type, said_by}
use Rattle.dhcp4_msg.specs.Value.{address_said}
use Rattle.dhcp4_server.specs.declared.config.ServerConfig.{ServerConfig}
use Rattle.dhcp4_server.specs.declared.decision.Query.{Query}
use Rattle.dhcp4_server.specs.declared.decision.Query.TheVariants as queries

-- The payload of a packet to a server: of a frame to UDP port 67, section 4.1, or a payload as it
-- is.
abbrev pub payload_to_server : Frame → Option (List ℕ)
payload_to_server frame = if frame.dst_port == 67 then Some frame.payload else None

abbrev pub framed_payload : List ℕ → Option (List ℕ)
framed_payload bytes = read_frame bytes >>= payload_to_server

abbrev pub payload_in : PacketKind → List ℕ → Option (List ℕ)
payload_in kinds.Frame bytes = framed_payload bytes
payload_in kinds.Payload bytes = Some bytes

-- the message that a packet brings to a server
abbrev pub message_to_server : Packet → Option DhcpV4Message
message_to_server packet = payload_in packet.kind packet.bytes >>= read_message

-- what every message has that is read from bytes: a transaction id of 32 bits, and sixteen bytes of
-- a hardware address
pub record CanBeAnswered (message : DhcpV4Message) : Type 0 where
  pub xid : message.xid < 2 ^ 32
  pub chaddr : length message.chaddr ≡ 16

-- A Request is for the server that its option 54 names, or for any if it names none, section 4.3.2.
abbrev pub is_for : ServerConfig → Option Ipv4Addr → Bool
is_for config None = true
is_for config (Some server) = ipv4_bits server == ipv4_bits config.ip

-- the address that a Request asks for, as a number: option 50 in SELECTING and INIT-REBOOT, else
-- ciaddr in RENEWING and REBINDING, section 4.3.2
abbrev pub wanted : DhcpV4Message → ℕ
wanted message = ipv4_bits (unwrap_or (said_by address_said message.options 50) message.ciaddr)

-- what a message of a type asks a server for: a Discover for an offer, a Request to this server for
-- an address, any other message for nothing
abbrev pub query_by : ServerConfig → DhcpV4Message → Option DhcpV4MessageType → Option Query
query_by config message None = None
query_by config message (Some types.Discovery) = Some queries.Discover
query_by config message (Some types.Request) =
    if is_for config (said_by address_said message.options 54)
    then Some (queries.Request (wanted message))
    else None
query_by config message (Some types.Offer) = None
query_by config message (Some types.Decline) = None
query_by config message (Some types.Ack) = None
query_by config message (Some types.Nack) = None
query_by config message (Some types.Release) = None
query_by config message (Some types.Inform) = None

abbrev pub query_of : ServerConfig → DhcpV4Message → Option Query
query_of config message = query_by config message (message_type message.options)
