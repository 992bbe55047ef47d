-- The replies of a server, RFC 2131 section 4.3.1 and table 3.
use Rattle.std.specs.Prelude.{◌≡◌, ℕ, List, [], ◌∷◌, replicate, Option, Some, None}
use Rattle.std.specs.FinMap as map
use Rattle.std.specs.Int.{w32, to_be_bytes}
use Rattle.std.specs.declared.net.Ipv4Addr.{Ipv4Addr}
use Rattle.dhcp_wire.specs.Field.{address_of}
use Rattle.dhcp_clock.specs.declared.link.Packet.{Packet}
use Rattle.dhcp_clock.specs.declared.link.PacketKind.{PacketKind}
use Rattle.dhcp_clock.specs.declared.link.PacketKind.TheVariants as kinds
use Rattle.dhcp_frame.specs.View.{read_frame}
use Rattle.dhcp_frame.specs.Write.{frame_bytes}
use Rattle.dhcp_frame.specs.declared.frame.Frame.{Frame}
use Rattle.dhcp4_msg.specs.declared.message.DhcpV4Message.{DhcpV4Message}
use Rattle.dhcp4_msg.specs.declared.message_type.DhcpV4MessageType.{DhcpV4MessageType}
use Rattle.dhcp4_msg.specs.declared.message_type.DhcpV4MessageType.TheVariants as types
use Rattle.dhcp4_msg.specs.declared.option.DhcpV4Option.{DhcpV4Option}
use Rattle.dhcp4_msg.specs.declared.option.DhcpV4Option.TheVariants.{SubnetMask, IpAddressLeaseTime, MessageType, ServerIdentifier, RenewalTime, RebindingTime}
use Rattle.dhcp4_msg.specs.LeaseTime.{default_rebinding_time, default_renewal_time}
use Rattle.dhcp4_msg.specs.Message.{no_address, written_message}
use Rattle.dhcp4_msg.specs.Options.{with_options}
use Rattle.dhcp4_server.specs.declared.config.ServerConfig.{ServerConfig}
use Rattle.dhcp4_server.specs.declared.decision.Decision.{Decision}
use Rattle.dhcp4_server.specs.declared.decision.Decision.TheVariants as decisions

-- the address of a number
abbrev pub address_of_bits : ℕ → Ipv4Addr
address_of_bits bits = address_of (to_be_bytes w32 bits)

-- The options of an Offer and of an Ack: subnet mask, lease time, type, server identifier, and the
-- defaults of T1 and T2.
abbrev pub granting_options : ServerConfig → DhcpV4MessageType → List DhcpV4Option
granting_options config kind =
    SubnetMask config.mask ∷ IpAddressLeaseTime config.lease_sec ∷ MessageType kind
    ∷ ServerIdentifier config.ip ∷ RenewalTime (default_renewal_time config.lease_sec)
    ∷ RebindingTime (default_rebinding_time config.lease_sec) ∷ []

-- the options of a Nack: type and server identifier
abbrev pub refusing_options : ServerConfig → List DhcpV4Option
refusing_options config = MessageType types.Nack ∷ ServerIdentifier config.ip ∷ []

-- A reply to a message, with these addresses and options: a BOOTREPLY over Ethernet with the
-- transaction id and hardware address of the message.
unfoldable pub reply_message : DhcpV4Message → Ipv4Addr → Ipv4Addr → List DhcpV4Option →
    DhcpV4Message
reply_message message yiaddr siaddr options = record {
  op = 2;
  htype = 1;
  hlen = 6;
  hops = 0;
  xid = message.xid;
  secs = 0;
  flags = 0;
  ciaddr = no_address;
  yiaddr = yiaddr;
  siaddr = siaddr;
  giaddr = no_address;
  chaddr = message.chaddr;
  sname = [];
  file = [];
  options = with_options map.empty options;
}

-- an Offer or an Ack of an address, which is given as a number
abbrev pub granting : ServerConfig → DhcpV4Message → DhcpV4MessageType → ℕ → DhcpV4Message
granting config message kind address =
    reply_message message (address_of_bits address) config.ip (granting_options config kind)

-- a Nack
abbrev pub refusing : ServerConfig → DhcpV4Message → DhcpV4Message
refusing config message = reply_message message no_address no_address (refusing_options config)

-- the message that tells a client what was decided
abbrev pub reply_by : ServerConfig → DhcpV4Message → Decision → Option DhcpV4Message
reply_by config message decisions.Silence = None
reply_by config message (decisions.Offer address) =
    Some (granting config message types.Offer address)
reply_by config message (decisions.Grant address) = Some (granting config message types.Ack address)
reply_by config message decisions.Refuse = Some (refusing config message)

-- A reply in a frame, which goes to everyone, from UDP port 67 to port 68, section 4.1.
abbrev pub reply_frame : ServerConfig → List ℕ → Frame
reply_frame config payload = record {
  src_mac = config.mac;
  dst_mac = replicate 6 255;
  src_ip = config.ip;
  dst_ip = address_of (replicate 4 255);
  src_port = 67;
  dst_port = 68;
  payload = payload;
}

-- a frame reads back from its bytes
abbrev pub IsFramed : Frame → Type 0
IsFramed frame = read_frame (frame_bytes frame) ≡ Some frame

-- the packet of a payload
abbrev pub carried : ServerConfig → PacketKind → List ℕ → Packet
carried config kinds.Frame payload =
    record { kind = kinds.Frame; bytes = frame_bytes (reply_frame config payload) }
carried config kinds.Payload payload = record { kind = kinds.Payload; bytes = payload }

-- the packet of a reply
abbrev pub packet_of : ServerConfig → PacketKind → DhcpV4Message → Packet
packet_of config kind message = carried config kind (written_message message)
