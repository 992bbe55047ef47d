-- Which bytes are a frame with a UDP datagram over IPv6: Ethernet II, IPv6 (RFC 8200, section 3)
-- and UDP (RFC 768), each layer by the length that its header gives. There is no extension header,
-- no checksum is tested, and what follows the datagram is ignored.
use Rattle.std.specs.Prelude.{ℕ, ◌+◌, ◌/◌, Bool, ◌&&◌, List, length, drop, slice_index, slice_range, Option, Some, None, nat_le, ◌==◌, if◌then◌else◌}
use Rattle.std.specs.declared.net.Ipv6Addr.{Ipv6Addr}
use Rattle.dhcp_wire.specs.Field.{◌>>=◌, ipv6_address_of}
use Rattle.dhcp_frame.specs.View.{field_at, read_datagram}

-- what contracts see of a frame with a UDP datagram over IPv6
pub record Frame6 : Type 0 where
  pub src_ip : Ipv6Addr
  pub dst_ip : Ipv6Addr
  pub src_port : ℕ
  pub dst_port : ℕ
  pub payload : List ℕ

-- what an IPv6 packet has
pub record Packet6 : Type 0 where
  pub source : Ipv6Addr
  pub destination : Ipv6Addr
  pub content : List ℕ

-- the IPv6 address at this position
abbrev pub ipv6_address_at : ℕ → List ℕ → Ipv6Addr
ipv6_address_at position bytes = ipv6_address_of (slice_range bytes position (position + 16))

-- the frame has a whole header, and its type is that of IPv6
abbrev pub carries_ipv6 : List ℕ → Bool
carries_ipv6 frame = nat_le 14 (length frame) && (field_at 12 frame == 0x86dd)

-- the content of an Ethernet frame that carries IPv6
unfoldable pub read_ethernet6 : List ℕ → Option (List ℕ)
read_ethernet6 frame = if carries_ipv6 frame then Some (drop 14 frame) else None

-- the packet has a whole header, of version 6
abbrev pub is_ipv6 : List ℕ → Bool
is_ipv6 packet = nat_le 40 (length packet) && (slice_index packet 0 / 16 == 6)

-- the length of what follows the header
abbrev pub payload_length : List ℕ → ℕ
payload_length packet = field_at 4 packet

-- what follows the header is whole
abbrev pub is_whole6 : List ℕ → Bool
is_whole6 packet = nat_le (40 + payload_length packet) (length packet)

-- the next header is that of UDP
abbrev pub carries_udp6 : List ℕ → Bool
carries_udp6 packet = slice_index packet 6 == 0x11

-- a whole IPv6 packet that carries UDP
unfoldable pub read_packet6 : List ℕ → Option Packet6
read_packet6 packet =
    if is_ipv6 packet && is_whole6 packet && carries_udp6 packet
    then Some (record {
      source = ipv6_address_at 8 packet;
      destination = ipv6_address_at 24 packet;
      content = slice_range packet 40 (40 + payload_length packet);
    })
    else None

-- the frame that these bytes are
unfoldable pub read_frame6 : List ℕ → Option Frame6
read_frame6 bytes = do
  content ← read_ethernet6 bytes
  packet ← read_packet6 content
  datagram ← read_datagram packet.content
  Some (record {
    src_ip = packet.source;
    dst_ip = packet.destination;
    src_port = datagram.source;
    dst_port = datagram.destination;
    payload = datagram.payload;
  })
