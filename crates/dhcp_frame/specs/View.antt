-- Which bytes are a frame with a UDP datagram: Ethernet II, IPv4 (RFC 791, section 3.1) and UDP
-- (RFC 768), each layer by the length that its header gives. No checksum is tested, and what
-- follows the datagram is ignored.
use Rattle.std.specs.Prelude.{ℕ, ◌+◌, ◌*◌, ◌/◌, ◌%◌, Bool, ◌&&◌, List, length, drop, slice_index, slice_range, Option, Some, None, nat_le, ◌==◌, if◌then◌else◌}
use Rattle.std.specs.declared.net.Ipv4Addr.{Ipv4Addr}
use Rattle.dhcp_wire.specs.Field.{◌>>=◌, address_of}
use Rattle.dhcp_frame.specs.Checksum.{word}
use Rattle.dhcp_frame.specs.declared.frame.Frame.{Frame}

-- the 16-bit field at this position
abbrev pub field_at : ℕ → List ℕ → ℕ
field_at position bytes = word (slice_index bytes position) (slice_index bytes (position + 1))

-- the address at this position
abbrev pub address_at : ℕ → List ℕ → Ipv4Addr
address_at position bytes = address_of (slice_range bytes position (position + 4))

-- what an Ethernet frame has
pub record Ethernet : Type 0 where
  pub destination : List ℕ
  pub source : List ℕ
  pub content : List ℕ

-- what an IPv4 packet has
pub record Packet : Type 0 where
  pub source : Ipv4Addr
  pub destination : Ipv4Addr
  pub content : List ℕ

-- what a UDP datagram has
pub record Datagram : Type 0 where
  pub source : ℕ
  pub destination : ℕ
  pub payload : List ℕ

-- the frame has a whole header, and its type is that of IPv4
abbrev pub carries_ip : List ℕ → Bool
carries_ip frame = nat_le 14 (length frame) && (field_at 12 frame == 0x0800)

-- an Ethernet frame that carries IPv4
unfoldable pub read_ethernet : List ℕ → Option Ethernet
read_ethernet frame =
    if carries_ip frame
    then Some (record {
      destination = slice_range frame 0 6;
      source = slice_range frame 6 12;
      content = drop 14 frame;
    })
    else None

-- the length of an IPv4 header, which counts words of four bytes
abbrev pub header_length : List ℕ → ℕ
header_length packet = slice_index packet 0 % 16 * 4

-- the length of the whole packet
abbrev pub total_length : List ℕ → ℕ
total_length packet = field_at 2 packet

-- the packet has the fixed part of a header, of version 4
abbrev pub is_ipv4 : List ℕ → Bool
is_ipv4 packet = nat_le 20 (length packet) && (slice_index packet 0 / 16 == 4)

-- the header has its fixed part, and the header and the packet are whole
abbrev pub is_whole : List ℕ → Bool
is_whole packet =
    nat_le 20 (header_length packet)
    && nat_le (header_length packet) (total_length packet)
    && nat_le (total_length packet) (length packet)

-- no fragment: the flag of more fragments and the fragment offset, the low 14 bits of their field,
-- are 0
abbrev pub is_unfragmented : List ℕ → Bool
is_unfragmented packet = field_at 6 packet % 0x4000 == 0

-- the protocol is UDP
abbrev pub carries_udp : List ℕ → Bool
carries_udp packet = slice_index packet 9 == 0x11

-- a whole IPv4 packet that carries UDP
unfoldable pub read_packet : List ℕ → Option Packet
read_packet packet =
    if is_ipv4 packet && is_whole packet && is_unfragmented packet && carries_udp packet
    then Some (record {
      source = address_at 12 packet;
      destination = address_at 16 packet;
      content = slice_range packet (header_length packet) (total_length packet);
    })
    else None

-- the length of a UDP datagram, header and payload
abbrev pub datagram_length : List ℕ → ℕ
datagram_length datagram = field_at 4 datagram

-- the datagram has a whole header, and is whole
abbrev pub is_datagram : List ℕ → Bool
is_datagram datagram =
    nat_le 8 (length datagram)
    && nat_le 8 (datagram_length datagram)
    && nat_le (datagram_length datagram) (length datagram)

-- a UDP datagram
unfoldable pub read_datagram : List ℕ → Option Datagram
read_datagram datagram =
    if is_datagram datagram
    then Some (record {
      source = field_at 0 datagram;
      destination = field_at 2 datagram;
      payload = slice_range datagram 8 (datagram_length datagram);
    })
    else None

-- the frame that these bytes are
unfoldable pub read_frame : List ℕ → Option Frame
read_frame bytes = do
  ethernet ← read_ethernet bytes
  packet ← read_packet ethernet.content
  datagram ← read_datagram packet.content
  Some (record {
    src_mac = ethernet.source;
    dst_mac = ethernet.destination;
    src_ip = packet.source;
    dst_ip = packet.destination;
    src_port = datagram.source;
    dst_port = datagram.destination;
    payload = datagram.payload;
  })
