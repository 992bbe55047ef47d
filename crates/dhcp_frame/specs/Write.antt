-- A frame as it is written: the headers of Ethernet II, IPv4 (RFC 791, section 3.1) and UDP (RFC
-- 768), and the payload.
use Rattle.std.specs.Prelude.{◌≡◌, ℕ, ◌+◌, ◌<◌, List, [], ◌∷◌, ◌++◌, length, ◌==◌, if◌then◌else◌}
use Rattle.std.specs.Int.{w16, to_be_bytes}
use Rattle.std.specs.Net.Addr.{ipv4_octets, IsIpv4Addr}
use Rattle.dhcp_frame.specs.Checksum.{checksum}
use Rattle.dhcp_frame.specs.declared.frame.Frame.{Frame}

-- the two bytes of a field, the more significant first
abbrev pub field : ℕ → List ℕ
field number = to_be_bytes w16 number

-- the Ethernet header: destination, source, and the type of IPv4
abbrev pub ethernet_header : Frame → List ℕ
ethernet_header frame = frame.dst_mac ++ frame.src_mac ++ 0x08 ∷ 0x00 ∷ []

-- the length of the UDP header and the payload
abbrev pub udp_length : Frame → ℕ
udp_length frame = 8 + length frame.payload

-- The IPv4 header with this checksum: version 4 with five words of header, no service, the total
-- length; no identification, not to be fragmented; 128 hops, the protocol UDP, the checksum; source
-- and destination.
unfoldable pub ip_header : Frame → ℕ → List ℕ
ip_header frame sum =
    (0x45 ∷ 0x00 ∷ []) ++ field (20 + udp_length frame) ++ (0x00 ∷ 0x00 ∷ 0x40 ∷ 0x00 ∷ [])
    ++ (0x80 ∷ 0x11 ∷ []) ++ field sum ++ ipv4_octets frame.src_ip ++ ipv4_octets frame.dst_ip

-- the UDP header with this checksum
unfoldable pub udp_header : Frame → ℕ → List ℕ
udp_header frame sum =
    field frame.src_port ++ field frame.dst_port ++ field (udp_length frame) ++ field sum

-- what the UDP checksum covers before the header: source, destination, a zero byte, the protocol
-- UDP, and the UDP length
unfoldable pub pseudo_header : Frame → List ℕ
pseudo_header frame =
    ipv4_octets frame.src_ip ++ ipv4_octets frame.dst_ip
    ++ (0x00 ∷ 0x11 ∷ []) ++ field (udp_length frame)

-- the checksum of an IPv4 header, over the header with checksum 0
abbrev pub ip_checksum : Frame → ℕ
ip_checksum frame = checksum (ip_header frame 0)

-- a checksum of 0 is written as ffff, since 0 says that there is none
abbrev pub never_zero : ℕ → ℕ
never_zero sum = if sum == 0 then 0xffff else sum

-- the checksum of the pseudo-header, the UDP header with checksum 0 and the payload
abbrev pub covered_checksum : Frame → ℕ
covered_checksum frame = checksum (pseudo_header frame ++ udp_header frame 0 ++ frame.payload)

-- the UDP checksum
abbrev pub udp_checksum : Frame → ℕ
udp_checksum frame = never_zero (covered_checksum frame)

-- The most bytes of payload: a total length of 65,535, RFC 791 section 3.1, less an IPv4 header of
-- 20 bytes and a UDP header of 8.
abbrev pub most_payload : ℕ
most_payload = 65507

-- the bytes of a frame
unfoldable pub frame_bytes : Frame → List ℕ
frame_bytes frame =
    ethernet_header frame ++ ip_header frame (ip_checksum frame)
    ++ udp_header frame (udp_checksum frame) ++ frame.payload

-- by their types, its MAC addresses have 6 bytes
pub record HasMacs (frame : Frame) : Type 0 where
  pub destination : length frame.dst_mac ≡ 6
  pub source : length frame.src_mac ≡ 6

-- by their types, its IPv4 addresses are such
pub record HasAddresses (frame : Frame) : Type 0 where
  pub source : IsIpv4Addr frame.src_ip
  pub destination : IsIpv4Addr frame.dst_ip

-- by their types, its ports have 16 bits
pub record HasPorts (frame : Frame) : Type 0 where
  pub source : frame.src_port < 65536
  pub destination : frame.dst_port < 65536
