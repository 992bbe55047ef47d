-- The definitions worked out on the example of RFC 1071 and on a frame as it stands on the wire, so
-- that a wrong rule among them does not check.
use Rattle.std.proofs.Common.{◌≡◌, ℕ, List, [], ◌∷◌, replicate, Some, refl}
use Rattle.dhcp_wire.specs.Field.{address_of}
use Rattle.dhcp_frame.specs.Checksum.{checksum, ones_complement_sum, word_sum}
use Rattle.dhcp_frame.specs.View.{read_datagram, read_ethernet, read_frame, read_packet}
use Rattle.dhcp_frame.specs.Write.{frame_bytes, ip_header, pseudo_header, udp_header}
use Rattle.dhcp_frame.specs.declared.frame.Frame.{Frame}

-- the numerical example of RFC 1071, section 3: 0001 f203 f4f5 f6f7
abbrev example_bytes : List ℕ
example_bytes = 0x00 ∷ 0x01 ∷ 0xf2 ∷ 0x03 ∷ 0xf4 ∷ 0xf5 ∷ 0xf6 ∷ 0xf7 ∷ []

-- its plain sum, the sum with the carries added back in, and the checksum
pub example-plain_sum : word_sum example_bytes ≡ 0x2ddf0
unfolding word_sum
example-plain_sum = refl

pub example-sum : ones_complement_sum example_bytes ≡ 0xddf2
unfolding ones_complement_sum
example-sum = refl

pub example-checksum : checksum example_bytes ≡ 0x220d
unfolding ones_complement_sum
example-checksum = refl

-- with the bytes of each word swapped, as in that example, the sum is swapped too
pub swapped-sum : ones_complement_sum (0x01 ∷ 0x00 ∷ 0x03 ∷ 0xf2 ∷ 0xf5 ∷ 0xf4 ∷ 0xf7 ∷ 0xf6 ∷ []) ≡ 0xf2dd
unfolding ones_complement_sum
swapped-sum = refl

-- A frame to all hosts, with three bytes of payload: for the checksum a zero byte follows them.
abbrev frame : Frame
frame = record {
  src_mac = 2 ∷ 0 ∷ 0 ∷ 0 ∷ 0 ∷ 1 ∷ [];
  dst_mac = replicate 6 0xff;
  src_ip = address_of (replicate 4 0);
  dst_ip = address_of (replicate 4 0xff);
  src_port = 68;
  dst_port = 67;
  payload = 1 ∷ 2 ∷ 3 ∷ [];
}

-- its bytes, a line for each header, of IPv4 two
abbrev bytes_of_frame : List ℕ
bytes_of_frame =
    0xff ∷ 0xff ∷ 0xff ∷ 0xff ∷ 0xff ∷ 0xff ∷ 0x02 ∷ 0x00 ∷ 0x00 ∷ 0x00 ∷ 0x00 ∷ 0x01 ∷ 0x08 ∷ 0x00
    ∷ 0x45 ∷ 0x00 ∷ 0x00 ∷ 0x1f ∷ 0x00 ∷ 0x00 ∷ 0x40 ∷ 0x00 ∷ 0x80 ∷ 0x11 ∷ 0xfa ∷ 0xce
    ∷ 0x00 ∷ 0x00 ∷ 0x00 ∷ 0x00 ∷ 0xff ∷ 0xff ∷ 0xff ∷ 0xff
    ∷ 0x00 ∷ 0x44 ∷ 0x00 ∷ 0x43 ∷ 0x00 ∷ 0x0b ∷ 0xfb ∷ 0x4f
    ∷ 0x01 ∷ 0x02 ∷ 0x03 ∷ []

pub frame-written : frame_bytes frame ≡ bytes_of_frame
unfolding frame_bytes ip_header udp_header pseudo_header ones_complement_sum
frame-written = refl

pub frame-reads : read_frame bytes_of_frame ≡ Some frame
unfolding read_frame read_ethernet read_packet read_datagram
frame-reads = refl
