-- What is written reads back.
use Rattle.std.proofs.Common.{◌≡◌, ℕ, ◌+◌, ◌-◌, ◌<◌, ◌≤◌, List, [], ◌∷◌, ◌++◌, length, get_or, append_assoc, Option, Some, ap, sym, ◌∙◌, refl, arith}
use Rattle.std.proofs.lemmas.List.{take_all}
use Rattle.std.proofs.lemmas.Bool.{le-leb}
use Rattle.dhcp_frame.specs.declared.frame.Frame.{Frame}
use Rattle.dhcp_frame.specs.Write.{field, udp_length, ethernet_header, ip_header, ip_checksum, udp_header, udp_checksum, frame_bytes, HasMacs, HasAddresses, HasPorts}
use Rattle.dhcp_frame.proofs.Spelled.{only_four, only_six, ethernet_header-spelled, ip_header-spelled, udp_header-spelled}
use Rattle.dhcp_wire.specs.Field.{address_of}
use Rattle.dhcp_frame.specs.Checksum.{word}
use Rattle.dhcp_frame.specs.View.{Packet, read_ethernet, read_packet, read_datagram, read_frame}

-- an Ethernet frame, byte by byte
ethernet-spelled : (d0 d1 d2 d3 d4 d5 s0 s1 s2 s3 s4 s5 : ℕ) (content : List ℕ) →
    read_ethernet (d0 ∷ d1 ∷ d2 ∷ d3 ∷ d4 ∷ d5 ∷ s0 ∷ s1 ∷ s2 ∷ s3 ∷ s4 ∷ s5 ∷ 8 ∷ 0 ∷ content)
    ≡ Some (record { destination = d0 ∷ d1 ∷ d2 ∷ d3 ∷ d4 ∷ d5 ∷ []; source = s0 ∷ s1 ∷ s2 ∷ s3 ∷ s4 ∷ s5 ∷ []; content = content })
unfolding read_ethernet
ethernet-spelled d0 d1 d2 d3 d4 d5 s0 s1 s2 s3 s4 s5 content =
    rw (le-leb 14 (length (d0 ∷ d1 ∷ d2 ∷ d3 ∷ d4 ∷ d5 ∷ s0 ∷ s1 ∷ s2 ∷ s3 ∷ s4 ∷ s5 ∷ 8 ∷ 0 ∷ content)) (omega arith)) refl

-- an IPv4 packet, byte by byte
packet-spelled : (l0 l1 c0 c1 s0 s1 s2 s3 d0 d1 d2 d3 : ℕ) (content : List ℕ) → word l0 l1 ≡ 20 + length content →
    read_packet (69 ∷ 0 ∷ l0 ∷ l1 ∷ 0 ∷ 0 ∷ 64 ∷ 0 ∷ 128 ∷ 17 ∷ c0 ∷ c1 ∷ s0 ∷ s1 ∷ s2 ∷ s3 ∷ d0 ∷ d1 ∷ d2 ∷ d3 ∷ content)
    ≡ Some (record { source = address_of (s0 ∷ s1 ∷ s2 ∷ s3 ∷ []); destination = address_of (d0 ∷ d1 ∷ d2 ∷ d3 ∷ []); content = content })
unfolding read_packet
packet-spelled l0 l1 c0 c1 s0 s1 s2 s3 d0 d1 d2 d3 content whole =
    let packet : List ℕ = 69 ∷ 0 ∷ l0 ∷ l1 ∷ 0 ∷ 0 ∷ 64 ∷ 0 ∷ 128 ∷ 17 ∷ c0 ∷ c1 ∷ s0 ∷ s1 ∷ s2 ∷ s3 ∷ d0 ∷ d1 ∷ d2 ∷ d3 ∷ content in
    rw (le-leb 20 (length packet) (omega arith), le-leb 20 (word l0 l1) (omega arith), le-leb (word l0 l1) (length packet) (omega arith), take_all (word l0 l1 - 20) content (omega arith)) refl

-- a UDP datagram, byte by byte
datagram-spelled : (s0 s1 d0 d1 l0 l1 c0 c1 : ℕ) (payload : List ℕ) → word l0 l1 ≡ 8 + length payload →
    read_datagram (s0 ∷ s1 ∷ d0 ∷ d1 ∷ l0 ∷ l1 ∷ c0 ∷ c1 ∷ payload) ≡ Some (record { source = word s0 s1; destination = word d0 d1; payload = payload })
unfolding read_datagram
datagram-spelled s0 s1 d0 d1 l0 l1 c0 c1 payload whole =
    let datagram : List ℕ = s0 ∷ s1 ∷ d0 ∷ d1 ∷ l0 ∷ l1 ∷ c0 ∷ c1 ∷ payload in
    rw (le-leb 8 (length datagram) (omega arith), le-leb 8 (word l0 l1) (omega arith), le-leb (word l0 l1) (length datagram) (omega arith), take_all (word l0 l1 - 8) payload (omega arith)) refl

-- the two bytes of a field have its number
word-field : (number : ℕ) → number < 65536 → word (get_or (field number) 0 0) (get_or (field number) 1 0) ≡ number
word-field number fits = omega arith

-- an Ethernet header and its content
read_ethernet-header : (frame : Frame) (content : List ℕ) → length frame.dst_mac ≡ 6 → length frame.src_mac ≡ 6 →
    read_ethernet (ethernet_header frame ++ content) ≡ Some (record { destination = frame.dst_mac; source = frame.src_mac; content = content })
read_ethernet-header frame content destination source =
    let spelled = ap (λ (bytes : List ℕ). read_ethernet (bytes ++ content)) (ethernet_header-spelled frame destination source) in
    let read = ethernet-spelled (get_or frame.dst_mac 0 0) (get_or frame.dst_mac 1 0) (get_or frame.dst_mac 2 0) (get_or frame.dst_mac 3 0) (get_or frame.dst_mac 4 0) (get_or frame.dst_mac 5 0) (get_or frame.src_mac 0 0) (get_or frame.src_mac 1 0) (get_or frame.src_mac 2 0) (get_or frame.src_mac 3 0) (get_or frame.src_mac 4 0) (get_or frame.src_mac 5 0) content in
    let to = only_six frame.dst_mac destination in
    let from = only_six frame.src_mac source in
    cc

-- a packet between the addresses of these octets
abbrev packet_of : List ℕ → List ℕ → List ℕ → Option Packet
packet_of from to content = Some (record { source = address_of from; destination = address_of to; content = content })

-- an IPv4 header and its content
read_packet-header : (frame : Frame) (sum : ℕ) (content : List ℕ) → length frame.src_ip.octets ≡ 4 → length frame.dst_ip.octets ≡ 4 →
    length content ≡ udp_length frame → udp_length frame ≤ 65515 →
    read_packet (ip_header frame sum ++ content) ≡ Some (record { source = frame.src_ip; destination = frame.dst_ip; content = content })
read_packet-header frame sum content source destination whole fits =
    let size = field (20 + udp_length frame) in
    let spelled = ap (λ (bytes : List ℕ). read_packet (bytes ++ content)) (ip_header-spelled frame sum source destination) in
    let read = packet-spelled (get_or size 0 0) (get_or size 1 0) (get_or (field sum) 0 0) (get_or (field sum) 1 0) (get_or frame.src_ip.octets 0 0) (get_or frame.src_ip.octets 1 0) (get_or frame.src_ip.octets 2 0) (get_or frame.src_ip.octets 3 0) (get_or frame.dst_ip.octets 0 0) (get_or frame.dst_ip.octets 1 0) (get_or frame.dst_ip.octets 2 0) (get_or frame.dst_ip.octets 3 0) content (omega (arith, word-field (20 + udp_length frame) (omega arith))) in
    spelled ∙ (read
    ∙ (ap (λ octets. packet_of octets (get_or frame.dst_ip.octets 0 0 ∷ get_or frame.dst_ip.octets 1 0 ∷ get_or frame.dst_ip.octets 2 0 ∷ get_or frame.dst_ip.octets 3 0 ∷ []) content) (sym (only_four frame.src_ip.octets source))
    ∙ ap (λ octets. packet_of frame.src_ip.octets octets content) (sym (only_four frame.dst_ip.octets destination))))

-- a UDP header and its payload
read_datagram-header : (frame : Frame) (sum : ℕ) → frame.src_port < 65536 → frame.dst_port < 65536 → udp_length frame ≤ 65515 →
    read_datagram (udp_header frame sum ++ frame.payload) ≡ Some (record { source = frame.src_port; destination = frame.dst_port; payload = frame.payload })
read_datagram-header frame sum source destination fits =
    let spelled = ap (λ (bytes : List ℕ). read_datagram (bytes ++ frame.payload)) (udp_header-spelled frame sum) in
    let read = datagram-spelled (get_or (field frame.src_port) 0 0) (get_or (field frame.src_port) 1 0) (get_or (field frame.dst_port) 0 0) (get_or (field frame.dst_port) 1 0) (get_or (field (udp_length frame)) 0 0) (get_or (field (udp_length frame)) 1 0) (get_or (field sum) 0 0) (get_or (field sum) 1 0) frame.payload (word-field (udp_length frame) (omega arith)) in
    let from = word-field frame.src_port source in
    let to = word-field frame.dst_port destination in
    cc

-- four lists end to end
regroup : (a b c d : List ℕ) → a ++ b ++ c ++ d ≡ a ++ (b ++ (c ++ d))
regroup a b c d = simp append_assoc

-- the bytes of a frame, layer in layer
frame_bytes-layers : (frame : Frame) →
    frame_bytes frame ≡ ethernet_header frame ++ (ip_header frame (ip_checksum frame) ++ (udp_header frame (udp_checksum frame) ++ frame.payload))
unfolding frame_bytes
frame_bytes-layers frame = regroup (ethernet_header frame) (ip_header frame (ip_checksum frame)) (udp_header frame (udp_checksum frame)) frame.payload

-- how long a UDP header is
length-udp_header : (frame : Frame) (sum : ℕ) → length (udp_header frame sum ++ frame.payload) ≡ udp_length frame
length-udp_header frame sum = rw (udp_header-spelled frame sum) (omega arith)

-- the bytes of a frame read as the frame
pub read_frame-frame_bytes : (frame : Frame) → HasMacs frame → HasAddresses frame → HasPorts frame → length frame.payload ≤ 65507 →
    read_frame (frame_bytes frame) ≡ Some frame
unfolding read_frame
read_frame-frame_bytes frame macs addresses ports fits =
    let datagram = udp_header frame (udp_checksum frame) ++ frame.payload in
    let packet = ip_header frame (ip_checksum frame) ++ datagram in
    rw (
      frame_bytes-layers frame,
      read_ethernet-header frame packet macs.destination macs.source,
      read_packet-header frame (ip_checksum frame) datagram addresses.source.0 addresses.destination.0 (length-udp_header frame (udp_checksum frame)) (omega arith),
      read_datagram-header frame (udp_checksum frame) ports.source ports.destination (omega arith),
    ) refl

pub ruleset back = (read_frame-frame_bytes)
