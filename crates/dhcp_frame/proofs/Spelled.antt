-- The headers, spelled byte by byte.
use Rattle.std.proofs.Common.{◌≡◌, ℕ, ◌+◌, List, [], ◌∷◌, ◌++◌, length, get_or, append_assoc, append-nil, ap, sym, ◌∙◌, refl, arith}
use Rattle.dhcp_frame.specs.declared.frame.Frame.{Frame}
use Rattle.dhcp_frame.specs.Write.{field, udp_length, ethernet_header, ip_header, udp_header, pseudo_header}

-- four bytes and those after them
front_four : (bytes rest : List ℕ) → length bytes ≡ 4 → bytes ++ rest ≡ get_or bytes 0 0 ∷ get_or bytes 1 0 ∷ get_or bytes 2 0 ∷ get_or bytes 3 0 ∷ rest
front_four [] rest four = absurd (omega arith)
front_four (a ∷ []) rest four = absurd (omega arith)
front_four (a ∷ b ∷ []) rest four = absurd (omega arith)
front_four (a ∷ b ∷ c ∷ []) rest four = absurd (omega arith)
front_four (a ∷ b ∷ c ∷ d ∷ []) rest four = refl
front_four (a ∷ b ∷ c ∷ d ∷ e ∷ bytes) rest four = absurd (omega arith)

-- four bytes alone
pub only_four : (bytes : List ℕ) → length bytes ≡ 4 → bytes ≡ get_or bytes 0 0 ∷ get_or bytes 1 0 ∷ get_or bytes 2 0 ∷ get_or bytes 3 0 ∷ []
only_four bytes four = sym (append-nil bytes) ∙ front_four bytes [] four

-- four bytes and four after them
four_and_four : (one other : List ℕ) → length one ≡ 4 → length other ≡ 4 →
    one ++ other ≡ get_or one 0 0 ∷ get_or one 1 0 ∷ get_or one 2 0 ∷ get_or one 3 0 ∷ get_or other 0 0 ∷ get_or other 1 0 ∷ get_or other 2 0 ∷ get_or other 3 0 ∷ []
four_and_four one other first second =
    front_four one other first
    ∙ ap (λ rest. get_or one 0 0 ∷ get_or one 1 0 ∷ get_or one 2 0 ∷ get_or one 3 0 ∷ rest) (only_four other second)

-- six bytes and those after them
front_six : (bytes rest : List ℕ) → length bytes ≡ 6 → bytes ++ rest ≡ get_or bytes 0 0 ∷ get_or bytes 1 0 ∷ get_or bytes 2 0 ∷ get_or bytes 3 0 ∷ get_or bytes 4 0 ∷ get_or bytes 5 0 ∷ rest
front_six [] rest six = absurd (omega arith)
front_six (a ∷ []) rest six = absurd (omega arith)
front_six (a ∷ b ∷ []) rest six = absurd (omega arith)
front_six (a ∷ b ∷ c ∷ []) rest six = absurd (omega arith)
front_six (a ∷ b ∷ c ∷ d ∷ []) rest six = absurd (omega arith)
front_six (a ∷ b ∷ c ∷ d ∷ e ∷ []) rest six = absurd (omega arith)
front_six (a ∷ b ∷ c ∷ d ∷ e ∷ f ∷ []) rest six = refl
front_six (a ∷ b ∷ c ∷ d ∷ e ∷ f ∷ g ∷ bytes) rest six = absurd (omega arith)

-- six bytes alone
pub only_six : (bytes : List ℕ) → length bytes ≡ 6 → bytes ≡ get_or bytes 0 0 ∷ get_or bytes 1 0 ∷ get_or bytes 2 0 ∷ get_or bytes 3 0 ∷ get_or bytes 4 0 ∷ get_or bytes 5 0 ∷ []
only_six bytes six = sym (append-nil bytes) ∙ front_six bytes [] six

-- the Ethernet header
pub ethernet_header-spelled : (frame : Frame) → length frame.dst_mac ≡ 6 → length frame.src_mac ≡ 6 →
    ethernet_header frame ≡ get_or frame.dst_mac 0 0 ∷ get_or frame.dst_mac 1 0 ∷ get_or frame.dst_mac 2 0 ∷ get_or frame.dst_mac 3 0 ∷ get_or frame.dst_mac 4 0 ∷ get_or frame.dst_mac 5 0
    ∷ get_or frame.src_mac 0 0 ∷ get_or frame.src_mac 1 0 ∷ get_or frame.src_mac 2 0 ∷ get_or frame.src_mac 3 0 ∷ get_or frame.src_mac 4 0 ∷ get_or frame.src_mac 5 0 ∷ 8 ∷ 0 ∷ []
ethernet_header-spelled frame destination source = rw (append_assoc, front_six frame.dst_mac _ destination, front_six frame.src_mac _ source) refl

-- the IPv4 header
pub ip_header-spelled : (frame : Frame) (sum : ℕ) → length frame.src_ip.octets ≡ 4 → length frame.dst_ip.octets ≡ 4 →
    ip_header frame sum ≡ 69 ∷ 0 ∷ get_or (field (20 + udp_length frame)) 0 0 ∷ get_or (field (20 + udp_length frame)) 1 0 ∷ 0 ∷ 0 ∷ 64 ∷ 0 ∷ 128 ∷ 17 ∷ get_or (field sum) 0 0 ∷ get_or (field sum) 1 0
    ∷ get_or frame.src_ip.octets 0 0 ∷ get_or frame.src_ip.octets 1 0 ∷ get_or frame.src_ip.octets 2 0 ∷ get_or frame.src_ip.octets 3 0
    ∷ get_or frame.dst_ip.octets 0 0 ∷ get_or frame.dst_ip.octets 1 0 ∷ get_or frame.dst_ip.octets 2 0 ∷ get_or frame.dst_ip.octets 3 0 ∷ []
unfolding ip_header
ip_header-spelled frame sum source destination = rw (four_and_four frame.src_ip.octets frame.dst_ip.octets source destination) refl

-- the UDP header
pub udp_header-spelled : (frame : Frame) (sum : ℕ) →
    udp_header frame sum ≡ get_or (field frame.src_port) 0 0 ∷ get_or (field frame.src_port) 1 0 ∷ get_or (field frame.dst_port) 0 0 ∷ get_or (field frame.dst_port) 1 0
    ∷ get_or (field (udp_length frame)) 0 0 ∷ get_or (field (udp_length frame)) 1 0 ∷ get_or (field sum) 0 0 ∷ get_or (field sum) 1 0 ∷ []
unfolding udp_header
udp_header-spelled frame sum = refl

-- the pseudo-header
pub pseudo_header-spelled : (frame : Frame) → length frame.src_ip.octets ≡ 4 → length frame.dst_ip.octets ≡ 4 →
    pseudo_header frame ≡ get_or frame.src_ip.octets 0 0 ∷ get_or frame.src_ip.octets 1 0 ∷ get_or frame.src_ip.octets 2 0 ∷ get_or frame.src_ip.octets 3 0
    ∷ get_or frame.dst_ip.octets 0 0 ∷ get_or frame.dst_ip.octets 1 0 ∷ get_or frame.dst_ip.octets 2 0 ∷ get_or frame.dst_ip.octets 3 0
    ∷ 0 ∷ 17 ∷ get_or (field (udp_length frame)) 0 0 ∷ get_or (field (udp_length frame)) 1 0 ∷ []
unfolding pseudo_header
pseudo_header-spelled frame source destination = rw (four_and_four frame.src_ip.octets frame.dst_ip.octets source destination) refl

pub ruleset spelled = (ethernet_header-spelled, ip_header-spelled, udp_header-spelled, pseudo_header-spelled)
