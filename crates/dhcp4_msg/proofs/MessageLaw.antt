-- A message reads back.
use Rattle.std.proofs.Common.{◌≡◌, ℕ, List, [], ◌∷◌, ◌++◌, Some, refl, ap, ◌∙◌, append_assoc, lit<}
use Rattle.std.specs.Int.{w8, w16, w32, to_be_bytes}
use Rattle.std.specs.Net.Addr.{ipv4_octets}
use Rattle.dhcp_wire.specs.Field.{bytes_at, number_at, address_at, terminated_text_at, terminated_text}
use Rattle.dhcp_wire.proofs.FieldLaws.{bytes_at-append, number_at-byte, number_at-to_be_bytes, address_at-octets, terminated_text_at-terminated_text, big_endian_16, big_endian_32}
use Rattle.dhcp4_msg.specs.declared.message.DhcpV4Message.{DhcpV4Message}
use Rattle.dhcp4_msg.specs.Laws.{MessageReadsBack, read_back}
use Rattle.dhcp4_msg.specs.Message.{read_message, written_message, written_numbers, written_address_fields, written_texts, magic_cookie}
use Rattle.dhcp4_msg.specs.Options.{read_options, written_options}
use Rattle.dhcp4_msg.proofs.OptionsLaw.{options_map_back}

-- A message whose fields are read one after the other, before the cookie: b1 to b14 are the bytes after each.
read_in_turn :
    (message : DhcpV4Message) (bytes b1 b2 b3 b4 b5 b6 b7 b8 b9 b10 b11 b12 b13 b14 rest : List ℕ)
    → number_at w8 bytes ≡ Some (message.op, b1)
    → number_at w8 b1 ≡ Some (message.htype, b2)
    → number_at w8 b2 ≡ Some (message.hlen, b3)
    → number_at w8 b3 ≡ Some (message.hops, b4)
    → number_at w32 b4 ≡ Some (message.xid, b5)
    → number_at w16 b5 ≡ Some (message.secs, b6)
    → number_at w16 b6 ≡ Some (message.flags, b7)
    → address_at b7 ≡ Some (message.ciaddr, b8)
    → address_at b8 ≡ Some (message.yiaddr, b9)
    → address_at b9 ≡ Some (message.siaddr, b10)
    → address_at b10 ≡ Some (message.giaddr, b11)
    → bytes_at 16 b11 ≡ Some (message.chaddr, b12)
    → terminated_text_at 64 b12 ≡ Some (message.sname, b13)
    → terminated_text_at 128 b13 ≡ Some (message.file, b14)
    → number_at w32 b14 ≡ Some (magic_cookie, rest)
    → read_message bytes ≡ Some (record message { options = read_options rest })
unfolding read_message
read_in_turn message bytes b1 b2 b3 b4 b5 b6 b7 b8 b9 b10 b11 b12 b13 b14 rest op htype hlen hops xid secs flags ciaddr yiaddr siaddr giaddr chaddr sname file cookie =
    rw (op, htype, hlen, hops, xid, secs, flags, ciaddr, yiaddr, siaddr, giaddr, chaddr, sname, file, cookie) refl

-- fields one after the other, in groups or not
grouped : (numbers xid secs flags ciaddr yiaddr siaddr giaddr chaddr sname file cookie options : List ℕ)
    → (numbers ++ (xid ++ (secs ++ flags))) ++ ((ciaddr ++ (yiaddr ++ (siaddr ++ (giaddr ++ chaddr)))) ++ ((sname ++ (file ++ cookie)) ++ options))
    ≡ numbers ++ (xid ++ (secs ++ (flags ++ (ciaddr ++ (yiaddr ++ (siaddr ++ (giaddr ++ (chaddr ++ (sname ++ (file ++ (cookie ++ options)))))))))))
grouped numbers xid secs flags ciaddr yiaddr siaddr giaddr chaddr sname file cookie options = simp append_assoc

-- bytes after four parts
followed : (a b c d more : List ℕ) → (a ++ (b ++ (c ++ d))) ++ more ≡ a ++ (b ++ (c ++ (d ++ more)))
followed a b c d more = simp append_assoc

-- The fields of a message, one after the other, whatever follows.
pub message_back : (message : DhcpV4Message) (more : List ℕ) → MessageReadsBack message → read_message (written_message message ++ more) ≡ Some (read_back message)
unfolding written_message
message_back message more has =
    let rest : List ℕ = written_options message.options ++ more in
    let b14 : List ℕ = to_be_bytes w32 magic_cookie ++ rest in
    let b13 : List ℕ = terminated_text 128 message.file ++ b14 in
    let b12 : List ℕ = terminated_text 64 message.sname ++ b13 in
    let b11 : List ℕ = message.chaddr ++ b12 in
    let b10 : List ℕ = ipv4_octets message.giaddr ++ b11 in
    let b9 : List ℕ = ipv4_octets message.siaddr ++ b10 in
    let b8 : List ℕ = ipv4_octets message.yiaddr ++ b9 in
    let b7 : List ℕ = ipv4_octets message.ciaddr ++ b8 in
    let b6 : List ℕ = to_be_bytes w16 message.flags ++ b7 in
    let b5 : List ℕ = to_be_bytes w16 message.secs ++ b6 in
    let b4 : List ℕ = to_be_bytes w32 message.xid ++ b5 in
    let b3 : List ℕ = message.hops ∷ b4 in
    let b2 : List ℕ = message.hlen ∷ b3 in
    let b1 : List ℕ = message.htype ∷ b2 in
    let is : written_message message ++ more ≡ message.op ∷ b1 =
    followed (written_numbers message) (written_address_fields message) (written_texts message) (written_options message.options) more
    ∙ grouped (message.op ∷ message.htype ∷ message.hlen ∷ message.hops ∷ []) (to_be_bytes w32 message.xid) (to_be_bytes w16 message.secs) (to_be_bytes w16 message.flags)
    (ipv4_octets message.ciaddr) (ipv4_octets message.yiaddr) (ipv4_octets message.siaddr) (ipv4_octets message.giaddr) message.chaddr
    (terminated_text 64 message.sname) (terminated_text 128 message.file) (to_be_bytes w32 magic_cookie) rest in
    ap read_message is
    ∙ read_in_turn message (message.op ∷ b1) b1 b2 b3 b4 b5 b6 b7 b8 b9 b10 b11 b12 b13 b14 rest
    (number_at-byte message.op b1 has.op)
    (number_at-byte message.htype b2 has.htype)
    (number_at-byte message.hlen b3 has.hlen)
    (number_at-byte message.hops b4 has.hops)
    (number_at-to_be_bytes w32 big_endian_32 message.xid b5 has.xid)
    (number_at-to_be_bytes w16 big_endian_16 message.secs b6 has.secs)
    (number_at-to_be_bytes w16 big_endian_16 message.flags b7 has.flags)
    (address_at-octets message.ciaddr b8 has.ciaddr)
    (address_at-octets message.yiaddr b9 has.yiaddr)
    (address_at-octets message.siaddr b10 has.siaddr)
    (address_at-octets message.giaddr b11 has.giaddr)
    (bytes_at-append 16 message.chaddr b12 has.chaddr)
    (terminated_text_at-terminated_text 64 message.sname b13 has.sname)
    (terminated_text_at-terminated_text 128 message.file b14 has.file)
    (number_at-to_be_bytes w32 big_endian_32 magic_cookie rest (lit< tt))
    ∙ ap (λ options. Some (record message { options = options })) (options_map_back message.options more has.options)
