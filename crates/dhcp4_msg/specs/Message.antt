-- A DHCPv4 message, RFC 2131 section 2: a header of 236 bytes, the cookie 63 82 53 63, and options.
use Rattle.std.specs.Prelude.{◌≡◌, ℕ, ◌≤◌, ◌==◌, length, take, drop, List, [], ◌∷◌, ◌++◌, replicate, Option, Some, None, if◌then◌else◌}
use Rattle.std.specs.Int.{w8, w16, w32, to_be_bytes}
use Rattle.std.specs.FinMap as map
use Rattle.std.specs.Net.Addr.{ipv4_octets}
use Rattle.std.specs.declared.net.Ipv4Addr.{Ipv4Addr}
use Rattle.dhcp_wire.specs.Field.{◌>>=◌, bytes_at, number_at, address_of, address_at, terminated_text_at, terminated_text}
use Rattle.dhcp_wire.specs.Value.{number_in, address_in, text_in}
use Rattle.dhcp4_msg.specs.declared.message.DhcpV4Message.{DhcpV4Message}
use Rattle.dhcp4_msg.specs.Options.{read_options, written_options}

-- what stands between the header and the options, RFC 2131 section 3
abbrev pub magic_cookie : ℕ
magic_cookie = 0x63825363

-- A message reads where its header is whole, with texts that are UTF-8 before their first zero
-- byte, and the cookie stands.
unfoldable pub read_message : List ℕ → Option DhcpV4Message
read_message bytes = do
  op ← number_at w8 bytes
  htype ← number_at w8 op.1
  hlen ← number_at w8 htype.1
  hops ← number_at w8 hlen.1
  xid ← number_at w32 hops.1
  secs ← number_at w16 xid.1
  flags ← number_at w16 secs.1
  ciaddr ← address_at flags.1
  yiaddr ← address_at ciaddr.1
  siaddr ← address_at yiaddr.1
  giaddr ← address_at siaddr.1
  chaddr ← bytes_at 16 giaddr.1
  sname ← terminated_text_at 64 chaddr.1
  file ← terminated_text_at 128 sname.1
  cookie ← number_at w32 file.1
  if cookie.0 == magic_cookie
      then Some (record {
        op = op.0;
        htype = htype.0;
        hlen = hlen.0;
        hops = hops.0;
        xid = xid.0;
        secs = secs.0;
        flags = flags.0;
        ciaddr = ciaddr.0;
        yiaddr = yiaddr.0;
        siaddr = siaddr.0;
        giaddr = giaddr.0;
        chaddr = chaddr.0;
        sname = sname.0;
        file = file.0;
        options = read_options cookie.1;
      })
      else None

-- The fields of a message at their offsets: the options are those from byte 240 on.
pub record IsAtOffsets (bytes : List ℕ) (message : DhcpV4Message) : Type 0 where
  pub long : 240 ≤ length bytes
  pub cookie : number_in w32 (drop 236 bytes) ≡ Some magic_cookie
  pub op : number_in w8 (drop 0 bytes) ≡ Some message.op
  pub htype : number_in w8 (drop 1 bytes) ≡ Some message.htype
  pub hlen : number_in w8 (drop 2 bytes) ≡ Some message.hlen
  pub hops : number_in w8 (drop 3 bytes) ≡ Some message.hops
  pub xid : number_in w32 (drop 4 bytes) ≡ Some message.xid
  pub secs : number_in w16 (drop 8 bytes) ≡ Some message.secs
  pub flags : number_in w16 (drop 10 bytes) ≡ Some message.flags
  pub ciaddr : address_in (drop 12 bytes) ≡ Some message.ciaddr
  pub yiaddr : address_in (drop 16 bytes) ≡ Some message.yiaddr
  pub siaddr : address_in (drop 20 bytes) ≡ Some message.siaddr
  pub giaddr : address_in (drop 24 bytes) ≡ Some message.giaddr
  pub chaddr : take 16 (drop 28 bytes) ≡ message.chaddr
  pub sname : text_in (take 64 (drop 44 bytes)) ≡ Some message.sname
  pub file : text_in (take 128 (drop 108 bytes)) ≡ Some message.file
  pub options : read_options (drop 240 bytes) ≡ message.options

-- the fields of a message before its addresses, as they are written
abbrev pub written_numbers : DhcpV4Message → List ℕ
written_numbers message =
    (message.op ∷ message.htype ∷ message.hlen ∷ message.hops ∷ [])
    ++ (to_be_bytes w32 message.xid
    ++ (to_be_bytes w16 message.secs ++ to_be_bytes w16 message.flags))

-- its addresses, of which chaddr is the last
abbrev pub written_address_fields : DhcpV4Message → List ℕ
written_address_fields message =
    ipv4_octets message.ciaddr
    ++ (ipv4_octets message.yiaddr
    ++ (ipv4_octets message.siaddr ++ (ipv4_octets message.giaddr ++ message.chaddr)))

-- its texts, of 63 and 127 bytes at most, and the cookie
abbrev pub written_texts : DhcpV4Message → List ℕ
written_texts message =
    terminated_text 64 message.sname
    ++ (terminated_text 128 message.file ++ to_be_bytes w32 magic_cookie)

-- the bytes of a message
unfoldable pub written_message : DhcpV4Message → List ℕ
written_message message =
    written_numbers message
    ++ (written_address_fields message
    ++ (written_texts message ++ written_options message.options))

-- the address 0.0.0.0
abbrev pub no_address : Ipv4Addr
no_address = address_of (replicate 4 0)

-- a message of a client over Ethernet, with every other field zero or empty
unfoldable pub empty_message : DhcpV4Message
empty_message = record {
  op = 1;
  htype = 1;
  hlen = 6;
  hops = 0;
  xid = 0;
  secs = 0;
  flags = 0;
  ciaddr = no_address;
  yiaddr = no_address;
  siaddr = no_address;
  giaddr = no_address;
  chaddr = replicate 16 0;
  sname = [];
  file = [];
  options = map.empty;
}
