-- The replies of a server read back as they are written, and are short.
use Rattle.std.proofs.Common.{◌≡◌, ℕ, zero, suc, ◌+◌, ◌*◌, ◌/◌, ◌<◌, ◌≤◌, ◌^◌, cond, List, [], ◌∷◌, ◌++◌, length, slice_index, Option, Some, refl, ap, subst, ◌∙◌, arith, length-append, append-nil, lit<}
use Rattle.std.specs.List.{AllByRecursion}
use Rattle.std.specs.Cmp.{nat_cmp_total}
use Rattle.std.specs.Ordering.{nat_cmp, eq_by_cmp}
use Rattle.std.specs.FinMap as map
use Rattle.std.specs.FinMap.{get, insert, empty, get-insert}
use Rattle.std.specs.Int.{w32, to_be_bytes}
use Rattle.std.specs.declared.net.Ipv4Addr.{Ipv4Addr}
use Rattle.std.specs.Net.Addr.{ipv4_octets, ipv4_bits, IsIpv4Addr}
use Rattle.std.proofs.lemmas.Bool.{and_from, le-leb}
use Rattle.std.proofs.lemmas.Nat.{from_be_bytes-to_be_bytes_4}
use Rattle.std.proofs.lemmas.Str.{IsUtf8-nil}
use Rattle.dhcp_wire.specs.Field.{FitsField}
use Rattle.dhcp_wire.proofs.FieldLaws.{length-bytes_high_first}
use Rattle.dhcp4_msg.specs.declared.message.DhcpV4Message.{DhcpV4Message}
use Rattle.dhcp4_msg.specs.declared.message_type.DhcpV4MessageType.{DhcpV4MessageType}
use Rattle.dhcp4_msg.specs.declared.message_type.DhcpV4MessageType.TheVariants as types
use Rattle.dhcp4_msg.specs.declared.option.DhcpV4Option.{DhcpV4Option}
use Rattle.dhcp4_msg.specs.declared.option.DhcpV4Option.TheVariants.{SubnetMask, IpAddressLeaseTime, MessageType, ServerIdentifier, RenewalTime, RebindingTime}
use Rattle.dhcp4_msg.specs.OptionCode.{number_of}
use Rattle.dhcp4_msg.specs.Laws.{ReadsBack, MessageReadsBack, read_back}
use Rattle.dhcp4_msg.specs.Message.{no_address, read_message, written_address_fields, written_message, written_numbers, written_texts}
use Rattle.dhcp4_msg.specs.Options.{OptionMap, with_options, written_options}
use Rattle.dhcp4_msg.specs.Value.{fits, option_code, option_number, written_option, written_value}
use Rattle.dhcp4_msg.proofs.AddedOptions.{Stands, all_added, length-numbers, length-written_options, none_kept, size_of-empty, size_of-with_options, total}
use Rattle.dhcp4_msg.proofs.MessageLaw.{message_back}
use Rattle.dhcp_frame.proofs.Back.{read_frame-frame_bytes}
use Rattle.dhcp4_server.specs.Request.{CanBeAnswered}
use Rattle.dhcp4_server.specs.Reply.{IsFramed, address_of_bits, granting, granting_options, refusing, refusing_options, reply_frame, reply_message}
use Rattle.dhcp4_server.specs.Config.{IsTyped}
use Rattle.dhcp4_server.specs.declared.config.ServerConfig.{ServerConfig}

-- 1. The options of a reply stand.

four : (n : ℕ) → length (to_be_bytes w32 n) ≡ 4
four n = length-bytes_high_first 4 n

mask_stands : (address : Ipv4Addr) → IsIpv4Addr address → Stands (SubnetMask address)
unfolding option_code number_of ReadsBack fits written_value
mask_stands address is = record { is_byte = lit< tt; is_own = refl; fit = and_from _ _ (le-leb _ _ (omega (arith, is.0))) refl; reads_back = is.0 }

server_stands : (address : Ipv4Addr) → IsIpv4Addr address → Stands (ServerIdentifier address)
unfolding option_code number_of ReadsBack fits written_value
server_stands address is = record { is_byte = lit< tt; is_own = refl; fit = and_from _ _ (le-leb _ _ (omega (arith, is.0))) refl; reads_back = is.0 }

type_stands : (kind : DhcpV4MessageType) → Stands (MessageType kind)
unfolding option_code number_of ReadsBack fits written_value
type_stands kind = record { is_byte = lit< tt; is_own = refl; fit = refl; reads_back = tt }

lease_stands : (n : ℕ) → n < 2 ^ 32 → Stands (IpAddressLeaseTime n)
unfolding option_code number_of ReadsBack fits written_value
lease_stands n small = record { is_byte = lit< tt; is_own = refl; fit = and_from _ _ (le-leb (length (to_be_bytes w32 n)) 255 (omega (arith, four n))) refl; reads_back = small }

renewal_stands : (n : ℕ) → n < 2 ^ 32 → Stands (RenewalTime n)
unfolding option_code number_of ReadsBack fits written_value
renewal_stands n small = record { is_byte = lit< tt; is_own = refl; fit = and_from _ _ (le-leb (length (to_be_bytes w32 n)) 255 (omega (arith, four n))) refl; reads_back = small }

rebinding_stands : (n : ℕ) → n < 2 ^ 32 → Stands (RebindingTime n)
unfolding option_code number_of ReadsBack fits written_value
rebinding_stands n small = record { is_byte = lit< tt; is_own = refl; fit = and_from _ _ (le-leb (length (to_be_bytes w32 n)) 255 (omega (arith, four n))) refl; reads_back = small }

half_small : (n bound : ℕ) → n < bound → n / 2 < bound
half_small n bound small = omega arith

eighths_small : (n bound : ℕ) → n < bound → 7 * n / 8 < bound
eighths_small n bound small = omega arith

module _ (config : ServerConfig) (typed : IsTyped config) where
  granting_stands : (kind : DhcpV4MessageType) → AllByRecursion Stands (granting_options config kind)
  granting_stands kind = (
    mask_stands config.mask typed.mask,
    (
      lease_stands config.lease_sec typed.lease,
      (
        type_stands kind,
        (
          server_stands config.ip typed.ip,
          (
            renewal_stands (config.lease_sec / 2) (half_small config.lease_sec (2 ^ 32) typed.lease),
            (rebinding_stands (7 * config.lease_sec / 8) (eighths_small config.lease_sec (2 ^ 32) typed.lease), tt),
          ),
        ),
      ),
    ),
  )

  refusing_stands : AllByRecursion Stands (refusing_options config)
  refusing_stands = (type_stands types.Nack, (server_stands config.ip typed.ip, tt))

-- 2. A reply reads back.

no_text : (n : ℕ) → 0 < n → FitsField n []
no_text n some = record { is_shorter = some; is_utf8 = IsUtf8-nil; has_no_zero = λ k d below. absurd (omega arith) }

reply_reads_back : (message : DhcpV4Message) (yiaddr siaddr : Ipv4Addr) (options : List DhcpV4Option) → CanBeAnswered message → length (ipv4_octets yiaddr) ≡ 4 → length (ipv4_octets siaddr) ≡ 4 → AllByRecursion Stands options →
    MessageReadsBack (reply_message message yiaddr siaddr options)
unfolding reply_message
reply_reads_back message yiaddr siaddr options can y s stand = record {
  op = lit< tt;
  htype = lit< tt;
  hlen = lit< tt;
  hops = lit< tt;
  xid = can.xid;
  secs = lit< tt;
  flags = lit< tt;
  ciaddr = refl;
  yiaddr = y;
  siaddr = s;
  giaddr = refl;
  chaddr = can.chaddr;
  sname = no_text 64 (lit< tt);
  file = no_text 128 (lit< tt);
  options = all_added options empty none_kept stand;
}

back : (message : DhcpV4Message) → MessageReadsBack message → read_message (written_message message) ≡ Some (read_back message)
back message reads = subst (λ (bytes : List ℕ). read_message bytes ≡ Some (read_back message)) (append-nil (written_message message)) (message_back message [] reads)

pub granting_back : (config : ServerConfig) → IsTyped config → (message : DhcpV4Message) (kind : DhcpV4MessageType) (address : ℕ) → CanBeAnswered message →
    read_message (written_message (granting config message kind address)) ≡ Some (read_back (granting config message kind address))
granting_back config typed message kind address can =
    back (granting config message kind address) (reply_reads_back message (address_of_bits address) config.ip (granting_options config kind) can (four address) typed.ip.0 (granting_stands config typed kind))

pub refusing_back : (config : ServerConfig) → IsTyped config → (message : DhcpV4Message) → CanBeAnswered message → read_message (written_message (refusing config message)) ≡ Some (read_back (refusing config message))
refusing_back config typed message can =
    back (refusing config message) (reply_reads_back message no_address no_address (refusing_options config) can refl refl (refusing_stands config typed))

-- 3. What its options say.

abbrev pub look : List DhcpV4Option → Option DhcpV4Option → ℕ → Option DhcpV4Option
look [] found q = found
look (option ∷ list) found q = look list (cond (eq_by_cmp nat_cmp q (option_number option)) (Some option) found) q

pub get-with_options : (list : List DhcpV4Option) (kept : OptionMap) (q : ℕ) → get (with_options kept list) q ≡ look list (get kept q) q
get-with_options [] kept q = refl
get-with_options (option ∷ list) kept q =
    get-with_options list (insert kept (option_number option) option) q
    ∙ ap (λ (found : Option DhcpV4Option). look list found q) (get-insert nat_cmp_total kept (option_number option) option q)

abbrev pub no_options : OptionMap
no_options = empty

pub granting_says : (config : ServerConfig) (message : DhcpV4Message) (kind : DhcpV4MessageType) (address q : ℕ) → get (granting config message kind address).options q ≡ look (granting_options config kind) (get no_options q) q
unfolding reply_message
granting_says config message kind address q = get-with_options (granting_options config kind) empty q

pub refusing_says : (config : ServerConfig) (message : DhcpV4Message) (q : ℕ) → get (refusing config message).options q ≡ look (refusing_options config) (get no_options q) q
unfolding reply_message
refusing_says config message q = get-with_options (refusing_options config) empty q

pub granting_type : (config : ServerConfig) (kind : DhcpV4MessageType) (found : Option DhcpV4Option) → look (granting_options config kind) found 53 ≡ Some (MessageType kind)
unfolding option_code number_of
granting_type config kind found = refl

pub granting_lease : (config : ServerConfig) (kind : DhcpV4MessageType) (found : Option DhcpV4Option) → look (granting_options config kind) found 51 ≡ Some (IpAddressLeaseTime config.lease_sec)
unfolding option_code number_of
granting_lease config kind found = refl

pub granting_server : (config : ServerConfig) (kind : DhcpV4MessageType) (found : Option DhcpV4Option) → look (granting_options config kind) found 54 ≡ Some (ServerIdentifier config.ip)
unfolding option_code number_of
granting_server config kind found = refl

pub refusing_type : (config : ServerConfig) (found : Option DhcpV4Option) → look (refusing_options config) found 53 ≡ Some (MessageType types.Nack)
unfolding option_code number_of
refusing_type config found = refl

-- the fields of a reply as it reads back
pub record HasFields (message reply : DhcpV4Message) (yiaddr siaddr : Ipv4Addr) : Type 0 where
  pub xid : reply.xid ≡ message.xid
  pub yiaddr_is : reply.yiaddr ≡ yiaddr
  pub siaddr_is : reply.siaddr ≡ siaddr

pub reply_fields : (message : DhcpV4Message) (yiaddr siaddr : Ipv4Addr) (options : List DhcpV4Option) → HasFields message (read_back (reply_message message yiaddr siaddr options)) yiaddr siaddr
unfolding reply_message
reply_fields message yiaddr siaddr options = record { xid = refl; yiaddr_is = refl; siaddr_is = refl }

-- 4. A reply is short.

granting_total : (config : ServerConfig) → IsTyped config → (kind : DhcpV4MessageType) → total (granting_options config kind) ≤ 33
unfolding written_option written_value
granting_total config typed kind = omega (arith, typed.mask.0, typed.ip.0, four config.lease_sec, four (config.lease_sec / 2), four (7 * config.lease_sec / 8))

refusing_total : (config : ServerConfig) → IsTyped config → total (refusing_options config) ≤ 33
unfolding written_option written_value
refusing_total config typed = omega (arith, typed.ip.0)

reply_length : (message : DhcpV4Message) (yiaddr siaddr : Ipv4Addr) (options : List DhcpV4Option) → CanBeAnswered message → length (ipv4_octets yiaddr) ≡ 4 → length (ipv4_octets siaddr) ≡ 4 → total options ≤ 33 →
    length (written_message (reply_message message yiaddr siaddr options)) ≤ 300
unfolding reply_message written_message
reply_length message yiaddr siaddr options can y s few =
    let reply = reply_message message yiaddr siaddr options in
    let numbers = written_numbers reply in
    let addresses = written_address_fields reply in
    let texts = written_texts reply in
    let rest = written_options reply.options in
    let none = ipv4_octets no_address in
    let long : length addresses ≡ 32 = omega (
      arith,
      y,
      s,
      can.chaddr,
      length-append none (ipv4_octets yiaddr ++ (ipv4_octets siaddr ++ (none ++ message.chaddr))),
      length-append (ipv4_octets yiaddr) (ipv4_octets siaddr ++ (none ++ message.chaddr)),
      length-append (ipv4_octets siaddr) (none ++ message.chaddr),
      length-append none message.chaddr,
    ) in
    let same : length texts ≡ 196 = refl in
    omega (
      arith,
      length-append numbers (addresses ++ (texts ++ rest)),
      length-append addresses (texts ++ rest),
      length-append texts rest,
      length-numbers reply,
      long,
      same,
      length-written_options reply.options,
      size_of-with_options options map.empty,
      few,
      size_of-empty,
    )

pub granting_short : (config : ServerConfig) → IsTyped config → (message : DhcpV4Message) (kind : DhcpV4MessageType) (address : ℕ) → CanBeAnswered message → length (written_message (granting config message kind address)) ≤ 300
granting_short config typed message kind address can =
    reply_length message (address_of_bits address) config.ip (granting_options config kind) can (four address) typed.ip.0 (granting_total config typed kind)

pub refusing_short : (config : ServerConfig) → IsTyped config → (message : DhcpV4Message) → CanBeAnswered message → length (written_message (refusing config message)) ≤ 300
refusing_short config typed message can = reply_length message no_address no_address (refusing_options config) can refl refl (refusing_total config typed)

-- an address is that of its number
pub bits_of_address : (bits : ℕ) → bits < 2 ^ 32 → ipv4_bits (address_of_bits bits) ≡ bits
unfolding ipv4_bits
bits_of_address bits small = from_be_bytes-to_be_bytes_4 bits small

-- the octets of a number are bytes
pub address_is : (bits : ℕ) → IsIpv4Addr (address_of_bits bits)
address_is bits = (four bits, small)
  where
    small : (k : ℕ) → slice_index (ipv4_octets (address_of_bits bits)) k < 2 ^ 8
    small zero = omega arith
    small (suc zero) = omega arith
    small (suc (suc zero)) = omega arith
    small (suc (suc (suc zero))) = omega arith
    small (suc (suc (suc (suc k)))) = lit< tt

-- a reply reads back from its frame
pub frame_back : (config : ServerConfig) → IsTyped config → (payload : List ℕ) → length payload ≤ 300 → IsFramed (reply_frame config payload)
frame_back config typed payload short =
    read_frame-frame_bytes (reply_frame config payload)
    (record { destination = refl; source = typed.mac })
    (record { source = typed.ip; destination = address_is 4294967295 })
    (record { source = omega arith; destination = omega arith })
    (omega (arith, short))

-- a reply can be answered as its message can
pub reply_answered : (message : DhcpV4Message) (yiaddr siaddr : Ipv4Addr) (options : List DhcpV4Option) → CanBeAnswered message → CanBeAnswered (read_back (reply_message message yiaddr siaddr options))
unfolding reply_message
reply_answered message yiaddr siaddr options can = record { xid = can.xid; chaddr = can.chaddr }
