-- The fields of a lease of an IPv4 script are read in one way alone.
use Rattle.std.proofs.Common.{◌≡◌, ◌≢◌, ℕ, zero, suc, ◌<◌, ◌≤◌, ◌^◌, List, [], ◌∷◌, ◌++◌, get_or, Option, Some, None, refl, sym, subst, ap, append_assoc, arith, codes}
use Rattle.std.specs.Prelude.{All, IfSome}
use Rattle.std.specs.Fmt.{decimal}
use Rattle.std.specs.Net.Addr.{IsIpv4Addr, ipv4_octets}
use Rattle.std.specs.declared.net.Ipv4Addr.{Ipv4Addr}
use Rattle.dhcp_stream.specs.HexText.{IsText, hex_text}
use Rattle.dhcp_stream.specs.Number.{address_text}
use Rattle.dhcp_stream.specs.TextReader.{address_in, hex_utf8_in, in_field, number_in}
use Rattle.dhcp_stream.proofs.CodecLaws.{HasNo, HasNo-test, IsCodec, IsCodec-as, IsCodec-both, IsCodec-in_field, IsCodec-made_of, IsValue, IsValue-as, same_read}
use Rattle.dhcp_stream.proofs.ValueLemmas.{IsValue-address, IsValue-hex_utf8, IsValue-number}
use Rattle.dhcp4_lease.specs.Lease.{empty_lease}
use Rattle.dhcp4_msg.specs.Message.{no_address}
use Rattle.dhcp4_msg.specs.declared.route.DhcpV4ClasslessRoute.{DhcpV4ClasslessRoute}
use Rattle.dhcp_script.specs.Field.{list_text, unless_none}
use Rattle.dhcp_script.specs.declared.lease4.Lease4.{Lease4}
use Rattle.dhcp_script.specs.declared.lease4.reader.LaterFields.{LaterFields}
use Rattle.dhcp_script.specs.declared.version.Version.{Version}
use Rattle.dhcp_script.specs.declared.version.Version.TheVariants.{One, Later}
use Rattle.dhcp_script.specs.Lease4Reader.{lease4_at, lease4_of, link_at, names_at, no_later_fields, servers_at, later_fields_at, later_fields_of}
use Rattle.dhcp_script.specs.FieldReader.{held_at, list_in, route_in, route_of, three_at, u32_in, word_or}
use Rattle.dhcp_script.specs.Lease4.{HasLeaseText, IsLease4, IsRoute, addresses_text, first_alone, lease_text, route_text, versioned_lease_text}
use Rattle.dhcp_script.specs.Version.{end_of_times}
use Rattle.dhcp_script.proofs.Clear.{HasNo-address, HasNo-decimal, HasNo-hex, HasNo-list, HasNo-number, HasNo-route, other_word}
use Rattle.dhcp_script.proofs.HeldLaws.{BeginsOtherwise, IsCodec-held}
use Rattle.dhcp_script.proofs.ValueLaws.{IsCodec-triple, IsValue-list, IsValue-made_of, IsValue-then, end_of_times-below, optional, u32_field}

-- ---- a route

route_parts : DhcpV4ClasslessRoute → (Ipv4Addr × ℕ) × Ipv4Addr
route_parts route = ((route.destination, route.prefix_length), route.router)

pub IsValue-route : IsValue route_text IsRoute route_in
unfolding route_in route_parts
IsValue-route =
    let destination = IsCodec-in_field IsValue-address 47 (λ address fits. HasNo-address 47 address fits (λ e. omega arith) (λ a b. omega arith)) in
    let width = IsCodec-in_field (IsValue-number 255 (omega arith)) 47 (λ n small. HasNo-decimal 47 n (omega arith) (omega arith)) in
    IsValue-as (IsValue-made_of (IsValue-then (IsCodec-both destination width) IsValue-address) route_of route_parts (λ x. refl) (λ route. refl))
    (λ route. simp append_assoc)
    (λ route fits. record { destination = fits.0.0; prefix_length = omega (arith, fits.0.1); router = fits.1 })
    (λ route fits. ((fits.destination, omega (arith, fits.prefix_length)), fits.router))

-- ---- the fields

addresses : IsValue addresses_text (All IsIpv4Addr) (list_in address_in)
addresses =
    IsValue-list IsValue-address (λ address fits. HasNo-address 44 address fits (λ e. omega arith) (λ a b. omega arith))
    (λ address fits. other_word 45 [] (address_text address) (HasNo-address 45 address fits (λ e. omega arith) (λ a b. omega arith)))

routes : IsValue (list_text route_text) (All IsRoute) (list_in route_in)
routes =
    IsValue-list IsValue-route (λ route fits. HasNo-route 44 route fits (λ e. omega arith) (λ e. omega arith) (λ a b. omega arith))
    (λ route fits. other_word 45 [] (route_text route) (HasNo-route 45 route fits (λ e. omega arith) (λ e. omega arith) (λ a b. omega arith)))

pub address_field : IsCodec (λ address. address_text address ++ 32 ∷ []) IsIpv4Addr (in_field address_in 32)
address_field = IsCodec-in_field IsValue-address 32 (λ address fits. HasNo-address 32 address fits (λ e. omega arith) (λ a b. omega arith))

broadcast_field : IsCodec (λ o. unless_none address_text o ++ 32 ∷ []) (λ o. IfSome o IsIpv4Addr) (in_field (word_or (codes "none") address_in) 32)
broadcast_field =
    optional IsValue-address (λ address fits. HasNo-address 110 address fits (λ e. omega arith) (λ a b. omega arith)) 32 (HasNo-test 32 (codes "none") refl)
    (λ address fits. HasNo-address 32 address fits (λ e. omega arith) (λ a b. omega arith))

mtu_field : IsCodec (λ o. unless_none decimal o ++ 32 ∷ []) (λ o. IfSome o (λ n. n ≤ 65535)) (in_field (word_or (codes "none") (number_in 65535)) 32)
mtu_field =
    optional (IsValue-number 65535 (omega arith)) (λ n small. HasNo-number 110 n (omega arith) (λ a b. omega arith)) 32 (HasNo-test 32 (codes "none") refl)
    (λ n small. HasNo-decimal 32 n (omega arith) (omega arith))

servers_field : IsCodec (λ o. unless_none addresses_text o ++ 32 ∷ []) (λ o. IfSome o (All IsIpv4Addr)) (in_field (word_or (codes "none") (list_in address_in)) 32)
servers_field =
    let clear : (end : ℕ) → end ≢ 46 → (48 ≤ end → end ≤ 57 → ⊥) → end ≢ 44 → end ≢ 45 → (xs : List Ipv4Addr) → All IsIpv4Addr xs → HasNo end (addresses_text xs) =
    λ end dot other comma dash xs fit. HasNo-list address_text IsIpv4Addr end (λ address fits. HasNo-address end address fits dot other) comma dash xs fit in
    optional addresses (clear 110 (λ e. omega arith) (λ a b. omega arith) (λ e. omega arith) (λ e. omega arith)) 32 (HasNo-test 32 (codes "none") refl)
    (clear 32 (λ e. omega arith) (λ a b. omega arith) (λ e. omega arith) (λ e. omega arith))

name_field : IsCodec (λ o. unless_none hex_text o ++ 32 ∷ []) (λ o. IfSome o IsText) (in_field (word_or (codes "none") hex_utf8_in) 32)
name_field =
    optional IsValue-hex_utf8 (λ text fits. HasNo-hex 110 text fits.are_bytes (λ e. omega arith) refl) 32 (HasNo-test 32 (codes "none") refl)
    (λ text fits. HasNo-hex 32 text fits.are_bytes (λ e. omega arith) refl)

routes_field : IsCodec (λ o. unless_none (list_text route_text) o ++ 10 ∷ []) (λ o. IfSome o (All IsRoute)) (in_field (word_or (codes "none") (list_in route_in)) 10)
routes_field =
    let clear : (end : ℕ) → end ≢ 46 → end ≢ 47 → (48 ≤ end → end ≤ 57 → ⊥) → end ≢ 44 → end ≢ 45 → (xs : List DhcpV4ClasslessRoute) → All IsRoute xs → HasNo end (list_text route_text xs) =
    λ end dot slash other comma dash xs fit. HasNo-list route_text IsRoute end (λ route fits. HasNo-route end route fits dot slash other) comma dash xs fit in
    optional routes (clear 110 (λ e. omega arith) (λ e. omega arith) (λ a b. omega arith) (λ e. omega arith) (λ e. omega arith)) 10 (HasNo-test 10 (codes "none") refl)
    (clear 10 (λ e. omega arith) (λ e. omega arith) (λ a b. omega arith) (λ e. omega arith) (λ e. omega arith))

-- ---- the lease

addresses_print : Ipv4Addr × Ipv4Addr × Ipv4Addr → List ℕ
addresses_print x = (address_text x.0 ++ 32 ∷ []) ++ ((address_text x.1 ++ 32 ∷ []) ++ (address_text x.2 ++ 32 ∷ []))

AddressesFit : Ipv4Addr × Ipv4Addr × Ipv4Addr → Type 0
AddressesFit x = IsIpv4Addr x.0 × (IsIpv4Addr x.1 × IsIpv4Addr x.2)

codec_addresses : IsCodec addresses_print AddressesFit (three_at address_in address_in address_in 32)
unfolding three_at addresses_print AddressesFit
codec_addresses = IsCodec-triple address_field address_field address_field

times_print : Version → ℕ × ℕ × ℕ → List ℕ
times_print version x = (decimal x.0 ++ 32 ∷ []) ++ ((decimal x.1 ++ 32 ∷ []) ++ (decimal x.2 ++ end_of_times version ∷ []))

TimesFit : ℕ × ℕ × ℕ → Type 0
TimesFit x = (x.0 ≤ 4294967295) × ((x.1 ≤ 4294967295) × (x.2 ≤ 4294967295))

codec_times : (version : Version) → IsCodec (times_print version) TimesFit (three_at u32_in u32_in u32_in (end_of_times version))
unfolding three_at times_print TimesFit
codec_times version =
    let spaced = u32_field 32 (omega arith) in
    IsCodec-triple spaced spaced (u32_field (end_of_times version) (end_of_times-below version))

link_print : Ipv4Addr × Option Ipv4Addr × Option ℕ → List ℕ
link_print x = (address_text x.0 ++ 32 ∷ []) ++ ((unless_none address_text x.1 ++ 32 ∷ []) ++ (unless_none decimal x.2 ++ 32 ∷ []))

LinkFits : Ipv4Addr × Option Ipv4Addr × Option ℕ → Type 0
LinkFits x = IsIpv4Addr x.0 × (IfSome x.1 IsIpv4Addr × IfSome x.2 (λ n. n ≤ 65535))

codec_link : IsCodec link_print LinkFits link_at
unfolding three_at link_print LinkFits
codec_link = IsCodec-triple address_field broadcast_field mtu_field

servers_print : Option (List Ipv4Addr) × Option (List Ipv4Addr) × Option (List Ipv4Addr) → List ℕ
servers_print x = (unless_none addresses_text x.0 ++ 32 ∷ []) ++ ((unless_none addresses_text x.1 ++ 32 ∷ []) ++ (unless_none addresses_text x.2 ++ 32 ∷ []))

ServersFit : Option (List Ipv4Addr) × Option (List Ipv4Addr) × Option (List Ipv4Addr) → Type 0
ServersFit x = IfSome x.0 (All IsIpv4Addr) × (IfSome x.1 (All IsIpv4Addr) × IfSome x.2 (All IsIpv4Addr))

codec_servers : IsCodec servers_print ServersFit servers_at
unfolding three_at servers_print ServersFit
codec_servers = IsCodec-triple servers_field servers_field servers_field

names_print : Option (List ℕ) × Option (List ℕ) × Option (List DhcpV4ClasslessRoute) → List ℕ
names_print x = (unless_none hex_text x.0 ++ 32 ∷ []) ++ ((unless_none hex_text x.1 ++ 32 ∷ []) ++ (unless_none (list_text route_text) x.2 ++ 10 ∷ []))

NamesFit : Option (List ℕ) × Option (List ℕ) × Option (List DhcpV4ClasslessRoute) → Type 0
NamesFit x = IfSome x.0 IsText × (IfSome x.1 IsText × IfSome x.2 (All IsRoute))

codec_names : IsCodec names_print NamesFit names_at
unfolding three_at names_print NamesFit
codec_names = IsCodec-triple name_field name_field routes_field

later_parts : LaterFields → (Ipv4Addr × Option Ipv4Addr × Option ℕ)
    × ((Option (List Ipv4Addr) × Option (List Ipv4Addr) × Option (List Ipv4Addr)) × (Option (List ℕ) × Option (List ℕ) × Option (List DhcpV4ClasslessRoute)))
later_parts x = (
  (x.subnet_mask, x.broadcast_addr, x.mtu),
  ((x.dns_srvs, x.gateways, x.ntp_srvs), (x.host_name, x.domain_name, x.classless_routes)),
)

later_print : Version → LaterFields → List ℕ
later_print One x = []
later_print Later x = link_print (later_parts x).0 ++ (servers_print (later_parts x).1.0 ++ names_print (later_parts x).1.1)

LaterFits : Version → LaterFields → Type 0
LaterFits One x = x ≡ no_later_fields
LaterFits Later x = LinkFits (later_parts x).0 × (ServersFit (later_parts x).1.0 × NamesFit (later_parts x).1.1)

codec_later : (version : Version) → IsCodec (later_print version) (LaterFits version) (later_fields_at version)
unfolding later_fields_at later_parts later_print LaterFits
codec_later One = record {
  sound = λ text x rest h. let parts = same_read no_later_fields x text rest h in (parts.1, sym parts.0);
  complete = λ x rest fits. ap (λ (fields : LaterFields). Some (fields, rest)) (sym fits);
}
codec_later Later = IsCodec-made_of (IsCodec-both codec_link (IsCodec-both codec_servers codec_names)) later_fields_of later_parts (λ x. refl) (λ y. refl)

-- what a lease has of them
later_in : Lease4 → LaterFields
later_in lease = record {
  subnet_mask = lease.subnet_mask;
  broadcast_addr = lease.broadcast_addr;
  mtu = lease.mtu;
  dns_srvs = lease.dns_srvs;
  gateways = lease.gateways;
  ntp_srvs = lease.ntp_srvs;
  host_name = lease.host_name;
  domain_name = lease.domain_name;
  classless_routes = lease.classless_routes;
}

lease_parts : Lease4 → (Ipv4Addr × Ipv4Addr × Ipv4Addr) × ((ℕ × ℕ × ℕ) × LaterFields)
lease_parts lease = (
  (lease.yiaddr, lease.siaddr, lease.srv_id),
  ((lease.t1_sec, lease.t2_sec, lease.lease_time_sec), later_in lease),
)

-- an MTU of 16 bits, either way
mtu_to : (o : Option ℕ) → IfSome o (λ n. n ≤ 65535) → IfSome o (λ n. n < 2 ^ 16)
mtu_to None fits = tt
mtu_to (Some n) fits = omega arith

mtu_from : (o : Option ℕ) → IfSome o (λ n. n < 2 ^ 16) → IfSome o (λ n. n ≤ 65535)
mtu_from None fits = tt
mtu_from (Some n) fits = omega arith

-- the line of a lease, by its parts
lease_line : (version : Version) (lease : Lease4) → List ℕ
lease_line version lease =
    addresses_print (lease_parts lease).0 ++ (times_print version (lease_parts lease).1.0 ++ later_print version (later_in lease))

lease_line-is : (version : Version) (lease : Lease4) → lease_line version lease ≡ versioned_lease_text version lease ++ 10 ∷ []
unfolding lease_line lease_text lease_parts later_in later_parts addresses_print times_print later_print link_print servers_print names_print
lease_line-is One lease = simp append_assoc
lease_line-is Later lease = simp append_assoc

FirstFits : Lease4 → Type 0
FirstFits lease = AddressesFit (lease_parts lease).0 × TimesFit (lease_parts lease).1.0

first_from : (lease : Lease4) → IsLease4 lease → FirstFits lease
unfolding FirstFits lease_parts AddressesFit TimesFit
first_from lease fits = (
  (fits.yiaddr, (fits.siaddr, fits.srv_id)),
  ((let small = fits.t1_sec in omega arith), ((let small = fits.t2_sec in omega arith), (let small = fits.lease_time_sec in omega arith))),
)

-- the address 0.0.0.0 is one
no_address-fits : IsIpv4Addr no_address
no_address-fits = (refl, zero_octet)
  where
    zero_octet : (k : ℕ) → get_or (ipv4_octets no_address) k 0 < 2 ^ 8
    zero_octet zero = omega arith
    zero_octet (suc zero) = omega arith
    zero_octet (suc (suc zero)) = omega arith
    zero_octet (suc (suc (suc zero))) = omega arith
    zero_octet (suc (suc (suc (suc k)))) = omega arith

first_alone-fits : (lease : Lease4) → FirstFits lease → IsLease4 (first_alone lease)
unfolding FirstFits lease_parts AddressesFit TimesFit empty_lease
first_alone-fits lease fits = record {
  yiaddr = fits.0.0;
  siaddr = fits.0.1.0;
  srv_id = fits.0.1.1;
  t1_sec = (let small = fits.1.0 in omega arith);
  t2_sec = (let small = fits.1.1.0 in omega arith);
  lease_time_sec = (let small = fits.1.1.1 in omega arith);
  subnet_mask = no_address-fits;
  broadcast_addr = tt;
  mtu = tt;
  dns_srvs = tt;
  gateways = tt;
  ntp_srvs = tt;
  host_name = tt;
  domain_name = tt;
  classless_routes = tt;
}

PartsFit : Version → Lease4 → Type 0
PartsFit version lease = AddressesFit (lease_parts lease).0 × (TimesFit (lease_parts lease).1.0 × LaterFits version (later_in lease))

fits_to : (version : Version) (lease : Lease4) → PartsFit version lease → HasLeaseText version lease
unfolding PartsFit FirstFits LaterFits lease_parts later_in later_parts AddressesFit TimesFit LinkFits ServersFit NamesFit empty_lease
fits_to One lease fits =
    let same : lease ≡ first_alone lease = ap (λ (fields : LaterFields). lease4_of ((lease_parts lease).0, ((lease_parts lease).1.0, fields))) fits.1.1 in
    (subst (λ (l : Lease4). IsLease4 l) (sym same) (first_alone-fits lease (fits.0, fits.1.0)), same)
fits_to Later lease fits = record {
  yiaddr = fits.0.0;
  siaddr = fits.0.1.0;
  srv_id = fits.0.1.1;
  t1_sec = (let small = fits.1.0.0 in omega arith);
  t2_sec = (let small = fits.1.0.1.0 in omega arith);
  lease_time_sec = (let small = fits.1.0.1.1 in omega arith);
  subnet_mask = fits.1.1.0.0;
  broadcast_addr = fits.1.1.0.1.0;
  mtu = mtu_to lease.mtu fits.1.1.0.1.1;
  dns_srvs = fits.1.1.1.0.0;
  gateways = fits.1.1.1.0.1.0;
  ntp_srvs = fits.1.1.1.0.1.1;
  host_name = fits.1.1.1.1.0;
  domain_name = fits.1.1.1.1.1.0;
  classless_routes = fits.1.1.1.1.1.1;
}

fits_from : (version : Version) (lease : Lease4) → HasLeaseText version lease → PartsFit version lease
unfolding PartsFit FirstFits LaterFits later_in later_parts LinkFits ServersFit NamesFit empty_lease
fits_from One lease fits = let first = first_from lease fits.0 in (first.0, (first.1, ap later_in fits.1))
fits_from Later lease fits =
    let first = first_from lease fits in (
      first.0,
      (
        first.1,
        (
          (fits.subnet_mask, (fits.broadcast_addr, mtu_from lease.mtu fits.mtu)),
          ((fits.dns_srvs, (fits.gateways, fits.ntp_srvs)), (fits.host_name, (fits.domain_name, fits.classless_routes))),
        ),
      ),
    )

-- the line of a lease
pub IsCodec-lease : (version : Version) → IsCodec (λ lease. versioned_lease_text version lease ++ 10 ∷ []) (HasLeaseText version) (lease4_at version)
unfolding lease4_at lease_parts later_in lease_line PartsFit
IsCodec-lease version =
    IsCodec-as (IsCodec-made_of (IsCodec-both codec_addresses (IsCodec-both (codec_times version) (codec_later version))) lease4_of lease_parts (λ x. refl) (λ y. refl))
    (lease_line-is version) (fits_to version) (fits_from version)

-- a lease that has a text is one
is_lease : (version : Version) (lease : Lease4) → HasLeaseText version lease → IsLease4 lease
is_lease One lease fits = fits.0
is_lease Later lease fits = fits

-- the text of a lease begins with its address
begins_with : (version : Version) (lease : Lease4) → (more : List ℕ) × (versioned_lease_text version lease ≡ address_text lease.yiaddr ++ 32 ∷ more)
unfolding lease_text
begins_with One lease = (_, refl)
begins_with Later lease = (_, refl)

-- an address holds no `o`
begins : (version : Version) (lease : Lease4) → HasLeaseText version lease → BeginsOtherwise (versioned_lease_text version lease)
begins version lease fits =
    let front = begins_with version lease in
    record {
      field = address_text lease.yiaddr;
      more = front.0;
      is = front.1;
      clear = HasNo-address 111 lease.yiaddr (is_lease version lease fits).yiaddr (λ e. omega arith) (λ a b. omega arith);
    }

-- a lease or the word `none`, to the end of the line
pub IsCodec-held_lease : (version : Version) → IsCodec (λ o. unless_none (versioned_lease_text version) o ++ 10 ∷ []) (λ o. IfSome o (HasLeaseText version)) (held_at (lease4_at version))
IsCodec-held_lease version = IsCodec-held (IsCodec-lease version) (begins version)
