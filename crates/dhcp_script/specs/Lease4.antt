-- The lease of an IPv4 script: which lease it stands for, and the fields of its text.
use Rattle.std.specs.Prelude.{◌≡◌, ℕ, Bool, ◌&&◌, nat_le, ◌<◌, ◌^◌, List, [], ◌∷◌, ◌++◌, codes, IfSome, All}
use Rattle.std.specs.Fmt.{decimal}
use Rattle.std.specs.Net.Addr.{IsIpv4Addr}
use Rattle.std.specs.declared.net.Ipv4Addr.{Ipv4Addr}
use Rattle.dhcp_stream.specs.HexText.{IsText, hex_text}
use Rattle.dhcp_stream.specs.Line.{spaced}
use Rattle.dhcp_stream.specs.Number.{address_text}
use Rattle.dhcp4_msg.specs.declared.route.DhcpV4ClasslessRoute.{DhcpV4ClasslessRoute}
use Rattle.dhcp4_lease.specs.Lease.{Lease, empty_lease}
use Rattle.dhcp_script.specs.declared.lease4.Lease4.{Lease4}
use Rattle.dhcp_script.specs.declared.version.Version.{Version}
use Rattle.dhcp_script.specs.declared.version.Version.TheVariants.{One, Later}
use Rattle.dhcp_script.specs.Field.{list_text, unless_none}

-- whether a lease is not rebound before it is renewed, and does not end before it is rebound
abbrev pub are_times_in_order : Lease4 → Bool
are_times_in_order lease =
    nat_le lease.t1_sec lease.t2_sec && nat_le lease.t2_sec lease.lease_time_sec

-- a lease with the addresses, times and MTU of these fields
abbrev pub with_numbers : Lease4 → Lease → Lease
with_numbers fields lease = record lease {
  yiaddr = fields.yiaddr;
  siaddr = fields.siaddr;
  srv_id = fields.srv_id;
  t1_sec = fields.t1_sec;
  t2_sec = fields.t2_sec;
  lease_time_sec = fields.lease_time_sec;
  subnet_mask = fields.subnet_mask;
  broadcast_addr = fields.broadcast_addr;
  mtu = fields.mtu;
}

-- a lease with the lists of addresses of these fields
abbrev pub with_servers : Lease4 → Lease → Lease
with_servers fields lease = record lease {
  dns_srvs = fields.dns_srvs;
  gateways = fields.gateways;
  ntp_srvs = fields.ntp_srvs;
}

-- a lease with the names and routes of these fields
abbrev pub with_names : Lease4 → Lease → Lease
with_names fields lease = record lease {
  host_name = fields.host_name;
  domain_name = fields.domain_name;
  classless_routes = fields.classless_routes;
}

-- the lease with these fields, and with those of the empty lease in all others
unfoldable pub lease_with : Lease4 → Lease
lease_with fields = with_names fields (with_servers fields (with_numbers fields empty_lease))

-- the fields of a lease that its text has
abbrev pub fields_of : Lease → Lease4
fields_of lease = record {
  yiaddr = lease.yiaddr;
  siaddr = lease.siaddr;
  srv_id = lease.srv_id;
  t1_sec = lease.t1_sec;
  t2_sec = lease.t2_sec;
  lease_time_sec = lease.lease_time_sec;
  subnet_mask = lease.subnet_mask;
  broadcast_addr = lease.broadcast_addr;
  mtu = lease.mtu;
  dns_srvs = lease.dns_srvs;
  gateways = lease.gateways;
  ntp_srvs = lease.ntp_srvs;
  host_name = lease.host_name;
  domain_name = lease.domain_name;
  classless_routes = lease.classless_routes;
}

-- a route: its destination, the length of its prefix and its router, with slashes between
abbrev pub route_text : DhcpV4ClasslessRoute → List ℕ
route_text route =
    address_text route.destination ++ codes "/" ++ decimal route.prefix_length
    ++ codes "/" ++ address_text route.router

-- a list of addresses
abbrev pub addresses_text : List Ipv4Addr → List ℕ
addresses_text addresses = list_text address_text addresses

-- the addresses and the times of a lease
abbrev pub first_fields : Lease4 → List (List ℕ)
first_fields lease =
    address_text lease.yiaddr ∷ address_text lease.siaddr ∷ address_text lease.srv_id
    ∷ decimal lease.t1_sec ∷ decimal lease.t2_sec ∷ decimal lease.lease_time_sec ∷ []

-- its other fields
abbrev pub later_fields : Lease4 → List (List ℕ)
later_fields lease =
    address_text lease.subnet_mask
    ∷ unless_none address_text lease.broadcast_addr
    ∷ unless_none decimal lease.mtu
    ∷ unless_none addresses_text lease.dns_srvs
    ∷ unless_none addresses_text lease.gateways
    ∷ unless_none addresses_text lease.ntp_srvs
    ∷ unless_none hex_text lease.host_name
    ∷ unless_none hex_text lease.domain_name
    ∷ unless_none (list_text route_text) lease.classless_routes ∷ []

-- the fields of a lease
unfoldable pub lease_text : Lease4 → List ℕ
lease_text lease = spaced (first_fields lease ++ later_fields lease)

-- the fields that it has in a version
abbrev pub versioned_lease_text : Version → Lease4 → List ℕ
versioned_lease_text One lease = spaced (first_fields lease)
versioned_lease_text Later lease = lease_text lease

-- a route whose numbers fit their types
pub record IsRoute (route : DhcpV4ClasslessRoute) : Type 0 where
  pub destination : IsIpv4Addr route.destination
  pub prefix_length : route.prefix_length < 2 ^ 8
  pub router : IsIpv4Addr route.router

-- a lease whose numbers fit their types, and whose texts are UTF-8
pub record IsLease4 (lease : Lease4) : Type 0 where
  pub yiaddr : IsIpv4Addr lease.yiaddr
  pub siaddr : IsIpv4Addr lease.siaddr
  pub srv_id : IsIpv4Addr lease.srv_id
  pub t1_sec : lease.t1_sec < 2 ^ 32
  pub t2_sec : lease.t2_sec < 2 ^ 32
  pub lease_time_sec : lease.lease_time_sec < 2 ^ 32
  pub subnet_mask : IsIpv4Addr lease.subnet_mask
  pub broadcast_addr : IfSome lease.broadcast_addr IsIpv4Addr
  pub mtu : IfSome lease.mtu (λ bytes. bytes < 2 ^ 16)
  pub dns_srvs : IfSome lease.dns_srvs (All IsIpv4Addr)
  pub gateways : IfSome lease.gateways (All IsIpv4Addr)
  pub ntp_srvs : IfSome lease.ntp_srvs (All IsIpv4Addr)
  pub host_name : IfSome lease.host_name IsText
  pub domain_name : IfSome lease.domain_name IsText
  pub classless_routes : IfSome lease.classless_routes (All IsRoute)

-- the same addresses and times, and the other fields of the empty lease
abbrev pub first_alone : Lease4 → Lease4
first_alone lease = record (fields_of empty_lease) {
  yiaddr = lease.yiaddr;
  siaddr = lease.siaddr;
  srv_id = lease.srv_id;
  t1_sec = lease.t1_sec;
  t2_sec = lease.t2_sec;
  lease_time_sec = lease.lease_time_sec;
}

-- a lease that has a text in a version: in version 1 one whose other fields are those of the empty
-- lease
abbrev pub HasLeaseText : Version → Lease4 → Type 0
HasLeaseText One lease = IsLease4 lease × (lease ≡ first_alone lease)
HasLeaseText Later lease = IsLease4 lease
