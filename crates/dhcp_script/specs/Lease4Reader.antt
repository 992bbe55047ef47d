-- The reading of the fields of a lease.
use Rattle.std.specs.Prelude.{ℕ, List, codes, Option, Some, None}
use Rattle.std.specs.declared.net.Ipv4Addr.{Ipv4Addr}
use Rattle.dhcp_wire.specs.Field.{Read}
use Rattle.dhcp_stream.specs.TextReader.{address_in, both, hex_utf8_in, made_of, number_in}
use Rattle.dhcp4_msg.specs.Message.{no_address}
use Rattle.dhcp4_msg.specs.declared.route.DhcpV4ClasslessRoute.{DhcpV4ClasslessRoute}
use Rattle.dhcp_script.specs.declared.lease4.Lease4.{Lease4}
use Rattle.dhcp_script.specs.declared.lease4.reader.LaterFields.{LaterFields}
use Rattle.dhcp_script.specs.declared.version.Version.{Version}
use Rattle.dhcp_script.specs.declared.version.Version.TheVariants.{One, Later}
use Rattle.dhcp_script.specs.FieldReader.{list_in, route_in, three_at, u32_in, word_or}
use Rattle.dhcp_script.specs.Version.{end_of_times}

-- a value, or the word `none`
abbrev pub optional : {A : Type 0} → (List ℕ → Option A) → List ℕ → Option (Option A)
optional value field = word_or (codes "none") value field

-- the subnet mask, the broadcast address and the MTU
abbrev pub link_at : List ℕ → Read (Ipv4Addr × Option Ipv4Addr × Option ℕ)
link_at text = three_at address_in (optional address_in) (optional (number_in 65535)) 32 text

-- the domain name servers, the routers and the NTP servers
abbrev pub servers_at : List ℕ
    → Read (Option (List Ipv4Addr) × Option (List Ipv4Addr) × Option (List Ipv4Addr))
servers_at text =
    three_at (optional (list_in address_in)) (optional (list_in address_in))
    (optional (list_in address_in)) 32 text

-- the host name, the domain name and the routes, to the end of the line
abbrev pub names_at : List ℕ
    → Read (Option (List ℕ) × Option (List ℕ) × Option (List DhcpV4ClasslessRoute))
names_at text =
    three_at (optional hex_utf8_in) (optional hex_utf8_in) (optional (list_in route_in)) 10 text

abbrev pub later_fields_of : (Ipv4Addr × Option Ipv4Addr × Option ℕ)
    × ((Option (List Ipv4Addr) × Option (List Ipv4Addr) × Option (List Ipv4Addr))
    × (Option (List ℕ) × Option (List ℕ) × Option (List DhcpV4ClasslessRoute))) → LaterFields
later_fields_of parts = record {
  subnet_mask = parts.0.0;
  broadcast_addr = parts.0.1;
  mtu = parts.0.2;
  dns_srvs = parts.1.0.0;
  gateways = parts.1.0.1;
  ntp_srvs = parts.1.0.2;
  host_name = parts.1.1.0;
  domain_name = parts.1.1.1;
  classless_routes = parts.1.1.2;
}

-- what the empty lease has of them
abbrev pub no_later_fields : LaterFields
no_later_fields = record {
  subnet_mask = no_address;
  broadcast_addr = None;
  mtu = None;
  dns_srvs = None;
  gateways = None;
  ntp_srvs = None;
  host_name = None;
  domain_name = None;
  classless_routes = None;
}

-- the fields that the later versions alone have
unfoldable pub later_fields_at : Version → List ℕ → Read LaterFields
later_fields_at One text = Some (no_later_fields, text)
later_fields_at Later text =
    made_of later_fields_of (both link_at (both servers_at names_at)) text

abbrev pub lease4_of : (Ipv4Addr × Ipv4Addr × Ipv4Addr) × ((ℕ × ℕ × ℕ) × LaterFields) → Lease4
lease4_of parts = record {
  yiaddr = parts.0.0;
  siaddr = parts.0.1;
  srv_id = parts.0.2;
  t1_sec = parts.1.0.0;
  t2_sec = parts.1.0.1;
  lease_time_sec = parts.1.0.2;
  subnet_mask = parts.1.1.subnet_mask;
  broadcast_addr = parts.1.1.broadcast_addr;
  mtu = parts.1.1.mtu;
  dns_srvs = parts.1.1.dns_srvs;
  gateways = parts.1.1.gateways;
  ntp_srvs = parts.1.1.ntp_srvs;
  host_name = parts.1.1.host_name;
  domain_name = parts.1.1.domain_name;
  classless_routes = parts.1.1.classless_routes;
}

-- the fields of a lease, to the end of the line: the address that is leased, the next server and
-- the server identifier, T1, T2 and the end, and in the later versions the others
unfoldable pub lease4_at : Version → List ℕ → Read Lease4
lease4_at version text =
    made_of lease4_of
    (both (three_at address_in address_in address_in 32)
    (both (three_at u32_in u32_in u32_in (end_of_times version)) (later_fields_at version))) text
