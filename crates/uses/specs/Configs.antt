-- The configurations of clients on eth0, the interface with index 3.
use Rattle.std.specs.Prelude.{ℕ, List, [], ◌∷◌, Some, codes}
use Rattle.std.specs.declared.net.Ipv6Addr.{Ipv6Addr}
use Rattle.dhcp4_lease.specs.Config as v4
use Rattle.dhcp4_lease.specs.declared.message_forms.DhcpV4MessageForms.TheVariants.{Rfc2131}
use Rattle.dhcp6_msg.specs.Config as v6
use Rattle.dhcp6_msg.specs.declared.mode.DhcpV6Mode.TheVariants.{NonTemporaryAddresses}

-- the MAC address of the interface, 02:00:00:00:00:01
abbrev pub mac : List ℕ
mac = 2 ∷ 0 ∷ 0 ∷ 0 ∷ 0 ∷ 1 ∷ []

-- of a client of IPv4 that is known by its MAC address, of type 1, and sends the messages of RFC
-- 2131
abbrev pub config4 : v4.Config
config4 = record (v4.config_of (codes "eth0")) {
  iface_index = 3;
  src_mac = mac;
  client_id = 1 ∷ mac;
  message_forms = Rfc2131;
}

-- of one that names its host foo and asks for static routes, option 33, too
abbrev pub named_config4 : v4.Config
named_config4 = v4.with_extra_requests (record config4 { host_name = codes "foo" }) (33 ∷ [])

-- of a client of IPv6 that asks for an address, sends from this one, and has no identifier yet
abbrev pub config6 : Ipv6Addr → v6.Config
config6 link_local = record (v6.config_of (codes "eth0") NonTemporaryAddresses) {
  iface_index = 3;
  src_ip = link_local;
  src_mac = Some mac;
}
