-- Computed facts of the configurations.
use Rattle.std.proofs.Common.{◌≡◌, ◌&&◌, not, refl, ℕ, Bool, true, false, List, Ok, None}
use Rattle.std.specs.Prelude.{codes}
use Rattle.std.specs.declared.net.Ipv6Addr.{Ipv6Addr}
use Rattle.dhcp_wire.specs.Mac.{byte_of_part}
use Rattle.dhcp4_lease.specs.Config.{mac_of_text, with_mac}
use Rattle.dhcp4_lease.specs.Config as v4
use Rattle.dhcp4_client.specs.Client as client4
use Rattle.dhcp6_opt.specs.Duid.{written_duid}
use Rattle.dhcp6_msg.specs.Config as v6
use Rattle.dhcp6_msg.specs.Lease.{is_unspecified}
use Rattle.dhcp6_client.specs.Client as client6
use Rattle.dhcp6_info.specs.Client as client_info
use Rattle.uses.specs.Configs.{config4, config6, mac}

pub mac_of_text-mac : mac_of_text (codes "02:00:00:00:00:01") ≡ Ok mac
unfolding mac_of_text byte_of_part
mac_of_text-mac = refl

pub with_mac-Ok : (config : v4.Config) (bytes : List ℕ) →
    with_mac config (Ok bytes) ≡ Ok (record config { src_mac = bytes })
unfolding with_mac
with_mac-Ok config bytes = refl

pub can_begin-config4 : client4.can_begin config4 None ≡ true
unfolding v4.is_within_limits v4.config_of
can_begin-config4 = refl

-- The configuration is within its limits, so that only the address can be missing.
and_true : (b : Bool) → b && true && true && true ≡ b
and_true true = refl
and_true false = refl

pub can_begin-config6 : (link_local : Ipv6Addr) →
    client6.can_begin (config6 link_local) None ≡ not (is_unspecified link_local)
unfolding v6.is_within_limits v6.config_of written_duid
can_begin-config6 link_local = and_true (not (is_unspecified link_local))

named_and_few : (b : Bool) → b && true && true ≡ b
named_and_few true = refl
named_and_few false = refl

pub can_inform-config6 : (link_local : Ipv6Addr) →
    client_info.can_begin (config6 link_local) ≡ not (is_unspecified link_local)
unfolding v6.config_of
can_inform-config6 link_local = named_and_few (not (is_unspecified link_local))

pub ruleset facts = (mac_of_text-mac, with_mac-Ok, can_begin-config4, can_begin-config6, can_inform-config6)
