-- The configuration that a Reply gives to a client without an address: RFC 8415 sections 18.2.10.4
-- and 21.23, RFC 3646, RFC 5908.
use Rattle.std.specs.Prelude.{ℕ, max, ◌==◌, ◌&&◌, Bool, List, [], ◌∷◌, drop, Option, Some, None, is_some, unwrap_or, option_map, if◌then◌else◌}
use Rattle.std.specs.Int.{w32}
use Rattle.std.specs.Option.{option_or}
use Rattle.std.specs.declared.net.Ipv6Addr.{Ipv6Addr}
use Rattle.dhcp_wire.specs.RawOption.{RawOptionParts, raw_options}
use Rattle.dhcp_wire.specs.Value.{number_in}
use Rattle.dhcp_wire.specs.declared.raw_option.OptionFormat.TheVariants.{DhcpV6}
use Rattle.dhcp6_opt.specs.declared.duid.DhcpV6Duid.{DhcpV6Duid}
use Rattle.dhcp6_opt.specs.declared.ntp_server.DhcpV6OptionNtpServer.{DhcpV6OptionNtpServer}
use Rattle.dhcp6_opt.specs.Duid.{no_duid}
use Rattle.dhcp6_opt.specs.Options.{OptionLists}
use Rattle.dhcp6_opt.specs.Said.{dns_servers_said, domain_list_said, ntp_servers_said, said_by, server_id_said, status_said}
use Rattle.dhcp6_opt.specs.Status.{is_no_failure}
use Rattle.dhcp6_info.specs.declared.info.DhcpV6Info.{DhcpV6Info}

-- ---- the refresh time

-- the time that an option says, in seconds: an Information Refresh Time option with four bytes at
-- least
abbrev pub time_said : RawOptionParts → Option ℕ
time_said option = if option.code == 32 then number_in w32 option.value else None

-- that of the first option which says one
abbrev pub first_time : List RawOptionParts → Option ℕ
first_time [] = None
first_time (option ∷ options) = option_or (time_said option) (first_time options)

-- the refresh time of a message, whose options begin after four bytes: IRT_MINIMUM at least, and
-- IRT_DEFAULT where no option says one (section 21.23)
unfoldable pub refresh_time : List ℕ → ℕ
refresh_time payload =
    unwrap_or (option_map (max 600) (first_time (raw_options DhcpV6 (drop 4 payload)))) 86400

-- ---- the configuration

-- the configuration of these parts; an identifier that is absent is the one without bytes
abbrev pub info_of : Option DhcpV6Duid → Option (List Ipv6Addr) → Option (List (List ℕ)) →
    Option (List DhcpV6OptionNtpServer) → ℕ → DhcpV6Info
info_of srv_duid dns_srvs domains ntp refresh_sec = record {
  srv_duid = unwrap_or srv_duid no_duid;
  dns_srvs = dns_srvs;
  domains = domains;
  ntp = ntp;
  refresh_sec = refresh_sec;
}

-- what the first readable option of each kind says, with this refresh time
abbrev pub info_with : OptionLists → ℕ → DhcpV6Info
info_with options refresh_sec =
    info_of (said_by server_id_said options 2) (said_by dns_servers_said options 23)
    (said_by domain_list_said options 24) (said_by ntp_servers_said options 56) refresh_sec

-- whether the options of a Reply give a configuration: the first readable status, if there is one,
-- is Success, and a server is named
abbrev pub is_given : OptionLists → Bool
is_given options =
    is_no_failure (said_by status_said options 13) && is_some (said_by server_id_said options 2)
