-- The suboptions of the NTP server option, RFC 5908 section 4: they are laid out as options are.
-- Where that section has one time source in an option, any number of them reads.
use Rattle.std.specs.Prelude.{ℕ, ◌==◌, Bool, true, List, [], ◌∷◌, Option, Some, option_map, if◌then◌else◌}
use Rattle.std.specs.Net.Addr.{ipv6_octets}
use Rattle.dhcp_wire.specs.Field.{◌>>=◌}
use Rattle.dhcp_wire.specs.RawOption.{RawOptionParts, filling_options}
use Rattle.dhcp_wire.specs.Value.{ipv6_address_in}
use Rattle.dhcp_wire.specs.declared.raw_option.OptionFormat.TheVariants.{DhcpV6}
use Rattle.dhcp6_opt.specs.declared.ntp_server.DhcpV6OptionNtpServer.{DhcpV6OptionNtpServer}
use Rattle.dhcp6_opt.specs.declared.ntp_server.DhcpV6OptionNtpServer.TheVariants.{ServerAddr, MulticastAddr, ServerFqdn, Other}
use Rattle.dhcp6_opt.specs.DomainName.{name_in, written_name, name_fits}
use Rattle.dhcp6_opt.specs.Written.{as_option}

-- the reading of a suboption of this type and value
unfoldable pub ntp_server_of : RawOptionParts → Option DhcpV6OptionNtpServer
ntp_server_of raw =
    if raw.code == 1 then option_map ServerAddr (ipv6_address_in raw.value)
    else if raw.code == 2 then option_map MulticastAddr (ipv6_address_in raw.value)
    else if raw.code == 3 then option_map ServerFqdn (name_in raw.value)
    else Some (Other (raw.code, raw.value))

-- the readings of some suboptions: none where one of them has no reading
abbrev pub ntp_servers_of : List RawOptionParts → Option (List DhcpV6OptionNtpServer)
ntp_servers_of [] = Some []
ntp_servers_of (raw ∷ raws) = do
  server ← ntp_server_of raw
  servers ← ntp_servers_of raws
  Some (server ∷ servers)

-- the servers of a value: suboptions that fill it
unfoldable pub ntp_servers_in : List ℕ → Option (List DhcpV6OptionNtpServer)
ntp_servers_in value = filling_options DhcpV6 value >>= ntp_servers_of

-- a suboption as it is written: its type, the length of its value, and the value
unfoldable pub written_ntp_server : DhcpV6OptionNtpServer → List ℕ
written_ntp_server (ServerAddr address) = as_option 1 (ipv6_octets address)
written_ntp_server (MulticastAddr address) = as_option 2 (ipv6_octets address)
written_ntp_server (ServerFqdn name) = as_option 3 (written_name name)
written_ntp_server (Other other) = as_option other.0 other.1

-- whether the name of a suboption can be written
abbrev pub ntp_server_fits : DhcpV6OptionNtpServer → Bool
ntp_server_fits (ServerFqdn name) = name_fits name
ntp_server_fits server = true
