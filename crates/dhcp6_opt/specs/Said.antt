-- What the options of a message say, RFC 8415 section 21, RFC 3646 and RFC 5908: of each code, what
-- its first option says.
use Rattle.std.specs.Prelude.{ℕ, List, Option, Some, None}
use Rattle.std.specs.declared.net.Ipv6Addr.{Ipv6Addr}
use Rattle.dhcp_wire.specs.Field.{◌>>=◌}
use Rattle.dhcp6_opt.specs.declared.duid.DhcpV6Duid.{DhcpV6Duid}
use Rattle.dhcp6_opt.specs.declared.ia.DhcpV6OptionIaNa.{DhcpV6OptionIaNa}
use Rattle.dhcp6_opt.specs.declared.ia.DhcpV6OptionIaTa.{DhcpV6OptionIaTa}
use Rattle.dhcp6_opt.specs.declared.ia.pd.DhcpV6OptionIaPd.{DhcpV6OptionIaPd}
use Rattle.dhcp6_opt.specs.declared.ntp_server.DhcpV6OptionNtpServer.{DhcpV6OptionNtpServer}
use Rattle.dhcp6_opt.specs.declared.option.DhcpV6Option.{DhcpV6Option}
use Rattle.dhcp6_opt.specs.declared.option.DhcpV6Option.TheVariants.{ClientId, ServerId, IANA, IATA, IAPD, ServerUnicast, StatusCode, DnsServers, DomainList, NtpServer}
use Rattle.dhcp6_opt.specs.declared.status.DhcpV6OptionStatus.{DhcpV6OptionStatus}
use Rattle.dhcp6_opt.specs.Options.{OptionLists, first_of}

-- the identifier of a client, section 21.2, or of a server, section 21.3
abbrev pub client_id_said : DhcpV6Option → Option DhcpV6Duid
client_id_said (ClientId duid) = Some duid
client_id_said _ = None

abbrev pub server_id_said : DhcpV6Option → Option DhcpV6Duid
server_id_said (ServerId duid) = Some duid
server_id_said _ = None

-- an identity association of each type, sections 21.4, 21.5 and 21.21
abbrev pub ia_na_said : DhcpV6Option → Option DhcpV6OptionIaNa
ia_na_said (IANA ia) = Some ia
ia_na_said _ = None

abbrev pub ia_ta_said : DhcpV6Option → Option DhcpV6OptionIaTa
ia_ta_said (IATA ia) = Some ia
ia_ta_said _ = None

abbrev pub ia_pd_said : DhcpV6Option → Option DhcpV6OptionIaPd
ia_pd_said (IAPD ia) = Some ia
ia_pd_said _ = None

-- the address of a server, section 21.12
abbrev pub server_unicast_said : DhcpV6Option → Option Ipv6Addr
server_unicast_said (ServerUnicast address) = Some address
server_unicast_said _ = None

-- a status, section 21.13
abbrev pub status_said : DhcpV6Option → Option DhcpV6OptionStatus
status_said (StatusCode status) = Some status
status_said _ = None

-- the addresses of name servers, RFC 3646 section 3
abbrev pub dns_servers_said : DhcpV6Option → Option (List Ipv6Addr)
dns_servers_said (DnsServers addresses) = Some addresses
dns_servers_said _ = None

-- the domains in which host names are looked up, RFC 3646 section 4
abbrev pub domain_list_said : DhcpV6Option → Option (List (List ℕ))
domain_list_said (DomainList names) = Some names
domain_list_said _ = None

-- time servers, RFC 5908 section 4
abbrev pub ntp_servers_said : DhcpV6Option → Option (List DhcpV6OptionNtpServer)
ntp_servers_said (NtpServer servers) = Some servers
ntp_servers_said _ = None

-- what the first option of this number says
abbrev pub said_by : {X : Type 0} → (DhcpV6Option → Option X) → OptionLists → ℕ → Option X
said_by says options number = first_of options number >>= says
