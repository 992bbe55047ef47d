-- The values of options, RFC 8415 section 21, RFC 3646 and RFC 5908: how each reads, and how it is
-- written.
use Rattle.std.specs.Prelude.{ℕ, ◌&&◌, nat_le, Bool, true, false, List, [], ◌∷◌, length, Option, Some, None, option_map, if◌then◌else◌}
use Rattle.std.specs.List.{flat_map, list_all}
use Rattle.std.specs.Int.{w8, w16, from_be_bytes, to_be_bytes}
use Rattle.std.specs.Net.Addr.{ipv6_octets}
use Rattle.std.specs.declared.net.Ipv6Addr.{Ipv6Addr}
use Rattle.dhcp_wire.specs.Field.{◌>>=◌}
use Rattle.dhcp_wire.specs.Value.{number_in, ipv6_address_in, ipv6_addresses_in}
use Rattle.dhcp6_opt.specs.declared.option_code.DhcpV6OptionCode.{DhcpV6OptionCode}
use Rattle.dhcp6_opt.specs.declared.option_code.DhcpV6OptionCode.TheVariants as codes
use Rattle.dhcp6_opt.specs.declared.option.DhcpV6Option.{DhcpV6Option}
use Rattle.dhcp6_opt.specs.declared.option.DhcpV6Option.TheVariants.{ClientId, ServerId, IANA, IATA, IAPD, OptionRequestOption, IAAddr, IAPrefix, Preference, ElapsedTime, ServerUnicast, StatusCode, RapidCommit, DnsServers, DomainList, NtpServer, Unknown}
use Rattle.dhcp6_opt.specs.Duid.{duid_in, written_duid}
use Rattle.dhcp6_opt.specs.DomainName.{names_in, written_name, name_fits}
use Rattle.dhcp6_opt.specs.Ia.{ia_na_in, ia_ta_in, ia_pd_in, ia_address_in, ia_prefix_in, written_ia_na, written_ia_ta, written_ia_pd, written_ia_address, written_ia_prefix}
use Rattle.dhcp6_opt.specs.NtpServer.{ntp_servers_in, written_ntp_server, ntp_server_fits}
use Rattle.dhcp6_opt.specs.OptionCode.{number_of, code_of}
use Rattle.dhcp6_opt.specs.Status.{status_in, written_status}
use Rattle.dhcp6_opt.specs.Written.{as_option}

-- a code for each whole pair of bytes
abbrev pub codes_in : List ℕ → List DhcpV6OptionCode
codes_in (high ∷ low ∷ value) = code_of (from_be_bytes w16 (high ∷ low ∷ [])) ∷ codes_in value
codes_in _ = []

-- what the value of each code says
unfoldable pub said_in : DhcpV6OptionCode → List ℕ → Option DhcpV6Option
said_in codes.ClientId value = option_map ClientId (duid_in value)
said_in codes.ServerId value = option_map ServerId (duid_in value)
said_in codes.IANA value = option_map IANA (ia_na_in value)
said_in codes.IATA value = option_map IATA (ia_ta_in value)
said_in codes.IAAddr value = option_map IAAddr (ia_address_in value)
said_in codes.OptionRequestOption value = Some (OptionRequestOption (codes_in value))
said_in codes.Preference value = option_map Preference (number_in w8 value)
said_in codes.ElapsedTime value = option_map ElapsedTime (number_in w16 value)
said_in codes.ServerUnicast value = option_map ServerUnicast (ipv6_address_in value)
said_in codes.StatusCode value = option_map StatusCode (status_in value)
said_in codes.RapidCommit value = Some RapidCommit
said_in codes.DnsServers value = Some (DnsServers (ipv6_addresses_in value))
said_in codes.DomainList value = option_map DomainList (names_in value)
said_in codes.IAPD value = option_map IAPD (ia_pd_in value)
said_in codes.IAPrefix value = option_map IAPrefix (ia_prefix_in value)
said_in codes.NtpServer value = option_map NtpServer (ntp_servers_in value)
said_in (codes.Other number) value = Some (Unknown (record { code = number; raw = value }))

-- a code as it is written: its number
abbrev pub written_code : DhcpV6OptionCode → List ℕ
written_code code = to_be_bytes w16 (number_of code)

-- addresses one after the other
abbrev pub written_addresses : List Ipv6Addr → List ℕ
written_addresses addresses = flat_map (λ address. ipv6_octets address) addresses

-- the value of each option as it is written
unfoldable pub written_value : DhcpV6Option → List ℕ
written_value (ClientId duid) = written_duid duid
written_value (ServerId duid) = written_duid duid
written_value (IANA ia) = written_ia_na ia
written_value (IATA ia) = written_ia_ta ia
written_value (IAPD ia) = written_ia_pd ia
written_value (OptionRequestOption requested) = flat_map written_code requested
written_value (IAAddr address) = written_ia_address address
written_value (IAPrefix prefix) = written_ia_prefix prefix
written_value (Preference number) = number ∷ []
written_value (ElapsedTime hundredths) = to_be_bytes w16 hundredths
written_value (ServerUnicast address) = ipv6_octets address
written_value (StatusCode status) = written_status status
written_value RapidCommit = []
written_value (DnsServers addresses) = written_addresses addresses
written_value (DomainList names) = flat_map written_name names
written_value (NtpServer servers) = flat_map written_ntp_server servers
written_value (Unknown option) = option.raw

-- the code of each option; that of an unknown one is the name that its number has, if any
unfoldable pub option_code : DhcpV6Option → DhcpV6OptionCode
option_code (ClientId duid) = codes.ClientId
option_code (ServerId duid) = codes.ServerId
option_code (IANA ia) = codes.IANA
option_code (IATA ia) = codes.IATA
option_code (IAPD ia) = codes.IAPD
option_code (OptionRequestOption requested) = codes.OptionRequestOption
option_code (IAAddr address) = codes.IAAddr
option_code (IAPrefix prefix) = codes.IAPrefix
option_code (Preference number) = codes.Preference
option_code (ElapsedTime hundredths) = codes.ElapsedTime
option_code (ServerUnicast address) = codes.ServerUnicast
option_code (StatusCode status) = codes.StatusCode
option_code RapidCommit = codes.RapidCommit
option_code (DnsServers addresses) = codes.DnsServers
option_code (DomainList names) = codes.DomainList
option_code (NtpServer servers) = codes.NtpServer
option_code (Unknown option) = code_of option.code

-- the number of an option
abbrev pub option_number : DhcpV6Option → ℕ
option_number option = number_of (option_code option)

-- the bytes of an option: its code, the length of its value, and the value
unfoldable pub written_option : DhcpV6Option → List ℕ
written_option option = as_option (option_number option) (written_value option)

-- whether a number has no name
abbrev pub is_nameless : DhcpV6OptionCode → Bool
is_nameless (codes.Other number) = true
is_nameless _ = false

-- an unknown option has a number that has no name
abbrev pub has_own_code : DhcpV6Option → Bool
has_own_code (Unknown option) = is_nameless (code_of option.code)
has_own_code _ = true

-- the names of an option can be written
abbrev pub names_fit : DhcpV6Option → Bool
names_fit (DomainList names) = list_all name_fits names
names_fit (NtpServer servers) = list_all ntp_server_fits servers
names_fit _ = true

-- whether the written value has at most 65,535 bytes, so that its length can be written
abbrev pub has_short_value : DhcpV6Option → Bool
has_short_value option = nat_le (length (written_value option)) 65535

-- whether an option can be written
unfoldable pub fits : DhcpV6Option → Bool
fits option = has_short_value option && names_fit option && has_own_code option

-- what the value of each code reads as: what it says, where that can be written again
unfoldable pub value_of : DhcpV6OptionCode → List ℕ → Option DhcpV6Option
value_of code value = do
  option ← said_in code value
  if has_short_value option then Some option else None
