-- The definitions worked out on options as they stand on the wire, so that a wrong rule among them does not check.
use Rattle.std.proofs.Common.{◌≡◌, ℕ, ◌<◌, zero, suc, true, leb, List, [], ◌∷◌, get_or, Some, None, codes, refl, arith}
use Rattle.std.specs.List.{list_all}
use Rattle.std.specs.Str.{is_utf8}
use Rattle.std.proofs.lemmas.Bool.{and_parts, leb-true}
use Rattle.std.proofs.lemmas.Str.{IsUtf8-from_ascii, is_utf8-from_IsUtf8}
use Rattle.dhcp_wire.specs.Field.{bytes_at, ipv6_address_of}
use Rattle.dhcp_wire.specs.RawOption.{raw_option_at, raw_options_within, filling_options, written_raw_option}
use Rattle.dhcp6_opt.specs.declared.duid.DhcpV6Duid.TheVariants.{LinkLayerAddressPlusTime, EnterpriseNumber, LinkLayerAddress, UUID, Raw}
use Rattle.dhcp6_opt.specs.declared.ntp_server.DhcpV6OptionNtpServer.TheVariants.{ServerFqdn, Other}
use Rattle.dhcp6_opt.specs.declared.option.DhcpV6Option.{DhcpV6Option}
use Rattle.dhcp6_opt.specs.declared.option.DhcpV6Option.TheVariants.{ClientId, ServerId, IANA, IAPD, StatusCode, NtpServer}
use Rattle.dhcp6_opt.specs.declared.option_code.DhcpV6OptionCode.TheVariants as names
use Rattle.dhcp6_opt.specs.declared.status.DhcpV6OptionStatusCode.TheVariants.{Success, NoAddrsAvail, NoPrefixAvail}
use Rattle.dhcp6_opt.specs.DomainName.{labels_within, names_within, names_in, name_in, written_name}
use Rattle.dhcp6_opt.specs.Duid.{duid_in, written_duid, duid_time, drawn_duid}
use Rattle.dhcp6_opt.specs.Ia.{inside_in, ia_na_in, ia_ta_in, ia_pd_in, ia_address_in, ia_prefix_in, written_ia_address, written_ia_prefix, written_ia_na, written_ia_ta, written_ia_pd}
use Rattle.dhcp6_opt.specs.NtpServer.{ntp_server_of, ntp_servers_in, written_ntp_server}
use Rattle.dhcp6_opt.specs.OptionCode.{code_of, number_of}
use Rattle.dhcp6_opt.specs.Options.{option_at}
use Rattle.dhcp6_opt.specs.Status.{status_after, status_in, status_of, status_number, written_status}
use Rattle.dhcp6_opt.specs.Written.{as_option}
use Rattle.dhcp6_opt.specs.Value.{value_of, said_in, written_value, written_option, option_code}

-- each of some bytes is ASCII
each_ascii : (bytes : List ℕ) → list_all (λ byte. leb byte 127) bytes ≡ true → (i : ℕ) → get_or bytes i 0 < 128
each_ascii [] all i = omega arith
each_ascii (byte ∷ bytes) all zero = omega (arith, leb-true byte 127 (and_parts _ _ all).0)
each_ascii (byte ∷ bytes) all (suc i) = each_ascii bytes (and_parts _ _ all).1 i

-- ASCII is UTF-8
ascii : (bytes : List ℕ) → list_all (λ byte. leb byte 127) bytes ≡ true → is_utf8 bytes ≡ true
ascii bytes all = is_utf8-from_IsUtf8 bytes (IsUtf8-from_ascii bytes (each_ascii bytes all))

-- a status without addresses
abbrev no_addresses_bytes : List ℕ
no_addresses_bytes = 0 ∷ 13 ∷ 0 ∷ 24 ∷ 0 ∷ 2 ∷ 110 ∷ 111 ∷ 32 ∷ 97 ∷ 100 ∷ 100 ∷ 114 ∷ 101 ∷ 115 ∷ 115 ∷ 101 ∷ 115 ∷ 32 ∷ 97 ∷ 118 ∷ 97 ∷ 105 ∷ 108 ∷ 97 ∷ 98 ∷ 108 ∷ 101 ∷ []

abbrev no_addresses_option : DhcpV6Option
no_addresses_option = StatusCode record { status = NoAddrsAvail; message = codes "no addresses available" }

pub no_addresses-reads : option_at no_addresses_bytes ≡ (Some no_addresses_option, [])
unfolding option_at value_of said_in written_option written_value raw_option_at raw_options_within filling_options written_raw_option bytes_at code_of number_of duid_in written_duid status_in status_of status_number written_status labels_within names_within written_name ntp_server_of ntp_servers_in written_ntp_server status_after inside_in ia_na_in ia_ta_in ia_pd_in ia_address_in ia_prefix_in as_option written_ia_address written_ia_prefix written_ia_na written_ia_ta written_ia_pd option_code
no_addresses-reads = rw (ascii (codes "no addresses available") refl) refl

pub no_addresses-written : written_option no_addresses_option ≡ no_addresses_bytes
unfolding option_at value_of said_in written_option written_value raw_option_at raw_options_within filling_options written_raw_option bytes_at code_of number_of duid_in written_duid status_in status_of status_number written_status labels_within names_within written_name ntp_server_of ntp_servers_in written_ntp_server status_after inside_in ia_na_in ia_ta_in ia_pd_in ia_address_in ia_prefix_in as_option written_ia_address written_ia_prefix written_ia_na written_ia_ta written_ia_pd option_code
no_addresses-written = refl

-- a server's identifier
abbrev server_bytes : List ℕ
server_bytes = 0 ∷ 2 ∷ 0 ∷ 14 ∷ 0 ∷ 1 ∷ 0 ∷ 1 ∷ 48 ∷ 122 ∷ 112 ∷ 184 ∷ 114 ∷ 7 ∷ 38 ∷ 217 ∷ 153 ∷ 217 ∷ []

abbrev server_option : DhcpV6Option
server_option = ServerId (LinkLayerAddressPlusTime record { hardware_type = 1; time = 0x307a70b8; link_layer_address = 114 ∷ 7 ∷ 38 ∷ 217 ∷ 153 ∷ 217 ∷ [] })

pub server-reads : option_at server_bytes ≡ (Some server_option, [])
unfolding option_at value_of said_in written_option written_value raw_option_at raw_options_within filling_options written_raw_option bytes_at code_of number_of duid_in written_duid status_in status_of status_number written_status labels_within names_within written_name ntp_server_of ntp_servers_in written_ntp_server status_after inside_in ia_na_in ia_ta_in ia_pd_in ia_address_in ia_prefix_in as_option written_ia_address written_ia_prefix written_ia_na written_ia_ta written_ia_pd option_code
server-reads = refl

pub server-written : written_option server_option ≡ server_bytes
unfolding option_at value_of said_in written_option written_value raw_option_at raw_options_within filling_options written_raw_option bytes_at code_of number_of duid_in written_duid status_in status_of status_number written_status labels_within names_within written_name ntp_server_of ntp_servers_in written_ntp_server status_after inside_in ia_na_in ia_ta_in ia_pd_in ia_address_in ia_prefix_in as_option written_ia_address written_ia_prefix written_ia_na written_ia_ta written_ia_pd option_code
server-written = refl

-- a client's identifier
abbrev client_bytes : List ℕ
client_bytes = 0 ∷ 1 ∷ 0 ∷ 10 ∷ 0 ∷ 3 ∷ 0 ∷ 1 ∷ 210 ∷ 253 ∷ 249 ∷ 180 ∷ 72 ∷ 183 ∷ []

abbrev client_option : DhcpV6Option
client_option = ClientId (LinkLayerAddress record { hardware_type = 1; link_layer_address = 210 ∷ 253 ∷ 249 ∷ 180 ∷ 72 ∷ 183 ∷ [] })

pub client-reads : option_at client_bytes ≡ (Some client_option, [])
unfolding option_at value_of said_in written_option written_value raw_option_at raw_options_within filling_options written_raw_option bytes_at code_of number_of duid_in written_duid status_in status_of status_number written_status labels_within names_within written_name ntp_server_of ntp_servers_in written_ntp_server status_after inside_in ia_na_in ia_ta_in ia_pd_in ia_address_in ia_prefix_in as_option written_ia_address written_ia_prefix written_ia_na written_ia_ta written_ia_pd option_code
client-reads = refl

pub client-written : written_option client_option ≡ client_bytes
unfolding option_at value_of said_in written_option written_value raw_option_at raw_options_within filling_options written_raw_option bytes_at code_of number_of duid_in written_duid status_in status_of status_number written_status labels_within names_within written_name ntp_server_of ntp_servers_in written_ntp_server status_after inside_in ia_na_in ia_ta_in ia_pd_in ia_address_in ia_prefix_in as_option written_ia_address written_ia_prefix written_ia_na written_ia_ta written_ia_pd option_code
client-written = refl

-- an identity association with an address
abbrev ia_na_bytes : List ℕ
ia_na_bytes = 0 ∷ 3 ∷ 0 ∷ 40 ∷ 253 ∷ 42 ∷ 188 ∷ 142 ∷ 0 ∷ 0 ∷ 0 ∷ 60 ∷ 0 ∷ 0 ∷ 0 ∷ 105 ∷ 0 ∷ 5 ∷ 0 ∷ 24 ∷ 32 ∷ 1 ∷ 13 ∷ 184 ∷ 0 ∷ 10 ∷ 0 ∷ 0 ∷ 0 ∷ 0 ∷ 0 ∷ 0 ∷ 0 ∷ 0 ∷ 7 ∷ 109 ∷ 0 ∷ 0 ∷ 0 ∷ 120 ∷ 0 ∷ 0 ∷ 0 ∷ 120 ∷ []

abbrev ia_na_option : DhcpV6Option
ia_na_option = IANA record { iaid = 0xfd2abc8e; t1_sec = 60; t2_sec = 105; address = Some record { address = ipv6_address_of (32 ∷ 1 ∷ 13 ∷ 184 ∷ 0 ∷ 10 ∷ 0 ∷ 0 ∷ 0 ∷ 0 ∷ 0 ∷ 0 ∷ 0 ∷ 0 ∷ 7 ∷ 109 ∷ []); preferred_time_sec = 120; valid_time_sec = 120; status = None }; status = None }

pub ia_na-reads : option_at ia_na_bytes ≡ (Some ia_na_option, [])
unfolding option_at value_of said_in written_option written_value raw_option_at raw_options_within filling_options written_raw_option bytes_at code_of number_of duid_in written_duid status_in status_of status_number written_status labels_within names_within written_name ntp_server_of ntp_servers_in written_ntp_server status_after inside_in ia_na_in ia_ta_in ia_pd_in ia_address_in ia_prefix_in as_option written_ia_address written_ia_prefix written_ia_na written_ia_ta written_ia_pd option_code
ia_na-reads = refl

pub ia_na-written : written_option ia_na_option ≡ ia_na_bytes
unfolding option_at value_of said_in written_option written_value raw_option_at raw_options_within filling_options written_raw_option bytes_at code_of number_of duid_in written_duid status_in status_of status_number written_status labels_within names_within written_name ntp_server_of ntp_servers_in written_ntp_server status_after inside_in ia_na_in ia_ta_in ia_pd_in ia_address_in ia_prefix_in as_option written_ia_address written_ia_prefix written_ia_na written_ia_ta written_ia_pd option_code
ia_na-written = refl

-- one with a prefix and a status
abbrev ia_pd_bytes : List ℕ
ia_pd_bytes = 0 ∷ 25 ∷ 0 ∷ 54 ∷ 50 ∷ 170 ∷ 190 ∷ 78 ∷ 0 ∷ 0 ∷ 168 ∷ 192 ∷ 0 ∷ 1 ∷ 14 ∷ 0 ∷ 0 ∷ 26 ∷ 0 ∷ 25 ∷ 0 ∷ 1 ∷ 81 ∷ 128 ∷ 0 ∷ 1 ∷ 81 ∷ 128 ∷ 60 ∷ 36 ∷ 14 ∷ 3 ∷ 156 ∷ 14 ∷ 41 ∷ 219 ∷ 240 ∷ 0 ∷ 0 ∷ 0 ∷ 0 ∷ 0 ∷ 0 ∷ 0 ∷ 0 ∷ 0 ∷ 13 ∷ 0 ∷ 9 ∷ 0 ∷ 0 ∷ 83 ∷ 85 ∷ 67 ∷ 67 ∷ 69 ∷ 83 ∷ 83 ∷ []

abbrev ia_pd_option : DhcpV6Option
ia_pd_option = IAPD record { iaid = 0x32aabe4e; t1_sec = 43200; t2_sec = 69120; prefix = Some record { preferred_time_sec = 86400; valid_time_sec = 86400; prefix_len = 60; prefix = ipv6_address_of (36 ∷ 14 ∷ 3 ∷ 156 ∷ 14 ∷ 41 ∷ 219 ∷ 240 ∷ 0 ∷ 0 ∷ 0 ∷ 0 ∷ 0 ∷ 0 ∷ 0 ∷ 0 ∷ []); status = None }; status = Some record { status = Success; message = codes "SUCCESS" } }

pub ia_pd-reads : option_at ia_pd_bytes ≡ (Some ia_pd_option, [])
unfolding option_at value_of said_in written_option written_value raw_option_at raw_options_within filling_options written_raw_option bytes_at code_of number_of duid_in written_duid status_in status_of status_number written_status labels_within names_within written_name ntp_server_of ntp_servers_in written_ntp_server status_after inside_in ia_na_in ia_ta_in ia_pd_in ia_address_in ia_prefix_in as_option written_ia_address written_ia_prefix written_ia_na written_ia_ta written_ia_pd option_code
ia_pd-reads = rw (ascii (codes "SUCCESS") refl) refl

pub ia_pd-written : written_option ia_pd_option ≡ ia_pd_bytes
unfolding option_at value_of said_in written_option written_value raw_option_at raw_options_within filling_options written_raw_option bytes_at code_of number_of duid_in written_duid status_in status_of status_number written_status labels_within names_within written_name ntp_server_of ntp_servers_in written_ntp_server status_after inside_in ia_na_in ia_ta_in ia_pd_in ia_address_in ia_prefix_in as_option written_ia_address written_ia_prefix written_ia_na written_ia_ta written_ia_pd option_code
ia_pd-written = refl

-- one without a prefix
abbrev no_prefix_bytes : List ℕ
no_prefix_bytes = 0 ∷ 25 ∷ 0 ∷ 31 ∷ 193 ∷ 219 ∷ 32 ∷ 92 ∷ 0 ∷ 0 ∷ 0 ∷ 0 ∷ 0 ∷ 0 ∷ 0 ∷ 0 ∷ 0 ∷ 13 ∷ 0 ∷ 15 ∷ 0 ∷ 6 ∷ 78 ∷ 79 ∷ 80 ∷ 82 ∷ 69 ∷ 70 ∷ 73 ∷ 88 ∷ 65 ∷ 86 ∷ 65 ∷ 73 ∷ 76 ∷ []

abbrev no_prefix_option : DhcpV6Option
no_prefix_option = IAPD record { iaid = 0xc1db205c; t1_sec = 0; t2_sec = 0; prefix = None; status = Some record { status = NoPrefixAvail; message = codes "NOPREFIXAVAIL" } }

pub no_prefix-reads : option_at no_prefix_bytes ≡ (Some no_prefix_option, [])
unfolding option_at value_of said_in written_option written_value raw_option_at raw_options_within filling_options written_raw_option bytes_at code_of number_of duid_in written_duid status_in status_of status_number written_status labels_within names_within written_name ntp_server_of ntp_servers_in written_ntp_server status_after inside_in ia_na_in ia_ta_in ia_pd_in ia_address_in ia_prefix_in as_option written_ia_address written_ia_prefix written_ia_na written_ia_ta written_ia_pd option_code
no_prefix-reads = rw (ascii (codes "NOPREFIXAVAIL") refl) refl

pub no_prefix-written : written_option no_prefix_option ≡ no_prefix_bytes
unfolding option_at value_of said_in written_option written_value raw_option_at raw_options_within filling_options written_raw_option bytes_at code_of number_of duid_in written_duid status_in status_of status_number written_status labels_within names_within written_name ntp_server_of ntp_servers_in written_ntp_server status_after inside_in ia_na_in ia_ta_in ia_pd_in ia_address_in ia_prefix_in as_option written_ia_address written_ia_prefix written_ia_na written_ia_ta written_ia_pd option_code
no_prefix-written = refl

-- the hint for a prefix of 60 bits
abbrev hint_bytes : List ℕ
hint_bytes = 0 ∷ 25 ∷ 0 ∷ 41 ∷ 0 ∷ 0 ∷ 0 ∷ 0 ∷ 0 ∷ 0 ∷ 0 ∷ 0 ∷ 0 ∷ 0 ∷ 0 ∷ 0 ∷ 0 ∷ 26 ∷ 0 ∷ 25 ∷ 0 ∷ 0 ∷ 0 ∷ 0 ∷ 0 ∷ 0 ∷ 0 ∷ 0 ∷ 60 ∷ 0 ∷ 0 ∷ 0 ∷ 0 ∷ 0 ∷ 0 ∷ 0 ∷ 0 ∷ 0 ∷ 0 ∷ 0 ∷ 0 ∷ 0 ∷ 0 ∷ 0 ∷ 0 ∷ []

abbrev hint_option : DhcpV6Option
hint_option = IAPD record { iaid = 0; t1_sec = 0; t2_sec = 0; prefix = Some record { preferred_time_sec = 0; valid_time_sec = 0; prefix_len = 60; prefix = ipv6_address_of (0 ∷ 0 ∷ 0 ∷ 0 ∷ 0 ∷ 0 ∷ 0 ∷ 0 ∷ 0 ∷ 0 ∷ 0 ∷ 0 ∷ 0 ∷ 0 ∷ 0 ∷ 0 ∷ []); status = None }; status = None }

pub hint-reads : option_at hint_bytes ≡ (Some hint_option, [])
unfolding option_at value_of said_in written_option written_value raw_option_at raw_options_within filling_options written_raw_option bytes_at code_of number_of duid_in written_duid status_in status_of status_number written_status labels_within names_within written_name ntp_server_of ntp_servers_in written_ntp_server status_after inside_in ia_na_in ia_ta_in ia_pd_in ia_address_in ia_prefix_in as_option written_ia_address written_ia_prefix written_ia_na written_ia_ta written_ia_pd option_code
hint-reads = refl

pub hint-written : written_option hint_option ≡ hint_bytes
unfolding option_at value_of said_in written_option written_value raw_option_at raw_options_within filling_options written_raw_option bytes_at code_of number_of duid_in written_duid status_in status_of status_number written_status labels_within names_within written_name ntp_server_of ntp_servers_in written_ntp_server status_after inside_in ia_na_in ia_ta_in ia_pd_in ia_address_in ia_prefix_in as_option written_ia_address written_ia_prefix written_ia_na written_ia_ta written_ia_pd option_code
hint-written = refl

-- the name of a time server
abbrev time_server_bytes : List ℕ
time_server_bytes = 0 ∷ 56 ∷ 0 ∷ 17 ∷ 0 ∷ 3 ∷ 0 ∷ 13 ∷ 7 ∷ 101 ∷ 120 ∷ 97 ∷ 109 ∷ 112 ∷ 108 ∷ 101 ∷ 3 ∷ 99 ∷ 111 ∷ 109 ∷ 0 ∷ []

abbrev time_server_option : DhcpV6Option
time_server_option = NtpServer (ServerFqdn (codes "example.com") ∷ [])

pub time_server-reads : option_at time_server_bytes ≡ (Some time_server_option, [])
unfolding option_at value_of said_in written_option written_value raw_option_at raw_options_within filling_options written_raw_option bytes_at code_of number_of duid_in written_duid status_in status_of status_number written_status labels_within names_within written_name ntp_server_of ntp_servers_in written_ntp_server status_after inside_in ia_na_in ia_ta_in ia_pd_in ia_address_in ia_prefix_in as_option written_ia_address written_ia_prefix written_ia_na written_ia_ta written_ia_pd option_code
time_server-reads = rw (ascii (codes "example") refl, ascii (codes "com") refl) refl

pub time_server-written : written_option time_server_option ≡ time_server_bytes
unfolding option_at value_of said_in written_option written_value raw_option_at raw_options_within filling_options written_raw_option bytes_at code_of number_of duid_in written_duid status_in status_of status_number written_status labels_within names_within written_name ntp_server_of ntp_servers_in written_ntp_server status_after inside_in ia_na_in ia_ta_in ia_pd_in ia_address_in ia_prefix_in as_option written_ia_address written_ia_prefix written_ia_na written_ia_ta written_ia_pd option_code
time_server-written = refl

-- one byte is no identifier
pub one_byte : duid_in (0 ∷ []) ≡ None
unfolding option_at value_of said_in written_option written_value raw_option_at raw_options_within filling_options written_raw_option bytes_at code_of number_of duid_in written_duid status_in status_of status_number written_status labels_within names_within written_name ntp_server_of ntp_servers_in written_ntp_server status_after inside_in ia_na_in ia_ta_in ia_pd_in ia_address_in ia_prefix_in as_option written_ia_address written_ia_prefix written_ia_na written_ia_ta written_ia_pd option_code
one_byte = refl

-- after type 4, fifteen bytes are no number
pub fifteen_bytes : duid_in (0 ∷ 4 ∷ 1 ∷ 2 ∷ 3 ∷ 4 ∷ 5 ∷ 6 ∷ 7 ∷ 8 ∷ 9 ∷ 10 ∷ 11 ∷ 12 ∷ 13 ∷ 14 ∷ 15 ∷ []) ≡ Some (Raw (0 ∷ 4 ∷ 1 ∷ 2 ∷ 3 ∷ 4 ∷ 5 ∷ 6 ∷ 7 ∷ 8 ∷ 9 ∷ 10 ∷ 11 ∷ 12 ∷ 13 ∷ 14 ∷ 15 ∷ []))
unfolding option_at value_of said_in written_option written_value raw_option_at raw_options_within filling_options written_raw_option bytes_at code_of number_of duid_in written_duid status_in status_of status_number written_status labels_within names_within written_name ntp_server_of ntp_servers_in written_ntp_server status_after inside_in ia_na_in ia_ta_in ia_pd_in ia_address_in ia_prefix_in as_option written_ia_address written_ia_prefix written_ia_na written_ia_ta written_ia_pd option_code
fifteen_bytes = refl

-- sixteen are
pub sixteen_bytes : duid_in (0 ∷ 4 ∷ 1 ∷ 2 ∷ 3 ∷ 4 ∷ 5 ∷ 6 ∷ 7 ∷ 8 ∷ 9 ∷ 10 ∷ 11 ∷ 12 ∷ 13 ∷ 14 ∷ 15 ∷ 16 ∷ []) ≡ Some (UUID 0x0102030405060708090a0b0c0d0e0f10)
unfolding option_at value_of said_in written_option written_value raw_option_at raw_options_within filling_options written_raw_option bytes_at code_of number_of duid_in written_duid status_in status_of status_number written_status labels_within names_within written_name ntp_server_of ntp_servers_in written_ntp_server status_after inside_in ia_na_in ia_ta_in ia_pd_in ia_address_in ia_prefix_in as_option written_ia_address written_ia_prefix written_ia_na written_ia_ta written_ia_pd option_code
sixteen_bytes = refl

-- and are written again
pub uuid-written : written_duid (UUID 0x0102030405060708090a0b0c0d0e0f10) ≡ 0 ∷ 4 ∷ 1 ∷ 2 ∷ 3 ∷ 4 ∷ 5 ∷ 6 ∷ 7 ∷ 8 ∷ 9 ∷ 10 ∷ 11 ∷ 12 ∷ 13 ∷ 14 ∷ 15 ∷ 16 ∷ []
unfolding option_at value_of said_in written_option written_value raw_option_at raw_options_within filling_options written_raw_option bytes_at code_of number_of duid_in written_duid status_in status_of status_number written_status labels_within names_within written_name ntp_server_of ntp_servers_in written_ntp_server status_after inside_in ia_na_in ia_ta_in ia_pd_in ia_address_in ia_prefix_in as_option written_ia_address written_ia_prefix written_ia_na written_ia_ta written_ia_pd option_code
uuid-written = refl

-- an identifier made at second 946684801
pub made_of_a_time : written_duid (LinkLayerAddressPlusTime record { hardware_type = 1; time = duid_time 946684801; link_layer_address = 2 ∷ 0 ∷ 0 ∷ 0 ∷ 0 ∷ 1 ∷ [] }) ≡ 0 ∷ 1 ∷ 0 ∷ 1 ∷ 0 ∷ 0 ∷ 0 ∷ 1 ∷ 2 ∷ 0 ∷ 0 ∷ 0 ∷ 0 ∷ 1 ∷ []
unfolding option_at value_of said_in written_option written_value raw_option_at raw_options_within filling_options written_raw_option bytes_at code_of number_of duid_in written_duid status_in status_of status_number written_status labels_within names_within written_name ntp_server_of ntp_servers_in written_ntp_server status_after inside_in ia_na_in ia_ta_in ia_pd_in ia_address_in ia_prefix_in as_option written_ia_address written_ia_prefix written_ia_na written_ia_ta written_ia_pd option_code
made_of_a_time = refl

-- one of vendor 9
pub made_by_a_vendor : written_duid (EnterpriseNumber record { enterprise_number = 9; identifier = 0xab ∷ [] }) ≡ 0 ∷ 2 ∷ 0 ∷ 0 ∷ 0 ∷ 9 ∷ 171 ∷ []
unfolding option_at value_of said_in written_option written_value raw_option_at raw_options_within filling_options written_raw_option bytes_at code_of number_of duid_in written_duid status_in status_of status_number written_status labels_within names_within written_name ntp_server_of ntp_servers_in written_ntp_server status_after inside_in ia_na_in ia_ta_in ia_pd_in ia_address_in ia_prefix_in as_option written_ia_address written_ia_prefix written_ia_na written_ia_ta written_ia_pd option_code
made_by_a_vendor = refl

-- one of an address
pub made_of_an_address : written_duid (LinkLayerAddress record { hardware_type = 1; link_layer_address = 2 ∷ 0 ∷ 0 ∷ 0 ∷ 0 ∷ 1 ∷ [] }) ≡ 0 ∷ 3 ∷ 0 ∷ 1 ∷ 2 ∷ 0 ∷ 0 ∷ 0 ∷ 0 ∷ 1 ∷ []
unfolding option_at value_of said_in written_option written_value raw_option_at raw_options_within filling_options written_raw_option bytes_at code_of number_of duid_in written_duid status_in status_of status_number written_status labels_within names_within written_name ntp_server_of ntp_servers_in written_ntp_server status_after inside_in ia_na_in ia_ta_in ia_pd_in ia_address_in ia_prefix_in as_option written_ia_address written_ia_prefix written_ia_na written_ia_ta written_ia_pd option_code
made_of_an_address = refl

-- one of four random words
pub made_at_random : written_duid (drawn_duid (0x01020304 ∷ 0x05060708 ∷ 0x090a0b0c ∷ 0x0d0e0f10 ∷ [])).value ≡ 0 ∷ 255 ∷ 3 ∷ 4 ∷ 5 ∷ 6 ∷ 7 ∷ 8 ∷ 9 ∷ 10 ∷ 11 ∷ 12 ∷ 13 ∷ 14 ∷ 15 ∷ 16 ∷ []
unfolding option_at value_of said_in written_option written_value raw_option_at raw_options_within filling_options written_raw_option bytes_at code_of number_of duid_in written_duid status_in status_of status_number written_status labels_within names_within written_name ntp_server_of ntp_servers_in written_ntp_server status_after inside_in ia_na_in ia_ta_in ia_pd_in ia_address_in ia_prefix_in as_option written_ia_address written_ia_prefix written_ia_na written_ia_ta written_ia_pd option_code
made_at_random = refl

-- a name that its zero byte ends
pub ended_name : names_in (3 ∷ 99 ∷ 111 ∷ 109 ∷ 0 ∷ []) ≡ Some (codes "com" ∷ [])
unfolding option_at value_of said_in written_option written_value raw_option_at raw_options_within filling_options written_raw_option bytes_at code_of number_of duid_in written_duid status_in status_of status_number written_status labels_within names_within written_name ntp_server_of ntp_servers_in written_ntp_server status_after inside_in ia_na_in ia_ta_in ia_pd_in ia_address_in ia_prefix_in as_option written_ia_address written_ia_prefix written_ia_na written_ia_ta written_ia_pd option_code
ended_name = rw (ascii (codes "com") refl) refl

-- one that the end of the value ends
pub open_name : names_in (3 ∷ 99 ∷ 111 ∷ 109 ∷ []) ≡ Some (codes "com" ∷ [])
unfolding option_at value_of said_in written_option written_value raw_option_at raw_options_within filling_options written_raw_option bytes_at code_of number_of duid_in written_duid status_in status_of status_number written_status labels_within names_within written_name ntp_server_of ntp_servers_in written_ntp_server status_after inside_in ia_na_in ia_ta_in ia_pd_in ia_address_in ia_prefix_in as_option written_ia_address written_ia_prefix written_ia_na written_ia_ta written_ia_pd option_code
open_name = rw (ascii (codes "com") refl) refl

-- it is written with its zero byte
pub name-written : written_name (codes "com") ≡ 3 ∷ 99 ∷ 111 ∷ 109 ∷ 0 ∷ []
unfolding option_at value_of said_in written_option written_value raw_option_at raw_options_within filling_options written_raw_option bytes_at code_of number_of duid_in written_duid status_in status_of status_number written_status labels_within names_within written_name ntp_server_of ntp_servers_in written_ntp_server status_after inside_in ia_na_in ia_ta_in ia_pd_in ia_address_in ia_prefix_in as_option written_ia_address written_ia_prefix written_ia_na written_ia_ta written_ia_pd option_code
name-written = refl

-- a dot inside a label
pub dot : names_in (3 ∷ 97 ∷ 46 ∷ 98 ∷ 0 ∷ []) ≡ None
unfolding option_at value_of said_in written_option written_value raw_option_at raw_options_within filling_options written_raw_option bytes_at code_of number_of duid_in written_duid status_in status_of status_number written_status labels_within names_within written_name ntp_server_of ntp_servers_in written_ntp_server status_after inside_in ia_na_in ia_ta_in ia_pd_in ia_address_in ia_prefix_in as_option written_ia_address written_ia_prefix written_ia_na written_ia_ta written_ia_pd option_code
dot = rw (ascii (97 ∷ 46 ∷ 98 ∷ []) refl) refl

-- no bytes are no names
pub no_names : names_in [] ≡ Some []
unfolding option_at value_of said_in written_option written_value raw_option_at raw_options_within filling_options written_raw_option bytes_at code_of number_of duid_in written_duid status_in status_of status_number written_status labels_within names_within written_name ntp_server_of ntp_servers_in written_ntp_server status_after inside_in ia_na_in ia_ta_in ia_pd_in ia_address_in ia_prefix_in as_option written_ia_address written_ia_prefix written_ia_na written_ia_ta written_ia_pd option_code
no_names = refl

-- a zero byte alone is the empty name
pub root : names_in (0 ∷ []) ≡ Some ([] ∷ [])
unfolding option_at value_of said_in written_option written_value raw_option_at raw_options_within filling_options written_raw_option bytes_at code_of number_of duid_in written_duid status_in status_of status_number written_status labels_within names_within written_name ntp_server_of ntp_servers_in written_ntp_server status_after inside_in ia_na_in ia_ta_in ia_pd_in ia_address_in ia_prefix_in as_option written_ia_address written_ia_prefix written_ia_na written_ia_ta written_ia_pd option_code
root = refl

-- the empty name is a zero byte
pub root-written : written_name [] ≡ 0 ∷ []
unfolding option_at value_of said_in written_option written_value raw_option_at raw_options_within filling_options written_raw_option bytes_at code_of number_of duid_in written_duid status_in status_of status_number written_status labels_within names_within written_name ntp_server_of ntp_servers_in written_ntp_server status_after inside_in ia_na_in ia_ta_in ia_pd_in ia_address_in ia_prefix_in as_option written_ia_address written_ia_prefix written_ia_na written_ia_ta written_ia_pd option_code
root-written = refl

-- no bytes are the empty name of a time server
pub empty_name : name_in [] ≡ Some []
unfolding option_at value_of said_in written_option written_value raw_option_at raw_options_within filling_options written_raw_option bytes_at code_of number_of duid_in written_duid status_in status_of status_number written_status labels_within names_within written_name ntp_server_of ntp_servers_in written_ntp_server status_after inside_in ia_na_in ia_ta_in ia_pd_in ia_address_in ia_prefix_in as_option written_ia_address written_ia_prefix written_ia_na written_ia_ta written_ia_pd option_code
empty_name = refl

-- a label of 64 bytes
pub long_label : names_in (64 ∷ 97 ∷ 97 ∷ 97 ∷ 97 ∷ 97 ∷ 97 ∷ 97 ∷ 97 ∷ 97 ∷ 97 ∷ 97 ∷ 97 ∷ 97 ∷ 97 ∷ 97 ∷ 97 ∷ 97 ∷ 97 ∷ 97 ∷ 97 ∷ 97 ∷ 97 ∷ 97 ∷ 97 ∷ 97 ∷ 97 ∷ 97 ∷ 97 ∷ 97 ∷ 97 ∷ 97 ∷ 97 ∷ 97 ∷ 97 ∷ 97 ∷ 97 ∷ 97 ∷ 97 ∷ 97 ∷ 97 ∷ 97 ∷ 97 ∷ 97 ∷ 97 ∷ 97 ∷ 97 ∷ 97 ∷ 97 ∷ 97 ∷ 97 ∷ 97 ∷ 97 ∷ 97 ∷ 97 ∷ 97 ∷ 97 ∷ 97 ∷ 97 ∷ 97 ∷ 97 ∷ 97 ∷ 97 ∷ 97 ∷ 97 ∷ 0 ∷ []) ≡ None
unfolding option_at value_of said_in written_option written_value raw_option_at raw_options_within filling_options written_raw_option bytes_at code_of number_of duid_in written_duid status_in status_of status_number written_status labels_within names_within written_name ntp_server_of ntp_servers_in written_ntp_server status_after inside_in ia_na_in ia_ta_in ia_pd_in ia_address_in ia_prefix_in as_option written_ia_address written_ia_prefix written_ia_na written_ia_ta written_ia_pd option_code
long_label = rw (ascii (97 ∷ 97 ∷ 97 ∷ 97 ∷ 97 ∷ 97 ∷ 97 ∷ 97 ∷ 97 ∷ 97 ∷ 97 ∷ 97 ∷ 97 ∷ 97 ∷ 97 ∷ 97 ∷ 97 ∷ 97 ∷ 97 ∷ 97 ∷ 97 ∷ 97 ∷ 97 ∷ 97 ∷ 97 ∷ 97 ∷ 97 ∷ 97 ∷ 97 ∷ 97 ∷ 97 ∷ 97 ∷ 97 ∷ 97 ∷ 97 ∷ 97 ∷ 97 ∷ 97 ∷ 97 ∷ 97 ∷ 97 ∷ 97 ∷ 97 ∷ 97 ∷ 97 ∷ 97 ∷ 97 ∷ 97 ∷ 97 ∷ 97 ∷ 97 ∷ 97 ∷ 97 ∷ 97 ∷ 97 ∷ 97 ∷ 97 ∷ 97 ∷ 97 ∷ 97 ∷ 97 ∷ 97 ∷ 97 ∷ 97 ∷ []) refl) refl

-- the address of a time server cut short
pub short_address : ntp_servers_in (0 ∷ 1 ∷ 0 ∷ 0 ∷ []) ≡ None
unfolding option_at value_of said_in written_option written_value raw_option_at raw_options_within filling_options written_raw_option bytes_at code_of number_of duid_in written_duid status_in status_of status_number written_status labels_within names_within written_name ntp_server_of ntp_servers_in written_ntp_server status_after inside_in ia_na_in ia_ta_in ia_pd_in ia_address_in ia_prefix_in as_option written_ia_address written_ia_prefix written_ia_na written_ia_ta written_ia_pd option_code
short_address = refl

-- a suboption of another type
pub other_type : ntp_servers_in (0 ∷ 9 ∷ 0 ∷ 1 ∷ 97 ∷ []) ≡ Some (Other (9, 0x61 ∷ []) ∷ [])
unfolding option_at value_of said_in written_option written_value raw_option_at raw_options_within filling_options written_raw_option bytes_at code_of number_of duid_in written_duid status_in status_of status_number written_status labels_within names_within written_name ntp_server_of ntp_servers_in written_ntp_server status_after inside_in ia_na_in ia_ta_in ia_pd_in ia_address_in ia_prefix_in as_option written_ia_address written_ia_prefix written_ia_na written_ia_ta written_ia_pd option_code
other_type = refl

-- the number of a code that has a name, without it
pub number : number_of (names.Other 3) ≡ number_of names.IANA
unfolding option_at value_of said_in written_option written_value raw_option_at raw_options_within filling_options written_raw_option bytes_at code_of number_of duid_in written_duid status_in status_of status_number written_status labels_within names_within written_name ntp_server_of ntp_servers_in written_ntp_server status_after inside_in ia_na_in ia_ta_in ia_pd_in ia_address_in ia_prefix_in as_option written_ia_address written_ia_prefix written_ia_na written_ia_ta written_ia_pd option_code
number = refl

-- an association whose inner option is truncated
pub inner_truncated : option_at (0 ∷ 3 ∷ 0 ∷ 16 ∷ 0 ∷ 0 ∷ 0 ∷ 0 ∷ 0 ∷ 0 ∷ 0 ∷ 50 ∷ 0 ∷ 0 ∷ 0 ∷ 80 ∷ 0 ∷ 13 ∷ 0 ∷ 2 ∷ []) ≡ (None, [])
unfolding option_at value_of said_in written_option written_value raw_option_at raw_options_within filling_options written_raw_option bytes_at code_of number_of duid_in written_duid status_in status_of status_number written_status labels_within names_within written_name ntp_server_of ntp_servers_in written_ntp_server status_after inside_in ia_na_in ia_ta_in ia_pd_in ia_address_in ia_prefix_in as_option written_ia_address written_ia_prefix written_ia_na written_ia_ta written_ia_pd option_code
inner_truncated = refl

-- a prefix may not stand in an IA_NA
pub inner_prefix : option_at (0 ∷ 3 ∷ 0 ∷ 16 ∷ 0 ∷ 0 ∷ 0 ∷ 0 ∷ 0 ∷ 0 ∷ 0 ∷ 0 ∷ 0 ∷ 0 ∷ 0 ∷ 0 ∷ 0 ∷ 26 ∷ 0 ∷ 0 ∷ []) ≡ (None, [])
unfolding option_at value_of said_in written_option written_value raw_option_at raw_options_within filling_options written_raw_option bytes_at code_of number_of duid_in written_duid status_in status_of status_number written_status labels_within names_within written_name ntp_server_of ntp_servers_in written_ntp_server status_after inside_in ia_na_in ia_ta_in ia_pd_in ia_address_in ia_prefix_in as_option written_ia_address written_ia_prefix written_ia_na written_ia_ta written_ia_pd option_code
inner_prefix = refl

-- an association whose address is cut
pub inner_short : option_at (0 ∷ 3 ∷ 0 ∷ 16 ∷ 0 ∷ 0 ∷ 0 ∷ 0 ∷ 0 ∷ 0 ∷ 0 ∷ 0 ∷ 0 ∷ 0 ∷ 0 ∷ 0 ∷ 0 ∷ 5 ∷ 0 ∷ 0 ∷ []) ≡ (None, [])
unfolding option_at value_of said_in written_option written_value raw_option_at raw_options_within filling_options written_raw_option bytes_at code_of number_of duid_in written_duid status_in status_of status_number written_status labels_within names_within written_name ntp_server_of ntp_servers_in written_ntp_server status_after inside_in ia_na_in ia_ta_in ia_pd_in ia_address_in ia_prefix_in as_option written_ia_address written_ia_prefix written_ia_na written_ia_ta written_ia_pd option_code
inner_short = refl
