-- The states of a client for configuration alone, as a script's outputs have them.
use Rattle.std.specs.Prelude.{ℕ, Bool, true, false, if◌then◌else◌, List, [], ◌∷◌, ◌++◌, codes}
use Rattle.std.specs.Fmt.{decimal}
use Rattle.std.specs.declared.net.Ipv6Addr.{Ipv6Addr}
use Rattle.dhcp_stream.specs.HexText.{address6_text, hex_text}
use Rattle.dhcp_stream.specs.Line.{spaced}
use Rattle.dhcp_script.specs.Field.{list_text, unless_none}
use Rattle.dhcp_script.specs.TimeServer.{time_server_text}
use Rattle.dhcp6_opt.specs.Duid.{written_duid}
use Rattle.dhcp6_opt.specs.declared.ntp_server.DhcpV6OptionNtpServer.{DhcpV6OptionNtpServer}
use Rattle.dhcp6_info.specs.declared.info.DhcpV6Info.{DhcpV6Info}
use Rattle.dhcp6_info.specs.declared.state.PlainInfoState.{PlainInfoState}
use Rattle.dhcp6_info.specs.declared.state.PlainInfoState.TheVariants.{Done, Inform}

-- addresses of name servers
abbrev pub addresses_text : List Ipv6Addr → List ℕ
addresses_text addresses = list_text address6_text addresses

-- whether names are a single one, which is empty
abbrev pub is_empty_name : List (List ℕ) → Bool
is_empty_name ([] ∷ []) = true
is_empty_name _ = false

-- names in hex; a single empty name has a comma after it, which tells it from no names
abbrev pub names_text : List (List ℕ) → List ℕ
names_text names = if is_empty_name names then codes "-," else list_text hex_text names

-- time servers
abbrev pub time_servers_text : List DhcpV6OptionNtpServer → List ℕ
time_servers_text servers = list_text time_server_text servers

-- the fields of a configuration
unfoldable pub info_text : DhcpV6Info → List ℕ
info_text info =
    spaced (hex_text (written_duid info.srv_duid)
    ∷ unless_none addresses_text info.dns_srvs
    ∷ unless_none names_text info.domains
    ∷ unless_none time_servers_text info.ntp
    ∷ decimal info.refresh_sec ∷ [])

-- a state
abbrev pub state_text : PlainInfoState → List ℕ
state_text (Done info) = codes "done " ++ info_text info
state_text Inform = codes "inform"
