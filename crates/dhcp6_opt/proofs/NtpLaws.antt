-- Suboptions of the NTP server option read back as they are written.
use Rattle.std.proofs.Common.{◌≡◌, ℕ, ◌+◌, ◌<◌, ◌^◌, true, List, [], ◌∷◌, ◌++◌, append-nil, length, length-append, Some, option_map, refl, sym, ap, ◌∙◌, arith}
use Rattle.std.specs.List.{AllByRecursion, flat_map, list_all}
use Rattle.std.specs.Net.Addr.{IsIpv6Addr, ipv6_octets}
use Rattle.std.specs.declared.net.Ipv6Addr.{Ipv6Addr}
use Rattle.std.proofs.lemmas.Bool.{and_parts, ne_eqb}
use Rattle.std.proofs.lemmas.List.Concat.{flat_map-cons}
use Rattle.dhcp_wire.specs.Field.{◌>>=◌, ipv6_address_at}
use Rattle.dhcp_wire.specs.RawOption.{RawOptionParts}
use Rattle.dhcp_wire.specs.Value.{ipv6_address_in}
use Rattle.dhcp_wire.specs.declared.raw_option.OptionFormat.TheVariants.{DhcpV6}
use Rattle.dhcp_wire.proofs.FieldLaws.{ipv6_address_at-octets}
use Rattle.dhcp_wire.proofs.FillingLemmas.{filling_options-nil}
use Rattle.dhcp6_opt.specs.declared.ntp_server.DhcpV6OptionNtpServer.{DhcpV6OptionNtpServer}
use Rattle.dhcp6_opt.specs.declared.ntp_server.DhcpV6OptionNtpServer.TheVariants.{ServerAddr, MulticastAddr, ServerFqdn, Other}
use Rattle.dhcp6_opt.specs.DomainName.{written_name}
use Rattle.dhcp6_opt.specs.Laws.{HasOwnType, NtpServerHasWidths}
use Rattle.dhcp6_opt.specs.NtpServer.{ntp_server_fits, ntp_server_of, ntp_servers_in, ntp_servers_of, written_ntp_server}
use Rattle.dhcp6_opt.specs.Written.{as_option}
use Rattle.dhcp6_opt.proofs.IaLaws.{raw_option_at-as_option}
use Rattle.dhcp6_opt.proofs.NameReadLaws.{name_in_back}
use Rattle.dhcp6_opt.proofs.NtpLemmas.{servers_first, servers_more}
use Rattle.dhcp6_opt.proofs.WrittenLemmas.{length-as_option}

-- an address that is a value reads back
pub ipv6_address_in-octets : (address : Ipv6Addr) → IsIpv6Addr address → ipv6_address_in (ipv6_octets address) ≡ Some address
ipv6_address_in-octets address is =
    ap (option_map (λ read. read.0)) (ap ipv6_address_at (sym (append-nil (ipv6_octets address))) ∙ ipv6_address_at-octets address [] is)

-- the type and the value that a suboption is written with
abbrev suboption : DhcpV6OptionNtpServer → RawOptionParts
suboption (ServerAddr address) = record { code = 1; value = ipv6_octets address }
suboption (MulticastAddr address) = record { code = 2; value = ipv6_octets address }
suboption (ServerFqdn name) = record { code = 3; value = written_name name }
suboption (Other other) = record { code = other.0; value = other.1 }

written_ntp_server-suboption : (server : DhcpV6OptionNtpServer) → written_ntp_server server ≡ as_option (suboption server).code (suboption server).value
unfolding written_ntp_server
written_ntp_server-suboption (ServerAddr address) = refl
written_ntp_server-suboption (MulticastAddr address) = refl
written_ntp_server-suboption (ServerFqdn name) = refl
written_ntp_server-suboption (Other other) = refl

small_type : (server : DhcpV6OptionNtpServer) → NtpServerHasWidths server → (suboption server).code < 2 ^ 16
unfolding NtpServerHasWidths
small_type (ServerAddr address) widths = omega arith
small_type (MulticastAddr address) widths = omega arith
small_type (ServerFqdn name) widths = omega arith
small_type (Other other) widths = widths

-- a suboption reads back
server_back : (server : DhcpV6OptionNtpServer) → NtpServerHasWidths server → ntp_server_fits server ≡ true → HasOwnType server → ntp_server_of (suboption server) ≡ Some server
unfolding ntp_server_of NtpServerHasWidths
server_back (ServerAddr address) widths fit own = ap (option_map ServerAddr) (ipv6_address_in-octets address widths)
server_back (MulticastAddr address) widths fit own = ap (option_map MulticastAddr) (ipv6_address_in-octets address widths)
server_back (ServerFqdn name) widths fit own = ap (option_map ServerFqdn) (name_in_back name widths fit)
server_back (Other other) widths fit own =
    rw (ne_eqb other.0 1 own.0, ne_eqb other.0 2 own.1, ne_eqb other.0 3 own.2) refl

-- a suboption at the front of others that read
one_more : (server : DhcpV6OptionNtpServer) (servers : List DhcpV6OptionNtpServer) (later : List ℕ) → NtpServerHasWidths server → ntp_server_fits server ≡ true → HasOwnType server → length (written_ntp_server server) < 2 ^ 16 → ntp_servers_in later ≡ Some servers → ntp_servers_in (written_ntp_server server ++ later) ≡ Some (server ∷ servers)
unfolding ntp_servers_in
one_more server servers later widths fit own short back =
    let code = (suboption server).code in
    let value = (suboption server).value in
    let written = written_ntp_server-suboption server in
    let found = raw_option_at-as_option code value later (small_type server widths) (omega (arith, short, ap length written, length-as_option code value)) in
    ap (λ bytes. ntp_servers_in (bytes ++ later)) written
    ∙ sym (servers_first (ntp_servers_in (as_option code value ++ later)))
    ∙ sym (servers_more [] (as_option code value ++ later) later (suboption server) server _ refl found (server_back server widths fit own))
    ∙ ap (option_map (λ later. server ∷ later)) back

-- the suboptions of a value read back
pub servers_back : (servers : List DhcpV6OptionNtpServer) → AllByRecursion NtpServerHasWidths servers → list_all ntp_server_fits servers ≡ true → AllByRecursion HasOwnType servers → length (flat_map written_ntp_server servers) < 2 ^ 16 → ntp_servers_in (flat_map written_ntp_server servers) ≡ Some servers
unfolding ntp_servers_in
servers_back [] widths fit own short = ap (λ raws. raws >>= ntp_servers_of) (filling_options-nil DhcpV6)
servers_back (server ∷ servers) widths fit own short =
    let parts = and_parts _ _ fit in
    let later : List ℕ = flat_map written_ntp_server servers in
    let whole : length (flat_map written_ntp_server (server ∷ servers)) ≡ length (written_ntp_server server) + length later =
    ap length (flat_map-cons written_ntp_server server servers) ∙ length-append (written_ntp_server server) later in
    ap ntp_servers_in (flat_map-cons written_ntp_server server servers)
    ∙ one_more server servers later widths.0 parts.0 own.0 (omega (arith, short, whole)) (servers_back servers widths.1 parts.1 own.1 (omega (arith, short, whole)))
