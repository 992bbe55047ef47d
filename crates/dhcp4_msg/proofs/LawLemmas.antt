-- What is written reads back.
use Rattle.std.proofs.Common.{◌≡◌, ℕ, ◌<◌, ◌^◌, true, false, ◌==◌, ◌||◌, List, [], ◌∷◌, ◌++◌, length, map, take, Some, IsTrue, option_map, refl, sym, ap, subst, ◌∙◌, arith, append-nil, append_assoc}
use Rattle.std.specs.Int.{w16, w32, to_be_bytes}
use Rattle.std.specs.List.{AllByRecursion, flat_map}
use Rattle.std.specs.declared.net.Ipv4Addr.{Ipv4Addr}
use Rattle.std.proofs.lemmas.Bool.{and_parts, eqb-true, false≢true}
use Rattle.std.proofs.lemmas.List.{take_all, length-take-le}
use Rattle.dhcp_wire.specs.Field.{◌>>=◌, address_at, text_of, address_of}
use Rattle.dhcp_wire.specs.Value.{address_in, addresses_in, number_in, text_in}
use Rattle.dhcp_wire.proofs.FieldLaws.{bytes_at-append, address_at-octets, number_at-to_be_bytes, big_endian_16, big_endian_32, before_zero-append}
use Rattle.dhcp_wire.proofs.Utf8.{text_of_utf8}
use Rattle.dhcp4_msg.specs.declared.message_type.DhcpV4MessageType.{DhcpV4MessageType}
use Rattle.dhcp4_msg.specs.declared.message_type.DhcpV4MessageType.TheVariants.{Discovery, Offer, Request, Decline, Ack, Nack, Release, Inform}
use Rattle.dhcp4_msg.specs.declared.route.DhcpV4ClasslessRoute.{DhcpV4ClasslessRoute}
use Rattle.dhcp_wire.proofs.RawOptionLemmas.{raw_option_at-valued, raw_option_at-code_alone}
use Rattle.dhcp4_msg.specs.OptionCode.{code_of, number_of}
use Rattle.dhcp4_msg.specs.Options.{read_after, option_at}
use Rattle.dhcp4_msg.specs.declared.option_code.DhcpV4OptionCode.{DhcpV4OptionCode}
use Rattle.dhcp4_msg.specs.declared.option_code.DhcpV4OptionCode.TheVariants as codes
use Rattle.dhcp4_msg.specs.declared.option.DhcpV4Option.{DhcpV4Option}
use Rattle.dhcp4_msg.specs.declared.option.DhcpV4Option.TheVariants.{Pad, SubnetMask, Router, DomainNameServer, HostName, DomainName, InterfaceMtu, BroadcastAddress, NtpServers, RequestedIpAddress, IpAddressLeaseTime, MessageType, ServerIdentifier, ParameterRequestList, Message, RenewalTime, RebindingTime, ClientIdentifier, ClasslessStaticRoute, End, Unknown}
use Rattle.dhcp4_msg.proofs.CodeLemmas.{nameless, number_of-code_of}
use Rattle.dhcp4_msg.specs.MessageType.{type_of, type_number}
use Rattle.dhcp4_msg.specs.Laws.{IsWhole, FitsOption, IsExact, ReadsBack, with_names}
use Rattle.dhcp4_msg.specs.Route.{significant_octets, route_at, routes_of, written_route}
use Rattle.dhcp4_msg.specs.Value.{type_in, written_addresses, written_text, written_option, written_value, option_code, value_of, fits, is_nameless}
use Rattle.dhcp_wire.proofs.FieldLemmas.{number_at-cons}
use Rattle.dhcp4_msg.proofs.RouteLemmas.{routes_of-read, routes_of-nil}

address_back : (address : Ipv4Addr) → IsWhole address → address_in address.octets ≡ Some address
address_back address whole = ap (option_map (λ read. read.0)) (subst (λ bytes. address_at bytes ≡ Some (address, [])) (append-nil address.octets) (address_at-octets address [] whole))

one_more_address : (octets later : List ℕ) → length octets ≡ 4 → addresses_in (octets ++ later) ≡ address_of octets ∷ addresses_in later
one_more_address (a ∷ b ∷ c ∷ d ∷ []) later four = refl
one_more_address (a ∷ b ∷ c ∷ d ∷ e ∷ octets) later four = absurd (omega arith)
one_more_address [] later four = absurd (omega arith)
one_more_address (a ∷ []) later four = absurd (omega arith)
one_more_address (a ∷ b ∷ []) later four = absurd (omega arith)
one_more_address (a ∷ b ∷ c ∷ []) later four = absurd (omega arith)

addresses_back : (addresses : List Ipv4Addr) → AllByRecursion IsWhole addresses → addresses_in (written_addresses addresses) ≡ addresses
addresses_back [] whole = refl
addresses_back (address ∷ addresses) whole =
    one_more_address address.octets (written_addresses addresses) whole.0 ∙ ap (λ later. address ∷ later) (addresses_back addresses whole.1)

text_back : (text : List ℕ) → FitsOption text → text_in (written_text text) ≡ Some text
text_back text fits =
    ap (λ kept. text_in (kept ++ 0 ∷ [])) (take_all 254 text fits.is_short)
    ∙ ap text_of (before_zero-append text [] fits.has_no_zero) ∙ text_of_utf8 text fits.is_utf8

size_back : (number : ℕ) → number < 2 ^ 16 → number_in w16 (to_be_bytes w16 number) ≡ Some number
size_back number small = ap (option_map (λ read. read.0)) (number_at-to_be_bytes w16 big_endian_16 number [] small)

seconds_back : (seconds : ℕ) → seconds < 2 ^ 32 → number_in w32 (to_be_bytes w32 seconds) ≡ Some seconds
seconds_back seconds small = ap (option_map (λ read. read.0)) (number_at-to_be_bytes w32 big_endian_32 seconds [] small)

of_number : (kind : DhcpV4MessageType) → type_of (type_number kind) ≡ Some kind
unfolding type_of type_number
of_number Discovery = refl
of_number Offer = refl
of_number Request = refl
of_number Decline = refl
of_number Ack = refl
of_number Nack = refl
of_number Release = refl
of_number Inform = refl

type_back : (kind : DhcpV4MessageType) → type_in (type_number kind ∷ []) ≡ Some kind
unfolding type_in
type_back kind = ap (λ read. option_map (λ found. found.0) read >>= type_of) (number_at-cons (type_number kind) []) ∙ of_number kind

-- a route that is exact reads back, whatever follows it
pub route_back : (route : DhcpV4ClasslessRoute) (rest : List ℕ) → IsExact route → route_at (written_route route ++ rest) ≡ Some (route, rest)
unfolding route_at written_route
route_back route rest exact =
    let n : ℕ = significant_octets route.prefix_length in
    let front : List ℕ = take n route.destination.octets in
    let many : length front ≡ n = length-take-le n route.destination.octets (omega (arith, exact.whole)) in
    rw (append_assoc front route.router.octets rest, number_at-cons route.prefix_length (front ++ (route.router.octets ++ rest)), bytes_at-append n front (route.router.octets ++ rest) many, address_at-octets route.router rest exact.router, exact.destination) refl

pub routes_back : (routes : List DhcpV4ClasslessRoute) → AllByRecursion IsExact routes → routes_of (flat_map written_route routes) ≡ Some routes
routes_back [] exact = routes_of-nil
routes_back (route ∷ routes) exact =
    routes_of-read _ _ route (route_back route (flat_map written_route routes) exact.0)
    ∙ ap (λ later. later >>= λ routes. Some (route ∷ routes)) (routes_back routes exact.1)

codes_back : (requested : List DhcpV4OptionCode) → map code_of (map number_of requested) ≡ map (λ code. code_of (number_of code)) requested
codes_back [] = refl
codes_back (code ∷ requested) = ap (λ later. code_of (number_of code) ∷ later) (codes_back requested)

-- an option that has a value reads back, whatever follows it
back : (code : DhcpV4OptionCode) (number : ℕ) (value rest : List ℕ) (option : DhcpV4Option) → code_of number ≡ code → ((number == 0) || (number == 255)) ≡ false → value_of code value ≡ Some option → option_at (number ∷ length value ∷ (value ++ rest)) ≡ (Some option, rest)
unfolding option_at
back code number value rest option own valued reads =
    ap (read_after (number ∷ length value ∷ (value ++ rest))) (raw_option_at-valued number value rest valued)
    ∙ ap (λ read. (read, rest)) (ap (λ code. value_of code value) own ∙ reads)

nameless_valued : (number : ℕ) → is_nameless (code_of number) ≡ true → ((number == 0) || (number == 255)) ≡ false
unfolding code_of number_of
nameless_valued number is =
    elim (number == 0) as (λ b. (number == 0) ≡ b → (b || (number == 255)) ≡ false) [
      | true ↦ λ at. absurd (false≢true (ap (λ n. is_nameless (code_of n)) (sym (eqb-true number 0 at)) ∙ is))
      | false ↦ λ _. elim (number == 255) as (λ b. (number == 255) ≡ b → b ≡ false) [
        | true ↦ λ at. absurd (false≢true (ap (λ n. is_nameless (code_of n)) (sym (eqb-true number 255 at)) ∙ is))
        | false ↦ λ _. refl
      ] refl
    ] refl

-- an option that fits reads back, whatever follows it
pub option_back : (option : DhcpV4Option) (rest : List ℕ) → IsTrue (fits option) → ReadsBack option → option_at (written_option option ++ rest) ≡ (Some (with_names option), rest)
unfolding option_at written_option written_value option_code number_of code_of value_of ReadsBack fits
option_back Pad rest fit has = ap (read_after (0 ∷ rest)) (raw_option_at-code_alone 0 rest refl)
option_back End rest fit has = ap (read_after (255 ∷ rest)) (raw_option_at-code_alone 255 rest refl)
option_back (SubnetMask x) rest fit has = back codes.SubnetMask 1 (x.octets) rest (with_names (SubnetMask x)) refl refl (ap (option_map SubnetMask) (address_back x has))
option_back (Router x) rest fit has = back codes.Router 3 (written_addresses x) rest (with_names (Router x)) refl refl (ap (λ addresses. Some (Router addresses)) (addresses_back x has))
option_back (DomainNameServer x) rest fit has = back codes.DomainNameServer 6 (written_addresses x) rest (with_names (DomainNameServer x)) refl refl (ap (λ addresses. Some (DomainNameServer addresses)) (addresses_back x has))
option_back (HostName x) rest fit has = back codes.HostName 12 (written_text x) rest (with_names (HostName x)) refl refl (ap (option_map HostName) (text_back x has))
option_back (DomainName x) rest fit has = back codes.DomainName 15 (written_text x) rest (with_names (DomainName x)) refl refl (ap (option_map DomainName) (text_back x has))
option_back (InterfaceMtu x) rest fit has = back codes.InterfaceMtu 26 (to_be_bytes w16 x) rest (with_names (InterfaceMtu x)) refl refl (ap (option_map InterfaceMtu) (size_back x has))
option_back (BroadcastAddress x) rest fit has = back codes.BroadcastAddress 28 (x.octets) rest (with_names (BroadcastAddress x)) refl refl (ap (option_map BroadcastAddress) (address_back x has))
option_back (NtpServers x) rest fit has = back codes.NtpServers 42 (written_addresses x) rest (with_names (NtpServers x)) refl refl (ap (λ addresses. Some (NtpServers addresses)) (addresses_back x has))
option_back (RequestedIpAddress x) rest fit has = back codes.RequestedIpAddress 50 (x.octets) rest (with_names (RequestedIpAddress x)) refl refl (ap (option_map RequestedIpAddress) (address_back x has))
option_back (IpAddressLeaseTime x) rest fit has = back codes.IpAddressLeaseTime 51 (to_be_bytes w32 x) rest (with_names (IpAddressLeaseTime x)) refl refl (ap (option_map IpAddressLeaseTime) (seconds_back x has))
option_back (MessageType x) rest fit has = back codes.MessageType 53 (type_number x ∷ []) rest (with_names (MessageType x)) refl refl (ap (option_map MessageType) (type_back x))
option_back (ServerIdentifier x) rest fit has = back codes.ServerIdentifier 54 (x.octets) rest (with_names (ServerIdentifier x)) refl refl (ap (option_map ServerIdentifier) (address_back x has))
option_back (ParameterRequestList x) rest fit has = back codes.ParameterRequestList 55 (map number_of x) rest (with_names (ParameterRequestList x)) refl refl (ap (λ codes. Some (ParameterRequestList codes)) (codes_back x))
option_back (Message x) rest fit has = back codes.Message 56 (written_text x) rest (with_names (Message x)) refl refl (ap (option_map Message) (text_back x has))
option_back (RenewalTime x) rest fit has = back codes.RenewalTime 58 (to_be_bytes w32 x) rest (with_names (RenewalTime x)) refl refl (ap (option_map RenewalTime) (seconds_back x has))
option_back (RebindingTime x) rest fit has = back codes.RebindingTime 59 (to_be_bytes w32 x) rest (with_names (RebindingTime x)) refl refl (ap (option_map RebindingTime) (seconds_back x has))
option_back (ClientIdentifier x) rest fit has = back codes.ClientIdentifier 61 (x) rest (with_names (ClientIdentifier x)) refl refl refl
option_back (ClasslessStaticRoute x) rest fit has = back codes.ClasslessStaticRoute 121 (flat_map written_route x) rest (with_names (ClasslessStaticRoute x)) refl refl (ap (option_map ClasslessStaticRoute) (routes_back x has))
option_back (Unknown x) rest fit has =
    let own = (and_parts _ _ fit).1 in
    subst (λ number. option_at (number ∷ length x.raw ∷ (x.raw ++ rest)) ≡ (Some (Unknown x), rest)) (sym (number_of-code_of x.code))
    (back (codes.Other x.code) x.code x.raw rest (Unknown x) (nameless x.code _ refl own) (nameless_valued x.code own) refl)
