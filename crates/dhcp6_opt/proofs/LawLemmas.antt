-- Options read back as they are written.
use Rattle.std.proofs.Common.{◌≡◌, ℕ, ◌*◌, ◌<◌, ◌^◌, true, cond, leb, List, [], ◌∷◌, ◌++◌, drop, length, length-append, map, Some, None, IsTrue, option_map, refl, sym, ap, ◌∙◌, arith}
use Rattle.std.specs.Int.{w16, to_be_bytes}
use Rattle.std.specs.List.{AllByRecursion, flat_map}
use Rattle.std.specs.Net.Addr.{IsIpv6Addr, ipv6_octets, ipv6_segments}
use Rattle.std.specs.declared.net.Ipv6Addr.{Ipv6Addr}
use Rattle.std.proofs.lemmas.Bool.{and_parts, le-leb}
use Rattle.std.proofs.lemmas.List.{take_at, drop_at}
use Rattle.std.proofs.lemmas.List.Concat.{flat_map-cons}
use Rattle.std.proofs.lemmas.Option.{same_Some}
use Rattle.std.proofs.lemmas.Nat.{from_be_bytes-to_be_bytes_2}
use Rattle.dhcp_wire.specs.Field.{◌>>=◌, ipv6_address_of}
use Rattle.dhcp_wire.specs.RawOption.{raw_option_at}
use Rattle.dhcp_wire.specs.Value.{ipv6_addresses_in}
use Rattle.dhcp_wire.specs.declared.raw_option.OptionFormat.TheVariants.{DhcpV6}
use Rattle.dhcp_wire.proofs.AddressLemmas.{first_group, no_group}
use Rattle.dhcp_wire.proofs.FieldLaws.{big_endian_16, bytes_at-append, ipv6_address_at-octets, length-octets_of, number_at-byte, number_at-to_be_bytes}
use Rattle.dhcp6_opt.specs.declared.duid.DhcpV6Duid.{DhcpV6Duid}
use Rattle.dhcp6_opt.specs.declared.option_code.DhcpV6OptionCode.{DhcpV6OptionCode}
use Rattle.dhcp6_opt.specs.declared.option.DhcpV6Option.{DhcpV6Option}
use Rattle.dhcp6_opt.specs.declared.option.DhcpV6Option.TheVariants.{ClientId, ServerId, IANA, IATA, IAPD, OptionRequestOption, IAAddr, IAPrefix, Preference, ElapsedTime, ServerUnicast, StatusCode, RapidCommit, DnsServers, DomainList, NtpServer, Unknown}
use Rattle.dhcp6_opt.specs.Laws.{CodeHasWidth, HasWidths, IsInRange, duid_read_back, read_back}
use Rattle.dhcp6_opt.specs.OptionCode.{code_of, number_of}
use Rattle.dhcp6_opt.specs.Options.{option_at, read_after}
use Rattle.dhcp6_opt.specs.Value.{codes_in, fits, has_short_value, option_code, option_number, said_in, value_of, written_addresses, written_code, written_option, written_value}
use Rattle.dhcp6_opt.proofs.CodeLemmas.{nameless, number_of-code_of}
use Rattle.dhcp6_opt.proofs.DuidLaws.{duid_back, written_duid-read_back}
use Rattle.dhcp6_opt.proofs.IaLaws.{ia_address_back, ia_na_back, ia_pd_back, ia_prefix_back, ia_ta_back, raw_option_at-as_option, status_back}
use Rattle.dhcp6_opt.proofs.NameReadLaws.{names_back}
use Rattle.dhcp6_opt.proofs.NtpLaws.{ipv6_address_in-octets, servers_back}
use Rattle.dhcp6_opt.proofs.ValueLemmas.{short_value}

-- ---- lists of codes and of addresses

-- the code of a number of two bytes
one_code : (number : ℕ) (later : List ℕ) → number < 2 ^ 16 → codes_in (to_be_bytes w16 number ++ later) ≡ code_of number ∷ codes_in later
one_code number later small = ap (λ n. code_of n ∷ codes_in later) (from_be_bytes-to_be_bytes_2 number small)

-- codes read back under the names of their numbers
codes_back : (requested : List DhcpV6OptionCode) → AllByRecursion CodeHasWidth requested → codes_in (flat_map written_code requested) ≡ map (λ code. code_of (number_of code)) requested
codes_back [] widths = refl
codes_back (code ∷ requested) widths =
    ap codes_in (flat_map-cons written_code code requested)
    ∙ one_code (number_of code) (flat_map written_code requested) widths.0
    ∙ ap (λ later. code_of (number_of code) ∷ later) (codes_back requested widths.1)

-- and as the same bytes
written_codes-back : (requested : List DhcpV6OptionCode) → flat_map written_code (map (λ code. code_of (number_of code)) requested) ≡ flat_map written_code requested
written_codes-back [] = refl
written_codes-back (code ∷ requested) =
    let named : DhcpV6OptionCode = code_of (number_of code) in
    flat_map-cons written_code named (map (λ code. code_of (number_of code)) requested)
    ∙ ap (λ n. to_be_bytes w16 n ++ flat_map written_code (map (λ code. code_of (number_of code)) requested)) (number_of-code_of (number_of code))
    ∙ ap (λ later. written_code code ++ later) (written_codes-back requested)
    ∙ sym (flat_map-cons written_code code requested)

-- addresses one after the other read back
addresses_back : (addresses : List Ipv6Addr) → AllByRecursion IsIpv6Addr addresses → ipv6_addresses_in (written_addresses addresses) ≡ addresses
addresses_back [] whole = no_group [] (omega arith)
addresses_back (address ∷ addresses) whole =
    let octets : List ℕ = ipv6_octets address in
    let later : List ℕ = written_addresses addresses in
    let sixteen : length octets ≡ 16 = length-octets_of (ipv6_segments address) ∙ ap (λ n. 2 * n) whole.0.0 in
    let made : ipv6_address_of octets ≡ address =
    let read = ap (option_map (λ read. (ipv6_address_of read.0, read.1))) (bytes_at-append 16 octets [] sixteen) in
    ap (λ pair. pair.0) (same_Some _ _ (sym read ∙ ipv6_address_at-octets address [] whole.0)) in
    ap ipv6_addresses_in (flat_map-cons (λ address. ipv6_octets address) address addresses)
    ∙ first_group (octets ++ later) (omega (arith, sixteen, length-append octets later))
    ∙ ap (λ front. ipv6_address_of front ∷ ipv6_addresses_in (drop 16 (octets ++ later))) (take_at octets later 16 sixteen)
    ∙ ap (λ rest. ipv6_address_of octets ∷ ipv6_addresses_in rest) (drop_at octets later 16 sixteen)
    ∙ ap (λ first. first ∷ ipv6_addresses_in later) made
    ∙ ap (λ later. address ∷ later) (addresses_back addresses whole.1)

-- ---- options

-- the number of an option
small_number : (option : DhcpV6Option) → HasWidths option → option_number option < 2 ^ 16
unfolding HasWidths option_code number_of
small_number (Unknown option) widths = omega (arith, widths, number_of-code_of option.code)
small_number _ widths = omega arith

-- what holds of an option and itself, and of identifiers and requested codes and what they read back as, holds of each option and what it reads back as
of_read_back : (P : DhcpV6Option → DhcpV6Option → Type 0) → ((option : DhcpV6Option) → P option option) → ((duid : DhcpV6Duid) → P (ClientId duid) (ClientId (duid_read_back duid))) → ((duid : DhcpV6Duid) → P (ServerId duid) (ServerId (duid_read_back duid))) → ((requested : List DhcpV6OptionCode) → P (OptionRequestOption requested) (OptionRequestOption (map (λ code. code_of (number_of code)) requested))) → (option : DhcpV6Option) → P option (read_back option)
of_read_back P same client server asked (ClientId duid) = client duid
of_read_back P same client server asked (ServerId duid) = server duid
of_read_back P same client server asked (OptionRequestOption requested) = asked requested
of_read_back P same client server asked option = same option

-- an option reads back as one of the same number,
pub option_number-read_back : (option : DhcpV6Option) → option_number (read_back option) ≡ option_number option
unfolding option_code
option_number-read_back option = of_read_back (λ option read. option_number read ≡ option_number option) (λ option. refl) (λ duid. refl) (λ duid. refl) (λ requested. refl) option

-- and of the same value
written_value-read_back : (option : DhcpV6Option) → HasWidths option → written_value (read_back option) ≡ written_value option
unfolding written_value HasWidths
written_value-read_back option =
    of_read_back (λ option read. HasWidths option → written_value read ≡ written_value option) (λ option widths. refl)
    (λ duid widths. written_duid-read_back duid widths) (λ duid widths. written_duid-read_back duid widths) (λ requested widths. written_codes-back requested) option

-- its value says what is read back
said_back : (option : DhcpV6Option) → IsTrue (fits option) → HasWidths option → IsInRange option → said_in (code_of (option_number option)) (written_value option) ≡ Some (read_back option)
unfolding said_in written_value option_code code_of number_of HasWidths IsInRange fits
said_back (ClientId duid) fit widths range = ap (option_map ClientId) (duid_back duid widths range)
said_back (ServerId duid) fit widths range = ap (option_map ServerId) (duid_back duid widths range)
said_back (IANA ia) fit widths range = ap (option_map IANA) (ia_na_back ia widths range (omega (arith, short_value (IANA ia) fit)))
said_back (IATA ia) fit widths range = ap (option_map IATA) (ia_ta_back ia widths range (omega (arith, short_value (IATA ia) fit)))
said_back (IAPD ia) fit widths range = ap (option_map IAPD) (ia_pd_back ia widths range (omega (arith, short_value (IAPD ia) fit)))
said_back (OptionRequestOption requested) fit widths range = ap (λ codes. Some (OptionRequestOption codes)) (codes_back requested widths)
said_back (IAAddr address) fit widths range = ap (option_map IAAddr) (ia_address_back address widths range (omega (arith, short_value (IAAddr address) fit)))
said_back (IAPrefix prefix) fit widths range = ap (option_map IAPrefix) (ia_prefix_back prefix widths range (omega (arith, short_value (IAPrefix prefix) fit)))
said_back (Preference number) fit widths range = ap (λ read. option_map Preference (option_map (λ read. read.0) read)) (number_at-byte number [] widths)
said_back (ElapsedTime hundredths) fit widths range = ap (λ read. option_map ElapsedTime (option_map (λ read. read.0) read)) (number_at-to_be_bytes w16 big_endian_16 hundredths [] widths)
said_back (ServerUnicast address) fit widths range = ap (option_map ServerUnicast) (ipv6_address_in-octets address widths)
said_back (StatusCode status) fit widths range = ap (option_map StatusCode) (status_back status widths range)
said_back RapidCommit fit widths range = refl
said_back (DnsServers addresses) fit widths range = ap (λ addresses. Some (DnsServers addresses)) (addresses_back addresses widths)
said_back (DomainList names) fit widths range = ap (option_map DomainList) (names_back names widths (and_parts _ _ (and_parts _ _ fit).0).1)
said_back (NtpServer servers) fit widths range =
    ap (option_map NtpServer) (servers_back servers widths (and_parts _ _ (and_parts _ _ fit).0).1 range (omega (arith, short_value (NtpServer servers) fit)))
said_back (Unknown option) fit widths range =
    let own = nameless option.code _ refl (and_parts _ _ fit).1 in
    ap (λ number. said_in (code_of number) option.raw) (number_of-code_of option.code) ∙ ap (λ code. said_in code option.raw) own

-- what an option is written as is found at the front, whatever follows it,
pub raw_option_back : (option : DhcpV6Option) (rest : List ℕ) → IsTrue (fits option) → HasWidths option → raw_option_at DhcpV6 (written_option option ++ rest) ≡ Some (record { code = option_number option; value = written_value option }, rest)
unfolding written_option
raw_option_back option rest fit widths =
    raw_option_at-as_option (option_number option) (written_value option) rest (small_number option widths) (omega (arith, short_value option fit))

-- and reads
pub value_back : (option : DhcpV6Option) → IsTrue (fits option) → HasWidths option → IsInRange option → value_of (code_of (option_number option)) (written_value option) ≡ Some (read_back option)
unfolding value_of
value_back option fit widths range =
    let again : has_short_value (read_back option) ≡ true =
    ap (λ bytes. leb (length bytes) 65535) (written_value-read_back option widths) ∙ le-leb (length (written_value option)) 65535 (short_value option fit) in
    ap (λ said. said >>= λ option. cond (has_short_value option) (Some option) None) (said_back option fit widths range)
    ∙ ap (λ b. cond b (Some (read_back option)) None) again

-- an option that fits and is in range reads back, whatever follows it
pub option_back : (option : DhcpV6Option) (rest : List ℕ) → IsTrue (fits option) → HasWidths option → IsInRange option → option_at (written_option option ++ rest) ≡ (Some (read_back option), rest)
unfolding option_at
option_back option rest fit widths range =
    ap (read_after (written_option option ++ rest)) (raw_option_back option rest fit widths) ∙ ap (λ read. (read, rest)) (value_back option fit widths range)
