-- Values that were read can be written again.
use Rattle.std.proofs.Common.{◌≡◌, ◌&&◌, ℕ, Bool, true, false, cond, eqb, ◌≤◌, length, List, [], ◌∷◌, Option, Some, None, IsTrue, option_map, refl, sym, ap, subst, ◌∙◌}
use Rattle.std.specs.List.{list_all}
use Rattle.std.proofs.lemmas.Bool.{and_from, and_parts, leb-true}
use Rattle.std.proofs.lemmas.Option.{none-some, same_Some, option_and_then_some}
use Rattle.dhcp_wire.specs.Field.{◌>>=◌}
use Rattle.dhcp_wire.specs.Value.{ipv6_address_in, ipv6_addresses_in}
use Rattle.dhcp_wire.specs.RawOption.{RawOptionParts, filling_options}
use Rattle.dhcp_wire.specs.declared.raw_option.OptionFormat.TheVariants.{DhcpV6}
use Rattle.dhcp_wire.proofs.FieldLemmas.{mapped}
use Rattle.dhcp6_opt.specs.declared.duid.DhcpV6Duid.{DhcpV6Duid}
use Rattle.dhcp6_opt.specs.declared.ntp_server.DhcpV6OptionNtpServer.{DhcpV6OptionNtpServer}
use Rattle.dhcp6_opt.specs.declared.ntp_server.DhcpV6OptionNtpServer.TheVariants.{ServerAddr, MulticastAddr, ServerFqdn, Other}
use Rattle.dhcp6_opt.specs.declared.option_code.DhcpV6OptionCode.{DhcpV6OptionCode}
use Rattle.dhcp6_opt.specs.declared.option_code.DhcpV6OptionCode.TheVariants as codes
use Rattle.dhcp6_opt.specs.declared.option.DhcpV6Option.{DhcpV6Option}
use Rattle.dhcp6_opt.specs.declared.option.DhcpV6Option.TheVariants.{ClientId, ServerId, IANA, IATA, IAPD, OptionRequestOption, IAAddr, IAPrefix, Preference, ElapsedTime, ServerUnicast, StatusCode, DnsServers, DomainList, NtpServer}
use Rattle.dhcp6_opt.specs.DomainName.{name_in}
use Rattle.dhcp6_opt.specs.Duid.{written_duid}
use Rattle.dhcp6_opt.specs.NtpServer.{ntp_server_of, ntp_servers_of, ntp_servers_in, ntp_server_fits}
use Rattle.dhcp6_opt.specs.OptionCode.{code_of, number_of}
use Rattle.dhcp6_opt.specs.Value.{codes_in, fits, has_own_code, has_short_value, is_nameless, names_fit, option_code, option_number, said_in, value_of, written_value}
use Rattle.dhcp6_opt.proofs.CodeLemmas.{number_of-code_of}
use Rattle.dhcp6_opt.proofs.NameLaws.{name_fits-name_in, names_in-fit}

-- what holds of each option that is made of a value holds of the option that is made of the value read
made : {A : Type 0} (make : A → DhcpV6Option) (P : DhcpV6Option → Type 0) (read : Option A) (option : DhcpV6Option) → ((x : A) → read ≡ Some x → P (make x)) → option_map make read ≡ Some option → P option
made make P None option holds is = absurd (none-some _ is)
made make P (Some x) option holds is = subst P (same_Some _ _ is) (holds x refl)

-- the suboptions of a value have names that can be written
ntp_server_of-fits : (raw : RawOptionParts) (server : DhcpV6OptionNtpServer) → ntp_server_of raw ≡ Some server → ntp_server_fits server ≡ true
unfolding ntp_server_of
ntp_server_of-fits raw server is = by_type (eqb raw.code 1) (eqb raw.code 2) (eqb raw.code 3) is
  where
    by_type : (one two three : Bool) → cond one (option_map ServerAddr (ipv6_address_in raw.value)) (cond two (option_map MulticastAddr (ipv6_address_in raw.value)) (cond three (option_map ServerFqdn (name_in raw.value)) (Some (Other (raw.code, raw.value))))) ≡ Some server → ntp_server_fits server ≡ true
    by_type true two three is = let found = mapped ServerAddr (ipv6_address_in raw.value) server is in ap ntp_server_fits (sym found.2)
    by_type false true three is = let found = mapped MulticastAddr (ipv6_address_in raw.value) server is in ap ntp_server_fits (sym found.2)
    by_type false false true is = let found = mapped ServerFqdn (name_in raw.value) server is in ap ntp_server_fits (sym found.2) ∙ name_fits-name_in raw.value found.0 found.1
    by_type false false false is = ap ntp_server_fits (sym (same_Some _ _ is))

ntp_servers_of-fit : (raws : List RawOptionParts) (servers : List DhcpV6OptionNtpServer) → ntp_servers_of raws ≡ Some servers → list_all ntp_server_fits servers ≡ true
ntp_servers_of-fit [] servers is = ap (list_all ntp_server_fits) (sym (same_Some _ _ is))
ntp_servers_of-fit (raw ∷ raws) servers is =
    option_and_then_some _ (ntp_server_of raw) _ is (λ server at_server then_servers.
    option_and_then_some _ (ntp_servers_of raws) _ then_servers (λ later at_later made.
    subst (λ servers. list_all ntp_server_fits servers ≡ true) (same_Some _ _ made)
    (and_from _ _ (ntp_server_of-fits raw server at_server) (ntp_servers_of-fit raws later at_later))))

ntp_servers_in-fit : (value : List ℕ) (servers : List DhcpV6OptionNtpServer) → ntp_servers_in value ≡ Some servers → list_all ntp_server_fits servers ≡ true
unfolding ntp_servers_in
ntp_servers_in-fit value servers is =
    option_and_then_some _ (filling_options DhcpV6 value) _ is (λ raws at_raws then_servers. ntp_servers_of-fit raws servers then_servers)

-- what an option must have besides a short value
record IsOf (kind : DhcpV6OptionCode) (option : DhcpV6Option) : Type 0 where
  names : names_fit option ≡ true
  own : has_own_code option ≡ true
  code : option_code option ≡ kind

-- an option of a kind that has no names
plain : {A : Type 0} (code : DhcpV6OptionCode) (make : A → DhcpV6Option) (read : Option A) (option : DhcpV6Option) → ((x : A) → names_fit (make x) ≡ true) → ((x : A) → has_own_code (make x) ≡ true) → ((x : A) → option_code (make x) ≡ code) → option_map make read ≡ Some option → IsOf code option
plain code make read option fit own has is = made make (IsOf code) read option (λ x _. record { names = fit x; own = own x; code = has x }) is

-- an option that a value says, for the code of a number, is of that code
said_in-IsOf : (number : ℕ) (code : DhcpV6OptionCode) (value : List ℕ) (option : DhcpV6Option) → code_of number ≡ code → said_in code value ≡ Some option → IsOf code option
unfolding said_in option_code number_of
said_in-IsOf number codes.ClientId value option is said = plain codes.ClientId ClientId _ option (λ x. refl) (λ x. refl) (λ x. refl) said
said_in-IsOf number codes.ServerId value option is said = plain codes.ServerId ServerId _ option (λ x. refl) (λ x. refl) (λ x. refl) said
said_in-IsOf number codes.IANA value option is said = plain codes.IANA IANA _ option (λ x. refl) (λ x. refl) (λ x. refl) said
said_in-IsOf number codes.IATA value option is said = plain codes.IATA IATA _ option (λ x. refl) (λ x. refl) (λ x. refl) said
said_in-IsOf number codes.IAAddr value option is said = plain codes.IAAddr IAAddr _ option (λ x. refl) (λ x. refl) (λ x. refl) said
said_in-IsOf number codes.OptionRequestOption value option is said = plain codes.OptionRequestOption OptionRequestOption (Some (codes_in value)) option (λ x. refl) (λ x. refl) (λ x. refl) said
said_in-IsOf number codes.Preference value option is said = plain codes.Preference Preference _ option (λ x. refl) (λ x. refl) (λ x. refl) said
said_in-IsOf number codes.ElapsedTime value option is said = plain codes.ElapsedTime ElapsedTime _ option (λ x. refl) (λ x. refl) (λ x. refl) said
said_in-IsOf number codes.ServerUnicast value option is said = plain codes.ServerUnicast ServerUnicast _ option (λ x. refl) (λ x. refl) (λ x. refl) said
said_in-IsOf number codes.StatusCode value option is said = plain codes.StatusCode StatusCode _ option (λ x. refl) (λ x. refl) (λ x. refl) said
said_in-IsOf number codes.RapidCommit value option is said = subst (IsOf codes.RapidCommit) (same_Some _ _ said) (record { names = refl; own = refl; code = refl })
said_in-IsOf number codes.DnsServers value option is said = plain codes.DnsServers DnsServers (Some (ipv6_addresses_in value)) option (λ x. refl) (λ x. refl) (λ x. refl) said
said_in-IsOf number codes.DomainList value option is said = made DomainList (IsOf codes.DomainList) _ option (λ x found. record { names = names_in-fit value x found; own = refl; code = refl }) said
said_in-IsOf number codes.IAPD value option is said = plain codes.IAPD IAPD _ option (λ x. refl) (λ x. refl) (λ x. refl) said
said_in-IsOf number codes.IAPrefix value option is said = plain codes.IAPrefix IAPrefix _ option (λ x. refl) (λ x. refl) (λ x. refl) said
said_in-IsOf number codes.NtpServer value option is said = made NtpServer (IsOf codes.NtpServer) _ option (λ x found. record { names = ntp_servers_in-fit value x found; own = refl; code = refl }) said
said_in-IsOf number (codes.Other other) value option is said =
    let same : other ≡ number = sym (ap number_of is) ∙ number_of-code_of number in
    subst (IsOf (codes.Other other)) (same_Some _ _ said) (record { names = refl; own = ap (λ n. is_nameless (code_of n)) same ∙ ap is_nameless is; code = ap code_of same ∙ is })

-- an option that is read is what is said, and its value is short
kept_if_short : (said : Option DhcpV6Option) (option : DhcpV6Option) → (said >>= λ option. cond (has_short_value option) (Some option) None) ≡ Some option → (said ≡ Some option) × (has_short_value option ≡ true)
kept_if_short None option is = absurd (none-some _ is)
kept_if_short (Some said) option is =
    elim (has_short_value said) as (λ b. has_short_value said ≡ b → cond b (Some said) None ≡ Some option → (Some said ≡ Some option) × (has_short_value option ≡ true)) [
      | true ↦ λ short is. (is, subst (λ option. has_short_value option ≡ true) (same_Some _ _ is) short)
      | false ↦ λ _ is. absurd (none-some _ is)
    ] refl is

-- an option that was read for a number fits
pub fits-value_of : (number : ℕ) (value : List ℕ) (option : DhcpV6Option) → value_of (code_of number) value ≡ Some option → IsTrue (fits option)
unfolding fits value_of
fits-value_of number value option is =
    let kept = kept_if_short (said_in (code_of number) value) option is in
    let of = said_in-IsOf number _ value option refl kept.0 in
    and_from _ _ (and_from _ _ kept.1 of.names) of.own

-- and has it
pub option_number-value_of : (number : ℕ) (value : List ℕ) (option : DhcpV6Option) → value_of (code_of number) value ≡ Some option → option_number option ≡ number
unfolding value_of
option_number-value_of number value option is =
    let kept = kept_if_short (said_in (code_of number) value) option is in
    ap number_of (said_in-IsOf number _ value option refl kept.0).code ∙ number_of-code_of number

-- the value of an option that fits is short
pub short_value : (option : DhcpV6Option) → IsTrue (fits option) → length (written_value option) ≤ 65535
unfolding fits
short_value option fit = leb-true _ _ (and_parts (has_short_value option) (names_fit option) (and_parts (has_short_value option && names_fit option) (has_own_code option) fit).0).0

-- an identifier of a server that can be written is short
pub server_is_short : (duid : DhcpV6Duid) → IsTrue (fits (ServerId duid)) → length (written_duid duid) ≤ 65535
unfolding written_value
server_is_short duid fit = short_value (ServerId duid) fit
