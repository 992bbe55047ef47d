-- The codes of options, RFC 8415 section 21, RFC 3646 and RFC 5908: a name for each whose value
-- this library reads, and a number for all.
use Rattle.std.specs.Prelude.{ℕ, ◌==◌, List, [], ◌∷◌, ◌++◌, find, unwrap_or, codes, decimal}
use Rattle.dhcp6_opt.specs.declared.option_code.DhcpV6OptionCode.{DhcpV6OptionCode}
use Rattle.dhcp6_opt.specs.declared.option_code.DhcpV6OptionCode.TheVariants.{ClientId, ServerId, IANA, IATA, IAAddr, OptionRequestOption, Preference, ElapsedTime, ServerUnicast, StatusCode, RapidCommit, DnsServers, DomainList, IAPD, IAPrefix, NtpServer, Other}

-- the number of a code
unfoldable pub number_of : DhcpV6OptionCode → ℕ
number_of ClientId = 1
number_of ServerId = 2
number_of IANA = 3
number_of IATA = 4
number_of IAAddr = 5
number_of OptionRequestOption = 6
number_of Preference = 7
number_of ElapsedTime = 8
number_of ServerUnicast = 12
number_of StatusCode = 13
number_of RapidCommit = 14
number_of DnsServers = 23
number_of DomainList = 24
number_of IAPD = 25
number_of IAPrefix = 26
number_of NtpServer = 56
number_of (Other number) = number

-- the codes that have a name
abbrev pub named_codes : List DhcpV6OptionCode
named_codes =
    ClientId ∷ ServerId ∷ IANA ∷ IATA ∷ IAAddr ∷ OptionRequestOption ∷ Preference ∷ ElapsedTime
    ∷ ServerUnicast ∷ StatusCode ∷ RapidCommit ∷ DnsServers ∷ DomainList ∷ IAPD ∷ IAPrefix
    ∷ NtpServer ∷ []

-- the code of a number: the name that has it, else the number alone
unfoldable pub code_of : ℕ → DhcpV6OptionCode
code_of number = unwrap_or (find (λ code. number_of code == number) named_codes) (Other number)

-- the name of a code, as it is printed
unfoldable pub code_name : DhcpV6OptionCode → List ℕ
code_name ClientId = codes "OPTION_CLIENTID"
code_name ServerId = codes "OPTION_SERVERID"
code_name IANA = codes "OPTION_IA_NA"
code_name IATA = codes "OPTION_IA_TA"
code_name IAAddr = codes "OPTION_IAADDR"
code_name OptionRequestOption = codes "OPTION_ORO"
code_name Preference = codes "OPTION_PREFERENCE"
code_name ElapsedTime = codes "OPTION_ELAPSED_TIME"
code_name ServerUnicast = codes "OPTION_UNICAST"
code_name StatusCode = codes "OPTION_STATUS_CODE"
code_name RapidCommit = codes "OPTION_RAPID_COMMIT"
code_name DnsServers = codes "OPTION_DNS_SERVERS"
code_name DomainList = codes "OPTION_DOMAIN_LIST"
code_name IAPD = codes "OPTION_IA_PD"
code_name IAPrefix = codes "OPTION_IAPREFIX"
code_name NtpServer = codes "OPTION_NTP_SERVER"
code_name (Other number) = codes "Unknown(" ++ decimal number ++ codes ")"
