-- The codes of options, RFC 2132: a name for each whose value this library reads, and a number for
-- all.
use Rattle.std.specs.Prelude.{ℕ, ◌==◌, List, [], ◌∷◌, find, unwrap_or}
use Rattle.dhcp4_msg.specs.declared.option_code.DhcpV4OptionCode.{DhcpV4OptionCode}
use Rattle.dhcp4_msg.specs.declared.option_code.DhcpV4OptionCode.TheVariants.{Pad, SubnetMask, Router, DomainNameServer, HostName, DomainName, InterfaceMtu, BroadcastAddress, NtpServers, RequestedIpAddress, IpAddressLeaseTime, MessageType, ServerIdentifier, ParameterRequestList, Message, RenewalTime, RebindingTime, ClientIdentifier, ClasslessStaticRoute, End, Other}

-- the number of a code
unfoldable pub number_of : DhcpV4OptionCode → ℕ
number_of Pad = 0
number_of SubnetMask = 1
number_of Router = 3
number_of DomainNameServer = 6
number_of HostName = 12
number_of DomainName = 15
number_of InterfaceMtu = 26
number_of BroadcastAddress = 28
number_of NtpServers = 42
number_of RequestedIpAddress = 50
number_of IpAddressLeaseTime = 51
number_of MessageType = 53
number_of ServerIdentifier = 54
number_of ParameterRequestList = 55
number_of Message = 56
number_of RenewalTime = 58
number_of RebindingTime = 59
number_of ClientIdentifier = 61
number_of ClasslessStaticRoute = 121
number_of End = 255
number_of (Other number) = number

-- the codes that have a name
abbrev pub named_codes : List DhcpV4OptionCode
named_codes =
    Pad ∷ SubnetMask ∷ Router ∷ DomainNameServer ∷ HostName ∷ DomainName ∷ InterfaceMtu
    ∷ BroadcastAddress ∷ NtpServers ∷ RequestedIpAddress ∷ IpAddressLeaseTime ∷ MessageType
    ∷ ServerIdentifier ∷ ParameterRequestList ∷ Message ∷ RenewalTime ∷ RebindingTime
    ∷ ClientIdentifier ∷ ClasslessStaticRoute ∷ End ∷ []

-- the code of a number: the name that has it, else the number alone
unfoldable pub code_of : ℕ → DhcpV4OptionCode
code_of number = unwrap_or (find (λ code. number_of code == number) named_codes) (Other number)
