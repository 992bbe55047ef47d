-- The values of options, RFC 2132: how each reads, and how it is written.
use Rattle.std.specs.Prelude.{◌≡◌, ℕ, ◌&&◌, nat_le, Bool, true, false, List, [], ◌∷◌, ◌++◌, length, map, take, Option, Some, None, IsTrue, option_map}
use Rattle.std.specs.List.{flat_map}
use Rattle.std.specs.Int.{w8, w16, w32, to_be_bytes}
use Rattle.std.specs.Net.Addr.{ipv4_octets}
use Rattle.std.specs.declared.net.Ipv4Addr.{Ipv4Addr}
use Rattle.dhcp_wire.specs.Field.{◌>>=◌}
use Rattle.dhcp_wire.specs.Value.{number_in, address_in, addresses_in, text_in}
use Rattle.dhcp4_msg.specs.declared.option_code.DhcpV4OptionCode.{DhcpV4OptionCode}
use Rattle.dhcp4_msg.specs.declared.option_code.DhcpV4OptionCode.TheVariants as codes
use Rattle.dhcp4_msg.specs.declared.message_type.DhcpV4MessageType.{DhcpV4MessageType}
use Rattle.dhcp4_msg.specs.declared.option.DhcpV4Option.{DhcpV4Option}
use Rattle.dhcp4_msg.specs.declared.option.DhcpV4Option.TheVariants.{Pad, SubnetMask, Router, DomainNameServer, HostName, DomainName, InterfaceMtu, BroadcastAddress, NtpServers, RequestedIpAddress, IpAddressLeaseTime, MessageType, ServerIdentifier, ParameterRequestList, Message, RenewalTime, RebindingTime, ClientIdentifier, ClasslessStaticRoute, End, Unknown}
use Rattle.dhcp4_msg.specs.declared.route.DhcpV4ClasslessRoute.{DhcpV4ClasslessRoute}
use Rattle.dhcp4_msg.specs.OptionCode.{number_of, code_of}
use Rattle.dhcp4_msg.specs.MessageType.{type_number, type_of}
use Rattle.dhcp4_msg.specs.Route.{routes_of, written_route}

-- The kinds of values, as they read: numbers, addresses and texts as in every option list.

-- a message type
unfoldable pub type_in : List ℕ → Option DhcpV4MessageType
type_in value = number_in w8 value >>= type_of

-- what the value of each code reads as
unfoldable pub value_of : DhcpV4OptionCode → List ℕ → Option DhcpV4Option
value_of codes.Pad value = Some Pad
value_of codes.SubnetMask value = option_map SubnetMask (address_in value)
value_of codes.Router value = Some (Router (addresses_in value))
value_of codes.DomainNameServer value = Some (DomainNameServer (addresses_in value))
value_of codes.HostName value = option_map HostName (text_in value)
value_of codes.DomainName value = option_map DomainName (text_in value)
value_of codes.InterfaceMtu value = option_map InterfaceMtu (number_in w16 value)
value_of codes.BroadcastAddress value = option_map BroadcastAddress (address_in value)
value_of codes.NtpServers value = Some (NtpServers (addresses_in value))
value_of codes.RequestedIpAddress value = option_map RequestedIpAddress (address_in value)
value_of codes.IpAddressLeaseTime value = option_map IpAddressLeaseTime (number_in w32 value)
value_of codes.MessageType value = option_map MessageType (type_in value)
value_of codes.ServerIdentifier value = option_map ServerIdentifier (address_in value)
value_of codes.ParameterRequestList value = Some (ParameterRequestList (map code_of value))
value_of codes.Message value = option_map Message (text_in value)
value_of codes.RenewalTime value = option_map RenewalTime (number_in w32 value)
value_of codes.RebindingTime value = option_map RebindingTime (number_in w32 value)
value_of codes.ClientIdentifier value = Some (ClientIdentifier value)
value_of codes.ClasslessStaticRoute value = option_map ClasslessStaticRoute (routes_of value)
value_of codes.End value = Some End
value_of (codes.Other number) value = Some (Unknown (record { code = number; raw = value }))

-- The kinds of values, as they are written.

-- addresses one after the other
abbrev pub written_addresses : List Ipv4Addr → List ℕ
written_addresses addresses = flat_map (λ address. ipv4_octets address) addresses

-- at most 254 bytes of a text, from the first on, and a zero byte
abbrev pub written_text : List ℕ → List ℕ
written_text text = take 254 text ++ 0 ∷ []

-- the value of each option as it is written
unfoldable pub written_value : DhcpV4Option → List ℕ
written_value Pad = []
written_value (SubnetMask address) = ipv4_octets address
written_value (Router addresses) = written_addresses addresses
written_value (DomainNameServer addresses) = written_addresses addresses
written_value (HostName text) = written_text text
written_value (DomainName text) = written_text text
written_value (InterfaceMtu number) = to_be_bytes w16 number
written_value (BroadcastAddress address) = ipv4_octets address
written_value (NtpServers addresses) = written_addresses addresses
written_value (RequestedIpAddress address) = ipv4_octets address
written_value (IpAddressLeaseTime seconds) = to_be_bytes w32 seconds
written_value (MessageType kind) = type_number kind ∷ []
written_value (ServerIdentifier address) = ipv4_octets address
written_value (ParameterRequestList requested) = map number_of requested
written_value (Message text) = written_text text
written_value (RenewalTime seconds) = to_be_bytes w32 seconds
written_value (RebindingTime seconds) = to_be_bytes w32 seconds
written_value (ClientIdentifier bytes) = bytes
written_value (ClasslessStaticRoute routes) = flat_map written_route routes
written_value End = []
written_value (Unknown option) = option.raw

-- the code of each option; that of an unknown one is the name that its number has, if any
unfoldable pub option_code : DhcpV4Option → DhcpV4OptionCode
option_code Pad = codes.Pad
option_code (SubnetMask address) = codes.SubnetMask
option_code (Router addresses) = codes.Router
option_code (DomainNameServer addresses) = codes.DomainNameServer
option_code (HostName text) = codes.HostName
option_code (DomainName text) = codes.DomainName
option_code (InterfaceMtu number) = codes.InterfaceMtu
option_code (BroadcastAddress address) = codes.BroadcastAddress
option_code (NtpServers addresses) = codes.NtpServers
option_code (RequestedIpAddress address) = codes.RequestedIpAddress
option_code (IpAddressLeaseTime seconds) = codes.IpAddressLeaseTime
option_code (MessageType kind) = codes.MessageType
option_code (ServerIdentifier address) = codes.ServerIdentifier
option_code (ParameterRequestList requested) = codes.ParameterRequestList
option_code (Message text) = codes.Message
option_code (RenewalTime seconds) = codes.RenewalTime
option_code (RebindingTime seconds) = codes.RebindingTime
option_code (ClientIdentifier bytes) = codes.ClientIdentifier
option_code (ClasslessStaticRoute routes) = codes.ClasslessStaticRoute
option_code End = codes.End
option_code (Unknown option) = code_of option.code

-- the number of an option
abbrev pub option_number : DhcpV4Option → ℕ
option_number option = number_of (option_code option)

-- the bytes of an option: its number, the length of its value and the value; Pad and End are their
-- number alone
unfoldable pub written_option : DhcpV4Option → List ℕ
written_option Pad = 0 ∷ []
written_option End = 255 ∷ []
written_option option =
    let value = written_value option in option_number option ∷ length value ∷ value

-- whether a number has no name
abbrev pub is_nameless : DhcpV4OptionCode → Bool
is_nameless (codes.Other number) = true
is_nameless _ = false

-- an unknown option has a number that has no name
abbrev pub has_own_code : DhcpV4Option → Bool
has_own_code (Unknown option) = is_nameless (code_of option.code)
has_own_code _ = true

-- whether an option can be written: its value has at most 255 bytes, and an unknown option has a
-- number that has no name
unfoldable pub fits : DhcpV4Option → Bool
fits option = nat_le (length (written_value option)) 255 && has_own_code option

-- ---- what an option says, by the kind of its value

-- one address
abbrev pub address_said : DhcpV4Option → Option Ipv4Addr
address_said (SubnetMask address) = Some address
address_said (BroadcastAddress address) = Some address
address_said (RequestedIpAddress address) = Some address
address_said (ServerIdentifier address) = Some address
address_said _ = None

-- a list of addresses
abbrev pub addresses_said : DhcpV4Option → Option (List Ipv4Addr)
addresses_said (Router addresses) = Some addresses
addresses_said (DomainNameServer addresses) = Some addresses
addresses_said (NtpServers addresses) = Some addresses
addresses_said _ = None

-- a text
abbrev pub text_said : DhcpV4Option → Option (List ℕ)
text_said (HostName text) = Some text
text_said (DomainName text) = Some text
text_said (Message text) = Some text
text_said _ = None

-- a size in bytes
abbrev pub size_said : DhcpV4Option → Option ℕ
size_said (InterfaceMtu size) = Some size
size_said _ = None

-- a time in seconds
abbrev pub seconds_said : DhcpV4Option → Option ℕ
seconds_said (IpAddressLeaseTime seconds) = Some seconds
seconds_said (RenewalTime seconds) = Some seconds
seconds_said (RebindingTime seconds) = Some seconds
seconds_said _ = None

-- a message type
abbrev pub type_said : DhcpV4Option → Option DhcpV4MessageType
type_said (MessageType kind) = Some kind
type_said _ = None

-- the codes that are requested
abbrev pub codes_said : DhcpV4Option → Option (List DhcpV4OptionCode)
codes_said (ParameterRequestList requested) = Some requested
codes_said _ = None

-- bytes as they stand: a client identifier, or the value of an unknown option
abbrev pub bytes_said : DhcpV4Option → Option (List ℕ)
bytes_said (ClientIdentifier bytes) = Some bytes
bytes_said (Unknown option) = Some option.raw
bytes_said _ = None

-- routes; those of an unknown option are the ones that fill its bytes exactly
abbrev pub routes_said : DhcpV4Option → Option (List DhcpV4ClasslessRoute)
routes_said (ClasslessStaticRoute routes) = Some routes
routes_said (Unknown option) = routes_of option.raw
routes_said _ = None

-- ---- the options of each code

-- an option of one variant
abbrev pub IsMadeBy : {X : Type 0} → (X → DhcpV4Option) → DhcpV4Option → Type 0
IsMadeBy {X = X} make option = (value : X) × (option ≡ make value)

-- The options of a code: of a name those of its variant, of a number alone those of that number.
abbrev pub IsOfCode : DhcpV4OptionCode → DhcpV4Option → Type 0
IsOfCode codes.Pad option = option ≡ Pad
IsOfCode codes.SubnetMask option = IsMadeBy SubnetMask option
IsOfCode codes.Router option = IsMadeBy Router option
IsOfCode codes.DomainNameServer option = IsMadeBy DomainNameServer option
IsOfCode codes.HostName option = IsMadeBy HostName option
IsOfCode codes.DomainName option = IsMadeBy DomainName option
IsOfCode codes.InterfaceMtu option = IsMadeBy InterfaceMtu option
IsOfCode codes.BroadcastAddress option = IsMadeBy BroadcastAddress option
IsOfCode codes.NtpServers option = IsMadeBy NtpServers option
IsOfCode codes.RequestedIpAddress option = IsMadeBy RequestedIpAddress option
IsOfCode codes.IpAddressLeaseTime option = IsMadeBy IpAddressLeaseTime option
IsOfCode codes.MessageType option = IsMadeBy MessageType option
IsOfCode codes.ServerIdentifier option = IsMadeBy ServerIdentifier option
IsOfCode codes.ParameterRequestList option = IsMadeBy ParameterRequestList option
IsOfCode codes.Message option = IsMadeBy Message option
IsOfCode codes.RenewalTime option = IsMadeBy RenewalTime option
IsOfCode codes.RebindingTime option = IsMadeBy RebindingTime option
IsOfCode codes.ClientIdentifier option = IsMadeBy ClientIdentifier option
IsOfCode codes.ClasslessStaticRoute option = IsMadeBy ClasslessStaticRoute option
IsOfCode codes.End option = option ≡ End
IsOfCode (codes.Other number) option = option_number option ≡ number

-- an option that is kept under a code: it has the number of that code, can be written, and is of
-- that code
pub record IsKeptAs (code : DhcpV4OptionCode) (option : DhcpV4Option) : Type 0 where
  pub own : option_number option ≡ number_of code
  pub fit : IsTrue (fits option)
  pub kind : IsOfCode code option
