-- Values that read back as they are written.
use Rattle.std.specs.Prelude.{◌≡◌, ℕ, ◌<◌, ◌≤◌, ◌^◌, List, length, take, map, Some, IsTrue, IfSome}
use Rattle.std.specs.List.{AllByRecursion}
use Rattle.std.specs.Str.{IsUtf8}
use Rattle.std.specs.FinMap.{get, insert, entries, from_entries}
use Rattle.std.specs.Net.Addr.{ipv4_octets}
use Rattle.std.specs.declared.net.Ipv4Addr.{Ipv4Addr}
use Rattle.dhcp_wire.specs.Field.{HasNoZero, FitsField}
use Rattle.dhcp4_msg.specs.declared.route.DhcpV4ClasslessRoute.{DhcpV4ClasslessRoute}
use Rattle.dhcp4_msg.specs.declared.message.DhcpV4Message.{DhcpV4Message}
use Rattle.dhcp4_msg.specs.declared.option.DhcpV4Option.{DhcpV4Option}
use Rattle.dhcp4_msg.specs.declared.option.DhcpV4Option.TheVariants.{Pad, SubnetMask, Router, DomainNameServer, HostName, DomainName, InterfaceMtu, BroadcastAddress, NtpServers, RequestedIpAddress, IpAddressLeaseTime, MessageType, ServerIdentifier, ParameterRequestList, Message, RenewalTime, RebindingTime, ClientIdentifier, ClasslessStaticRoute, End, Unknown}
use Rattle.dhcp4_msg.specs.OptionCode.{number_of, code_of}
use Rattle.dhcp4_msg.specs.Options.{OptionMap, said_by}
use Rattle.dhcp4_msg.specs.Route.{significant_octets, padded_octets}
use Rattle.dhcp4_msg.specs.Value.{option_number, fits, text_said, routes_said}

-- an address has four octets
abbrev pub IsWhole : Ipv4Addr → Type 0
IsWhole address = length (ipv4_octets address) ≡ 4

-- a text that an option holds whole: UTF-8 without a zero byte, of at most 254 bytes
pub record FitsOption (text : List ℕ) : Type 0 where
  pub is_short : length text ≤ 254
  pub is_utf8 : IsUtf8 text
  pub has_no_zero : HasNoZero text

-- the octets of a destination that its width does not cover are zero
abbrev pub HasExactDestination : DhcpV4ClasslessRoute → Type 0
HasExactDestination route =
    let octets = ipv4_octets route.destination in
    padded_octets (take (significant_octets route.prefix_length) octets) ≡ octets

-- a route with such a destination and whole addresses
pub record IsExact (route : DhcpV4ClasslessRoute) : Type 0 where
  pub whole : IsWhole route.destination
  pub destination : HasExactDestination route
  pub router : IsWhole route.router

-- the values that read back: numbers of their width, whole addresses, texts that an option holds,
-- routes that are exact
unfoldable pub ReadsBack : DhcpV4Option → Type 0
ReadsBack Pad = Unit {0}
ReadsBack (SubnetMask address) = IsWhole address
ReadsBack (Router addresses) = AllByRecursion IsWhole addresses
ReadsBack (DomainNameServer addresses) = AllByRecursion IsWhole addresses
ReadsBack (HostName text) = FitsOption text
ReadsBack (DomainName text) = FitsOption text
ReadsBack (InterfaceMtu number) = number < 2 ^ 16
ReadsBack (BroadcastAddress address) = IsWhole address
ReadsBack (NtpServers addresses) = AllByRecursion IsWhole addresses
ReadsBack (RequestedIpAddress address) = IsWhole address
ReadsBack (IpAddressLeaseTime seconds) = seconds < 2 ^ 32
ReadsBack (MessageType kind) = Unit {0}
ReadsBack (ServerIdentifier address) = IsWhole address
ReadsBack (ParameterRequestList requested) = Unit {0}
ReadsBack (Message text) = FitsOption text
ReadsBack (RenewalTime seconds) = seconds < 2 ^ 32
ReadsBack (RebindingTime seconds) = seconds < 2 ^ 32
ReadsBack (ClientIdentifier bytes) = Unit {0}
ReadsBack (ClasslessStaticRoute routes) = AllByRecursion IsExact routes
ReadsBack End = Unit {0}
ReadsBack (Unknown option) = Unit {0}

-- the same option, with each code that it requests under the name of its number: equal to it, since
-- codes compare by number
abbrev pub with_names : DhcpV4Option → DhcpV4Option
with_names (ParameterRequestList requested) =
    ParameterRequestList (map (λ code. code_of (number_of code)) requested)
with_names option = option

-- an option that reads back under a number: it is its own and a byte, and the option fits and has
-- a value that reads back
pub record ReadsBackUnder (number : ℕ) (option : DhcpV4Option) : Type 0 where
  pub is_byte : number < 2 ^ 8
  pub is_own : option_number option ≡ number
  pub fit : IsTrue (fits option)
  pub reads_back : ReadsBack option

-- the options of a list that reads back
abbrev pub OptionsReadBack : OptionMap → Type 0
OptionsReadBack options =
    (number : ℕ) (option : DhcpV4Option)
    → get options number ≡ Some option
    → ReadsBackUnder number option

-- A message that reads back: its numbers have their widths, its addresses four octets and the
-- hardware address sixteen bytes, its texts fit their fields, and each of its options reads back
-- under its number.
pub record MessageReadsBack (message : DhcpV4Message) : Type 0 where
  pub op : message.op < 2 ^ 8
  pub htype : message.htype < 2 ^ 8
  pub hlen : message.hlen < 2 ^ 8
  pub hops : message.hops < 2 ^ 8
  pub xid : message.xid < 2 ^ 32
  pub secs : message.secs < 2 ^ 16
  pub flags : message.flags < 2 ^ 16
  pub ciaddr : IsWhole message.ciaddr
  pub yiaddr : IsWhole message.yiaddr
  pub siaddr : IsWhole message.siaddr
  pub giaddr : IsWhole message.giaddr
  pub chaddr : length message.chaddr ≡ 16
  pub sname : FitsField 64 message.sname
  pub file : FitsField 128 message.file
  pub options : OptionsReadBack message.options

-- ---- what a caller has to show of a value that it was handed

-- an option whose text or routes are in range
unfoldable pub IsInRange : DhcpV4Option → Type 0
IsInRange (HostName text) = FitsOption text
IsInRange (DomainName text) = FitsOption text
IsInRange (Message text) = FitsOption text
IsInRange (ClasslessStaticRoute routes) = AllByRecursion HasExactDestination routes
IsInRange option = Unit {0}

-- options whose texts and routes are in range: those under 12, 15, 56 and 121
pub record AreInRange (options : OptionMap) : Type 0 where
  pub host_name : IfSome (said_by text_said options 12) FitsOption
  pub domain_name : IfSome (said_by text_said options 15) FitsOption
  pub message : IfSome (said_by text_said options 56) FitsOption
  pub routes : IfSome (said_by routes_said options 121) (AllByRecursion HasExactDestination)

-- a message whose texts and routes are in range
pub record MessageIsInRange (message : DhcpV4Message) : Type 0 where
  pub sname : FitsField 64 message.sname
  pub file : FitsField 128 message.file
  pub options : AreInRange message.options

-- a route whose addresses are whole
pub record HasWholeAddresses (route : DhcpV4ClasslessRoute) : Type 0 where
  pub destination : IsWhole route.destination
  pub router : IsWhole route.router

-- what every option of the type has: numbers of their width, and whole addresses
unfoldable pub HasWidths : DhcpV4Option → Type 0
HasWidths (SubnetMask address) = IsWhole address
HasWidths (Router addresses) = AllByRecursion IsWhole addresses
HasWidths (DomainNameServer addresses) = AllByRecursion IsWhole addresses
HasWidths (InterfaceMtu number) = number < 2 ^ 16
HasWidths (BroadcastAddress address) = IsWhole address
HasWidths (NtpServers addresses) = AllByRecursion IsWhole addresses
HasWidths (RequestedIpAddress address) = IsWhole address
HasWidths (IpAddressLeaseTime seconds) = seconds < 2 ^ 32
HasWidths (ServerIdentifier address) = IsWhole address
HasWidths (RenewalTime seconds) = seconds < 2 ^ 32
HasWidths (RebindingTime seconds) = seconds < 2 ^ 32
HasWidths (ClasslessStaticRoute routes) = AllByRecursion HasWholeAddresses routes
HasWidths option = Unit {0}

-- an option that is kept under a number of the type: it is its own and a byte, and the option fits
-- and has its widths
pub record StandsUnder (number : ℕ) (option : DhcpV4Option) : Type 0 where
  pub is_byte : number < 2 ^ 8
  pub is_own : option_number option ≡ number
  pub fit : IsTrue (fits option)
  pub widths : HasWidths option

-- so do all options of a map
abbrev pub AllStand : OptionMap → Type 0
AllStand options =
    (number : ℕ) (option : DhcpV4Option)
    → get options number ≡ Some option
    → StandsUnder number option

-- what the numbers of every message of the type have
pub record NumberWidths (message : DhcpV4Message) : Type 0 where
  pub op : message.op < 2 ^ 8
  pub htype : message.htype < 2 ^ 8
  pub hlen : message.hlen < 2 ^ 8
  pub hops : message.hops < 2 ^ 8
  pub xid : message.xid < 2 ^ 32
  pub secs : message.secs < 2 ^ 16
  pub flags : message.flags < 2 ^ 16

-- and its addresses
pub record AddressWidths (message : DhcpV4Message) : Type 0 where
  pub ciaddr : IsWhole message.ciaddr
  pub yiaddr : IsWhole message.yiaddr
  pub siaddr : IsWhole message.siaddr
  pub giaddr : IsWhole message.giaddr
  pub chaddr : length message.chaddr ≡ 16

-- what every message of the type has
pub record MessageWidths (message : DhcpV4Message) : Type 0 where
  pub numbers : NumberWidths message
  pub addresses : AddressWidths message
  pub options : AllStand message.options

-- ---- what is read back

-- the same options, each with names
abbrev pub all_with_names : OptionMap → OptionMap
all_with_names options =
    from_entries (map (λ entry. (entry.0, with_names entry.1)) (entries options))

-- options as they read back: with names, and End, which is written where it isn't there
abbrev pub options_read_back : OptionMap → OptionMap
options_read_back options = insert (all_with_names options) 255 End

-- a message as it reads back: with its options as they do
abbrev pub read_back : DhcpV4Message → DhcpV4Message
read_back message = record message { options = options_read_back message.options }
