-- Values that read back as they are written.
use Rattle.std.specs.Prelude.{◌≡◌, ◌≢◌, ℕ, ◌<◌, ◌≤◌, ◌^◌, List, [], length, map, Option, unwrap_or, IfSome, IsTrue}
use Rattle.std.specs.FinMap.{entries, from_entries, values}
use Rattle.std.specs.List.{All, AllByRecursion}
use Rattle.std.specs.Net.Addr.{IsIpv6Addr}
use Rattle.std.specs.Str.{IsUtf8}
use Rattle.dhcp6_opt.specs.declared.duid.DhcpV6Duid.{DhcpV6Duid}
use Rattle.dhcp6_opt.specs.declared.duid.DhcpV6Duid.TheVariants.{LinkLayerAddressPlusTime, EnterpriseNumber, LinkLayerAddress, UUID, Raw}
use Rattle.dhcp6_opt.specs.declared.ia.DhcpV6OptionIaNa.{DhcpV6OptionIaNa}
use Rattle.dhcp6_opt.specs.declared.ia.DhcpV6OptionIaTa.{DhcpV6OptionIaTa}
use Rattle.dhcp6_opt.specs.declared.ia.address.DhcpV6OptionIaAddr.{DhcpV6OptionIaAddr}
use Rattle.dhcp6_opt.specs.declared.ia.pd.DhcpV6OptionIaPd.{DhcpV6OptionIaPd}
use Rattle.dhcp6_opt.specs.declared.ia.prefix.DhcpV6OptionIaPrefix.{DhcpV6OptionIaPrefix}
use Rattle.dhcp6_opt.specs.declared.ntp_server.DhcpV6OptionNtpServer.{DhcpV6OptionNtpServer}
use Rattle.dhcp6_opt.specs.declared.ntp_server.DhcpV6OptionNtpServer.TheVariants.{ServerAddr, MulticastAddr, ServerFqdn}
use Rattle.dhcp6_opt.specs.declared.ntp_server.DhcpV6OptionNtpServer.TheVariants as servers
use Rattle.dhcp6_opt.specs.declared.option.DhcpV6Option.{DhcpV6Option}
use Rattle.dhcp6_opt.specs.declared.option.DhcpV6Option.TheVariants.{ClientId, ServerId, IANA, IATA, IAPD, OptionRequestOption, IAAddr, IAPrefix, Preference, ElapsedTime, ServerUnicast, StatusCode, RapidCommit, DnsServers, DomainList, NtpServer, Unknown}
use Rattle.dhcp6_opt.specs.declared.option_code.DhcpV6OptionCode.{DhcpV6OptionCode}
use Rattle.dhcp6_opt.specs.declared.status.DhcpV6OptionStatus.{DhcpV6OptionStatus}
use Rattle.dhcp6_opt.specs.declared.status.DhcpV6OptionStatusCode.{DhcpV6OptionStatusCode}
use Rattle.dhcp6_opt.specs.declared.status.DhcpV6OptionStatusCode.TheVariants as statuses
use Rattle.dhcp6_opt.specs.Duid.{duid_in, written_duid}
use Rattle.dhcp6_opt.specs.OptionCode.{code_of, number_of}
use Rattle.dhcp6_opt.specs.Options.{OptionLists}
use Rattle.dhcp6_opt.specs.Status.{status_number}
use Rattle.dhcp6_opt.specs.Value.{fits, option_number}

-- ---- what every value of the types has

-- each number of a list is a byte
abbrev pub AreBytes : List ℕ → Type 0
AreBytes bytes = All (λ byte. byte < 2 ^ 8) bytes

-- the numbers of an identifier have their widths
unfoldable pub DuidHasWidths : DhcpV6Duid → Type 0
DuidHasWidths (LinkLayerAddressPlusTime duid) =
    (duid.hardware_type < 2 ^ 16) × (duid.time < 2 ^ 32)
DuidHasWidths (EnterpriseNumber duid) = duid.enterprise_number < 2 ^ 32
DuidHasWidths (LinkLayerAddress duid) = duid.hardware_type < 2 ^ 16
DuidHasWidths (UUID uuid) = uuid < 2 ^ 128
DuidHasWidths (Raw bytes) = AreBytes bytes

-- a status has a number of two bytes, and its message is UTF-8
pub record StatusHasWidths (status : DhcpV6OptionStatus) : Type 0 where
  pub number : status_number status.status < 2 ^ 16
  pub message : IsUtf8 status.message

-- an address is whole, and the numbers beside it have their widths
pub record AddressHasWidths (address : DhcpV6OptionIaAddr) : Type 0 where
  pub whole : IsIpv6Addr address.address
  pub preferred : address.preferred_time_sec < 2 ^ 32
  pub valid : address.valid_time_sec < 2 ^ 32
  pub status : IfSome address.status StatusHasWidths

-- the same of a prefix
pub record PrefixHasWidths (prefix : DhcpV6OptionIaPrefix) : Type 0 where
  pub preferred : prefix.preferred_time_sec < 2 ^ 32
  pub valid : prefix.valid_time_sec < 2 ^ 32
  pub prefix_len : prefix.prefix_len < 2 ^ 8
  pub whole : IsIpv6Addr prefix.prefix
  pub status : IfSome prefix.status StatusHasWidths

-- the numbers of an IA_NA have their widths, and so has what stands inside
pub record IaNaHasWidths (ia : DhcpV6OptionIaNa) : Type 0 where
  pub iaid : ia.iaid < 2 ^ 32
  pub t1 : ia.t1_sec < 2 ^ 32
  pub t2 : ia.t2_sec < 2 ^ 32
  pub address : IfSome ia.address AddressHasWidths
  pub status : IfSome ia.status StatusHasWidths

-- the same of an IA_TA
pub record IaTaHasWidths (ia : DhcpV6OptionIaTa) : Type 0 where
  pub iaid : ia.iaid < 2 ^ 32
  pub address : IfSome ia.address AddressHasWidths
  pub status : IfSome ia.status StatusHasWidths

-- the same of an IA_PD
pub record IaPdHasWidths (ia : DhcpV6OptionIaPd) : Type 0 where
  pub iaid : ia.iaid < 2 ^ 32
  pub t1 : ia.t1_sec < 2 ^ 32
  pub t2 : ia.t2_sec < 2 ^ 32
  pub prefix : IfSome ia.prefix PrefixHasWidths
  pub status : IfSome ia.status StatusHasWidths

-- a suboption has a whole address, a name of UTF-8, or a type of two bytes
unfoldable pub NtpServerHasWidths : DhcpV6OptionNtpServer → Type 0
NtpServerHasWidths (ServerAddr address) = IsIpv6Addr address
NtpServerHasWidths (MulticastAddr address) = IsIpv6Addr address
NtpServerHasWidths (ServerFqdn name) = IsUtf8 name
NtpServerHasWidths (servers.Other other) = other.0 < 2 ^ 16

-- the number of a code has two bytes
abbrev pub CodeHasWidth : DhcpV6OptionCode → Type 0
CodeHasWidth code = number_of code < 2 ^ 16

-- the values of an option have the widths of their types
unfoldable pub HasWidths : DhcpV6Option → Type 0
HasWidths (ClientId duid) = DuidHasWidths duid
HasWidths (ServerId duid) = DuidHasWidths duid
HasWidths (IANA ia) = IaNaHasWidths ia
HasWidths (IATA ia) = IaTaHasWidths ia
HasWidths (IAPD ia) = IaPdHasWidths ia
HasWidths (OptionRequestOption requested) = AllByRecursion CodeHasWidth requested
HasWidths (IAAddr address) = AddressHasWidths address
HasWidths (IAPrefix prefix) = PrefixHasWidths prefix
HasWidths (Preference number) = number < 2 ^ 8
HasWidths (ElapsedTime hundredths) = hundredths < 2 ^ 16
HasWidths (ServerUnicast address) = IsIpv6Addr address
HasWidths (StatusCode status) = StatusHasWidths status
HasWidths RapidCommit = Unit {0}
HasWidths (DnsServers addresses) = AllByRecursion IsIpv6Addr addresses
HasWidths (DomainList names) = AllByRecursion IsUtf8 names
HasWidths (NtpServer servers) = AllByRecursion NtpServerHasWidths servers
HasWidths (Unknown option) = option.code < 2 ^ 16

-- ---- what a caller has to show of a value

-- an identifier has its type
abbrev pub HasType : DhcpV6Duid → Type 0
HasType duid = 2 ≤ length (written_duid duid)

-- a status code without a name has a number without a name: 7 or more
abbrev pub HasOwnNumber : DhcpV6OptionStatusCode → Type 0
HasOwnNumber (statuses.Other number) = 7 ≤ number
HasOwnNumber code = Unit {0}

-- a status, if there is one, has such a code
abbrev pub StatusIsInRange : Option DhcpV6OptionStatus → Type 0
StatusIsInRange status = IfSome status (λ status. HasOwnNumber status.status)

-- so have the statuses of an address and of its association
abbrev pub AddressIsInRange : Option DhcpV6OptionIaAddr → Option DhcpV6OptionStatus → Type 0
AddressIsInRange address status =
    IfSome address (λ address. StatusIsInRange address.status) × StatusIsInRange status

-- the same of a prefix
abbrev pub PrefixIsInRange : Option DhcpV6OptionIaPrefix → Option DhcpV6OptionStatus → Type 0
PrefixIsInRange prefix status =
    IfSome prefix (λ prefix. StatusIsInRange prefix.status) × StatusIsInRange status

-- a suboption without a name has a type without a name: not 1, 2 or 3
abbrev pub HasOwnType : DhcpV6OptionNtpServer → Type 0
HasOwnType (servers.Other other) = (other.0 ≢ 1) × (other.0 ≢ 2) × (other.0 ≢ 3)
HasOwnType server = Unit {0}

-- an option whose identifier has its type, and whose statuses and suboptions without a name have
-- numbers without a name
unfoldable pub IsInRange : DhcpV6Option → Type 0
IsInRange (ClientId duid) = HasType duid
IsInRange (ServerId duid) = HasType duid
IsInRange (IANA ia) = AddressIsInRange ia.address ia.status
IsInRange (IATA ia) = AddressIsInRange ia.address ia.status
IsInRange (IAPD ia) = PrefixIsInRange ia.prefix ia.status
IsInRange (IAAddr address) = StatusIsInRange address.status
IsInRange (IAPrefix prefix) = StatusIsInRange prefix.status
IsInRange (StatusCode status) = HasOwnNumber status.status
IsInRange (NtpServer servers) = AllByRecursion HasOwnType servers
IsInRange option = Unit {0}

-- each option of some lists is in range
abbrev pub AreInRange : OptionLists → Type 0
AreInRange options = AllByRecursion (AllByRecursion IsInRange) (values options)

-- an option that is kept under a number: it is its own, and the option fits and has its widths
pub record StandsUnder (number : ℕ) (option : DhcpV6Option) : Type 0 where
  pub is_own : option_number option ≡ number
  pub fit : IsTrue (fits option)
  pub widths : HasWidths option

-- the options that are kept under a number: there is one, and each stands there
pub record AllStandUnder (number : ℕ) (options : List DhcpV6Option) : Type 0 where
  pub some : options ≢ []
  pub each : AllByRecursion (StandsUnder number) options

-- so it is under each number
abbrev pub AllStand : OptionLists → Type 0
AllStand options = AllByRecursion (λ entry. AllStandUnder entry.0 entry.1) (entries options)

-- ---- what is read back

-- an identifier as it reads back: one that is kept as its bytes alone reads by its type
abbrev pub duid_read_back : DhcpV6Duid → DhcpV6Duid
duid_read_back (Raw bytes) = unwrap_or (duid_in bytes) (Raw bytes)
duid_read_back duid = duid

-- an option as it reads back: with its identifier as it does, and with each code that it requests
-- under the name of its number: equal to it, since codes compare by number
abbrev pub read_back : DhcpV6Option → DhcpV6Option
read_back (ClientId duid) = ClientId (duid_read_back duid)
read_back (ServerId duid) = ServerId (duid_read_back duid)
read_back (OptionRequestOption requested) =
    OptionRequestOption (map (λ code. code_of (number_of code)) requested)
read_back option = option

-- options as they read back: under each number its options, in their order
abbrev pub options_read_back : OptionLists → OptionLists
options_read_back options =
    from_entries (map (λ entry. (entry.0, map read_back entry.1)) (entries options))
