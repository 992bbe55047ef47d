-- What is in range, with the widths of its type, reads back.
use Rattle.std.proofs.Common.{◌≡◌, ℕ, suc, List, [], ◌∷◌, Some, Option, IfSome, ap, subst, ◌∙◌, arith}
use Rattle.std.specs.List.{All, AllByRecursion}
use Rattle.std.specs.FinMap.{get}
use Rattle.dhcp_wire.specs.Field.{◌>>=◌}
use Rattle.dhcp4_msg.specs.declared.message.DhcpV4Message.{DhcpV4Message}
use Rattle.dhcp4_msg.specs.declared.option.DhcpV4Option.{DhcpV4Option}
use Rattle.dhcp4_msg.specs.declared.option.DhcpV4Option.TheVariants.{Pad, SubnetMask, Router, DomainNameServer, HostName, DomainName, InterfaceMtu, BroadcastAddress, NtpServers, RequestedIpAddress, IpAddressLeaseTime, MessageType, ServerIdentifier, ParameterRequestList, Message, RenewalTime, RebindingTime, ClientIdentifier, ClasslessStaticRoute, End, Unknown}
use Rattle.dhcp4_msg.specs.declared.route.DhcpV4ClasslessRoute.{DhcpV4ClasslessRoute}
use Rattle.dhcp4_msg.specs.Laws.{IsExact, HasExactDestination, HasWholeAddresses, ReadsBack, IsInRange, HasWidths, AreInRange, MessageIsInRange, AllStand, MessageWidths, OptionsReadBack, MessageReadsBack}
use Rattle.dhcp4_msg.specs.OptionCode.{number_of}
use Rattle.dhcp4_msg.specs.Options.{OptionMap}
use Rattle.dhcp4_msg.specs.Value.{option_code, option_number, text_said, routes_said}

-- what each element has, from the first on
pub by_recursion : {X : Type 0} (P : X → Type 0) (xs : List X) → All P xs → AllByRecursion P xs
by_recursion P [] all = tt
by_recursion P (x ∷ xs) all = (all 0 x (omega arith), by_recursion P xs (λ k d below. all (suc k) d (omega arith)))

all_exact : (routes : List DhcpV4ClasslessRoute) → AllByRecursion HasWholeAddresses routes → AllByRecursion HasExactDestination routes → AllByRecursion IsExact routes
all_exact [] whole exact = tt
all_exact (route ∷ routes) whole exact =
    (record { whole = whole.0.destination; destination = exact.0; router = whole.0.router }, all_exact routes whole.1 exact.1)

-- an option in range reads back
pub in_range_reads_back : (option : DhcpV4Option) → HasWidths option → IsInRange option → ReadsBack option
unfolding HasWidths IsInRange ReadsBack
in_range_reads_back Pad widths range = tt
in_range_reads_back (SubnetMask address) widths range = widths
in_range_reads_back (Router addresses) widths range = widths
in_range_reads_back (DomainNameServer addresses) widths range = widths
in_range_reads_back (HostName text) widths range = range
in_range_reads_back (DomainName text) widths range = range
in_range_reads_back (InterfaceMtu number) widths range = widths
in_range_reads_back (BroadcastAddress address) widths range = widths
in_range_reads_back (NtpServers addresses) widths range = widths
in_range_reads_back (RequestedIpAddress address) widths range = widths
in_range_reads_back (IpAddressLeaseTime seconds) widths range = widths
in_range_reads_back (MessageType kind) widths range = tt
in_range_reads_back (ServerIdentifier address) widths range = widths
in_range_reads_back (ParameterRequestList requested) widths range = tt
in_range_reads_back (Message text) widths range = range
in_range_reads_back (RenewalTime seconds) widths range = widths
in_range_reads_back (RebindingTime seconds) widths range = widths
in_range_reads_back (ClientIdentifier bytes) widths range = tt
in_range_reads_back (ClasslessStaticRoute routes) widths range = all_exact routes widths range
in_range_reads_back End widths range = tt
in_range_reads_back (Unknown option) widths range = tt

-- what an option says that is kept under its number
said : {X : Type 0} (says : DhcpV4Option → Option X) (P : X → Type 0) (options : OptionMap) (number : ℕ) (option : DhcpV4Option) → get options number ≡ Some option → IfSome (get options number >>= says) P → IfSome (says option) P
said says P options number option is holds = subst (λ found. IfSome (found >>= says) P) is holds

-- each option of a map in range is in range
each_in_range : (options : OptionMap) (number : ℕ) (option : DhcpV4Option) → AreInRange options → option_number option ≡ number → get options number ≡ Some option → IsInRange option
unfolding IsInRange option_code number_of
each_in_range options number (HostName text) are own is = said text_said _ options 12 (HostName text) (ap (get options) own ∙ is) are.host_name
each_in_range options number (DomainName text) are own is = said text_said _ options 15 (DomainName text) (ap (get options) own ∙ is) are.domain_name
each_in_range options number (Message text) are own is = said text_said _ options 56 (Message text) (ap (get options) own ∙ is) are.message
each_in_range options number (ClasslessStaticRoute routes) are own is =
    said routes_said _ options 121 (ClasslessStaticRoute routes) (ap (get options) own ∙ is) are.routes
each_in_range options number Pad are own is = tt
each_in_range options number (SubnetMask address) are own is = tt
each_in_range options number (Router addresses) are own is = tt
each_in_range options number (DomainNameServer addresses) are own is = tt
each_in_range options number (InterfaceMtu size) are own is = tt
each_in_range options number (BroadcastAddress address) are own is = tt
each_in_range options number (NtpServers addresses) are own is = tt
each_in_range options number (RequestedIpAddress address) are own is = tt
each_in_range options number (IpAddressLeaseTime seconds) are own is = tt
each_in_range options number (MessageType kind) are own is = tt
each_in_range options number (ServerIdentifier address) are own is = tt
each_in_range options number (ParameterRequestList requested) are own is = tt
each_in_range options number (RenewalTime seconds) are own is = tt
each_in_range options number (RebindingTime seconds) are own is = tt
each_in_range options number (ClientIdentifier bytes) are own is = tt
each_in_range options number End are own is = tt
each_in_range options number (Unknown option) are own is = tt

-- options in range read back
pub options_in_range : (options : OptionMap) → AllStand options → AreInRange options → OptionsReadBack options
options_in_range options stand are number option is =
    let has = stand number option is in
    record {
      is_byte = has.is_byte;
      is_own = has.is_own;
      fit = has.fit;
      reads_back = in_range_reads_back option has.widths (each_in_range options number option are has.is_own is);
    }

-- a message in range reads back
pub message_in_range : (message : DhcpV4Message) → MessageWidths message → MessageIsInRange message → MessageReadsBack message
message_in_range message widths range = record {
  op = widths.numbers.op;
  htype = widths.numbers.htype;
  hlen = widths.numbers.hlen;
  hops = widths.numbers.hops;
  xid = widths.numbers.xid;
  secs = widths.numbers.secs;
  flags = widths.numbers.flags;
  ciaddr = widths.addresses.ciaddr;
  yiaddr = widths.addresses.yiaddr;
  siaddr = widths.addresses.siaddr;
  giaddr = widths.addresses.giaddr;
  chaddr = widths.addresses.chaddr;
  sname = range.sname;
  file = range.file;
  options = options_in_range message.options widths.options range.options;
}
