-- The messages that a client sends, RFC 2131 section 4.3 and tables 4 and 5: one row for each. Two
-- of them depend on the forms of the configuration, and so does option 61.
use Rattle.std.specs.Prelude.{ℕ, List, [], ◌∷◌, ◌++◌, replicate, Option, Some, None, if◌then◌else◌, Bool}
use Rattle.std.specs.Net.Addr.{ipv4_octets}
use Rattle.std.specs.Str.{bytes_eq}
use Rattle.std.specs.FinMap as options
use Rattle.std.specs.declared.net.Ipv4Addr.{Ipv4Addr}
use Rattle.dhcp4_msg.specs.declared.message_type.DhcpV4MessageType.TheVariants.{Discovery, Request, Release}
use Rattle.dhcp4_msg.specs.declared.option.DhcpV4Option.{DhcpV4Option}
use Rattle.dhcp4_msg.specs.declared.option.DhcpV4Option.TheVariants.{HostName, RequestedIpAddress, MessageType, ServerIdentifier, ParameterRequestList, ClientIdentifier}
use Rattle.dhcp4_msg.specs.declared.message.DhcpV4Message.{DhcpV4Message}
use Rattle.dhcp4_msg.specs.Message.{no_address}
use Rattle.dhcp4_msg.specs.Options.{with_options}
use Rattle.dhcp4_lease.specs.declared.message_forms.DhcpV4MessageForms.{DhcpV4MessageForms}
use Rattle.dhcp4_lease.specs.declared.message_forms.DhcpV4MessageForms.TheVariants.{Mozim, Rfc2131}
use Rattle.dhcp4_lease.specs.declared.message_table.Row.{Row}
use Rattle.dhcp4_lease.specs.Config.{Config}
use Rattle.dhcp4_lease.specs.Lease.{Lease}

-- whether an address is 0.0.0.0
abbrev pub is_unspecified : Ipv4Addr → Bool
is_unspecified address = bytes_eq (ipv4_octets address) (ipv4_octets no_address)

-- the server of a lease: its identifier, or the next server if that is unspecified
abbrev pub server_of : Lease → Ipv4Addr
server_of lease = if is_unspecified lease.srv_id then lease.siaddr else lease.srv_id

-- the search for servers, RFC 2131 section 4.4.1
abbrev pub discover : Row
discover = record {
  message_type = Discovery;
  ciaddr = no_address;
  requested = None;
  server = None;
}

-- the request of the lease of an offer, in state SELECTING
abbrev pub request : Lease → Row
request offer = record {
  message_type = Request;
  ciaddr = no_address;
  requested = Some offer.yiaddr;
  server = Some (server_of offer);
}

-- the request of a lease that was held before a reboot, in state INIT-REBOOT
abbrev pub reboot : Lease → Row
reboot held = record {
  message_type = Request;
  ciaddr = no_address;
  requested = Some held.yiaddr;
  server = None;
}

-- The request to renew or to rebind a lease that is held, RFC 2131 section 4.4.5: by table 4 ciaddr
-- is its address, and neither the address nor the server is an option.
abbrev pub extend : DhcpV4MessageForms → Lease → Row
extend Mozim held = record {
  message_type = Request;
  ciaddr = held.yiaddr;
  requested = Some held.yiaddr;
  server = Some (server_of held);
}
extend Rfc2131 held = record {
  message_type = Request;
  ciaddr = held.yiaddr;
  requested = None;
  server = None;
}

-- The release of a lease, RFC 2131 section 4.4.6: by table 5 ciaddr is its address, which is no
-- option, and the server is one.
abbrev pub release : DhcpV4MessageForms → Lease → Row
release Mozim held = record {
  message_type = Release;
  ciaddr = no_address;
  requested = Some held.yiaddr;
  server = Some (server_of held);
}
release Rfc2131 held = record {
  message_type = Release;
  ciaddr = held.yiaddr;
  requested = None;
  server = Some (server_of held);
}

-- option 12, if there is a host name
abbrev pub host_name_option : List ℕ → List DhcpV4Option
host_name_option [] = []
host_name_option (byte ∷ bytes) = HostName (byte ∷ bytes) ∷ []

-- option 50, if an address is requested
abbrev pub requested_option : Option Ipv4Addr → List DhcpV4Option
requested_option None = []
requested_option (Some address) = RequestedIpAddress address ∷ []

-- option 54, if a server is named
abbrev pub server_option : Option Ipv4Addr → List DhcpV4Option
server_option None = []
server_option (Some address) = ServerIdentifier address ∷ []

-- option 61; by the forms of RFC 2131 if there is an identifier, since the option has at least two
-- bytes (RFC 2132, section 9.14)
abbrev pub client_option : DhcpV4MessageForms → List ℕ → List DhcpV4Option
client_option Mozim bytes = ClientIdentifier bytes ∷ []
client_option Rfc2131 [] = []
client_option Rfc2131 (byte ∷ bytes) = ClientIdentifier (byte ∷ bytes) ∷ []

-- the options of a row, by rising code: 12, 50, 53, 54, 55, 61
abbrev pub options_of : Config → Row → List DhcpV4Option
options_of config row =
    host_name_option config.host_name ++ requested_option row.requested
    ++ MessageType row.message_type ∷ server_option row.server
    ++ ParameterRequestList config.request_opts
    ∷ client_option config.message_forms config.client_id

-- the message of a row with this transaction id: from a client, over Ethernet, from its MAC address
unfoldable pub table_message : ℕ → Config → Row → DhcpV4Message
table_message id config row = record {
  op = 1;
  htype = 1;
  hlen = 6;
  hops = 0;
  xid = id;
  secs = 0;
  flags = 0;
  ciaddr = row.ciaddr;
  yiaddr = no_address;
  siaddr = no_address;
  giaddr = no_address;
  chaddr = config.src_mac ++ replicate 10 0;
  sname = [];
  file = [];
  options = with_options options.empty (options_of config row);
}
