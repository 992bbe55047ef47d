-- The messages of the table are ones that read back.
use Rattle.std.proofs.Common.{◌≡◌, ℕ, zero, suc, ◌<◌, ◌^◌, List, [], ◌∷◌, ◌++◌, replicate, slice_index, IsTrue, IfSome, Option, Some, None, refl, arith, length-append, lit<}
use Rattle.std.specs.List.{AllByRecursion}
use Rattle.std.specs.FinMap.{empty}
use Rattle.std.specs.declared.net.Ipv4Addr.{Ipv4Addr}
use Rattle.std.proofs.lemmas.Str.{IsUtf8-nil}
use Rattle.dhcp_wire.specs.Field.{FitsField}
use Rattle.dhcp4_msg.specs.declared.message_type.DhcpV4MessageType.{DhcpV4MessageType}
use Rattle.dhcp4_msg.specs.declared.option.DhcpV4Option.{DhcpV4Option}
use Rattle.dhcp4_msg.specs.declared.option.DhcpV4Option.TheVariants.{HostName, RequestedIpAddress, MessageType, ServerIdentifier, ParameterRequestList, ClientIdentifier}
use Rattle.dhcp4_msg.specs.OptionCode.{number_of}
use Rattle.dhcp4_msg.specs.declared.message.DhcpV4Message.{DhcpV4Message}
use Rattle.dhcp4_msg.specs.Laws.{FitsOption, ReadsBack, MessageReadsBack, read_back}
use Rattle.dhcp4_msg.specs.Message.{no_address, read_message, written_message}
use Rattle.dhcp4_msg.specs.Value.{option_code, fits}
use Rattle.std.specs.Net.Addr.{ipv4_octets, IsIpv4Addr}
use Rattle.dhcp4_lease.specs.declared.message_forms.DhcpV4MessageForms.{DhcpV4MessageForms}
use Rattle.dhcp4_lease.specs.declared.message_forms.DhcpV4MessageForms.TheVariants.{Mozim, Rfc2131}
use Rattle.dhcp4_lease.specs.declared.message_table.Row.{Row}
use Rattle.dhcp4_lease.specs.Config.{Config, is_within_limits}
use Rattle.dhcp4_lease.specs.Laws.{IsTyped, IsRow, RowReadsBack}
use Rattle.dhcp4_lease.specs.Lease.{Lease}
use Rattle.dhcp4_lease.specs.MessageTable.{client_option, extend, host_name_option, options_of, release, requested_option, server_of, server_option, table_message}
use Rattle.dhcp4_msg.proofs.AddedOptions.{Stands, all_added, none_kept}
use Rattle.dhcp4_lease.proofs.OptionLemmas.{host_name_fits, requested_fits, server_fits, type_fits, requests_fit, client_fits, limits_of}

-- each option of two lists
all_of_both : (xs ys : List DhcpV4Option) → AllByRecursion Stands xs → AllByRecursion Stands ys → AllByRecursion Stands (xs ++ ys)
all_of_both [] ys all others = others
all_of_both (x ∷ xs) ys all others = (all.0, all_of_both xs ys all.1 others)

-- Each kind of option of a row stands.

stands_host_name : (text : List ℕ) → FitsOption text → Stands (HostName text)
unfolding option_code number_of ReadsBack
stands_host_name text fits = record { is_byte = lit< tt; is_own = refl; fit = host_name_fits text; reads_back = fits }

stands_requested : (address : Ipv4Addr) → IsIpv4Addr address → Stands (RequestedIpAddress address)
unfolding option_code number_of ReadsBack
stands_requested address is = record { is_byte = lit< tt; is_own = refl; fit = requested_fits address is; reads_back = is.0 }

stands_server : (address : Ipv4Addr) → IsIpv4Addr address → Stands (ServerIdentifier address)
unfolding option_code number_of ReadsBack
stands_server address is = record { is_byte = lit< tt; is_own = refl; fit = server_fits address is; reads_back = is.0 }

stands_type : (kind : DhcpV4MessageType) → Stands (MessageType kind)
unfolding option_code number_of ReadsBack
stands_type kind = record { is_byte = lit< tt; is_own = refl; fit = type_fits kind; reads_back = tt }

stands_requests : (config : Config) → IsTrue (is_within_limits config) → Stands (ParameterRequestList config.request_opts)
unfolding option_code number_of ReadsBack
stands_requests config within = record { is_byte = lit< tt; is_own = refl; fit = requests_fit config.request_opts config refl within; reads_back = tt }

stands_client : (bytes : List ℕ) → IsTrue (fits (ClientIdentifier bytes)) → Stands (ClientIdentifier bytes)
unfolding option_code number_of ReadsBack
stands_client bytes fit = record { is_byte = lit< tt; is_own = refl; fit = fit; reads_back = tt }

-- The options of a part of a row, where there are any.

all_host_name : (text : List ℕ) → FitsOption text → AllByRecursion Stands (host_name_option text)
all_host_name [] fits = tt
all_host_name (byte ∷ bytes) fits = (stands_host_name (byte ∷ bytes) fits, tt)

all_requested : (requested : Option Ipv4Addr) → IfSome requested IsIpv4Addr → AllByRecursion Stands (requested_option requested)
all_requested None is = tt
all_requested (Some address) is = (stands_requested address is, tt)

all_server : (server : Option Ipv4Addr) → IfSome server IsIpv4Addr → AllByRecursion Stands (server_option server)
all_server None is = tt
all_server (Some address) is = (stands_server address is, tt)

all_client : (forms : DhcpV4MessageForms) (bytes : List ℕ) → IsTrue (fits (ClientIdentifier bytes)) → AllByRecursion Stands (client_option forms bytes)
all_client Mozim bytes fit = (stands_client bytes fit, tt)
all_client Rfc2131 [] fit = tt
all_client Rfc2131 (byte ∷ bytes) fit = (stands_client (byte ∷ bytes) fit, tt)

-- the host name of a configuration within its limits
host_name_within : (config : Config) → IsTrue (is_within_limits config) → IsTyped config → FitsOption config.host_name
host_name_within config within typed =
    let limits = limits_of config within in
    record { is_short = limits.host_name_len; is_utf8 = typed.host_name; has_no_zero = limits.host_name }

-- each option of a row reads back
all_options : (config : Config) (row : Row) → IsTrue (is_within_limits config) → IsTyped config → IsRow row → AllByRecursion Stands (options_of config row)
all_options config row within typed is =
    let host_name = all_host_name config.host_name (host_name_within config within typed) in
    let requested = all_requested row.requested is.requested in
    let server = all_server row.server is.server in
    let client = all_client config.message_forms config.client_id (client_fits config.client_id config refl within) in
    all_of_both _ _ (all_of_both _ _ (all_of_both _ _ host_name requested) (stands_type row.message_type, server))
    (stands_requests config within, client)

-- the empty text fits each field
no_text : (n : ℕ) → 0 < n → FitsField n []
no_text n some = record { is_shorter = some; is_utf8 = IsUtf8-nil; has_no_zero = λ k d below. absurd (omega arith) }

-- the message of a row is one that reads back
table_message_back : (id : ℕ) (config : Config) (row : Row) → id < 2 ^ 32 → IsTrue (is_within_limits config) → IsTyped config → IsRow row → MessageReadsBack (table_message id config row)
unfolding table_message
table_message_back id config row small within typed is = record {
  op = lit< tt;
  htype = lit< tt;
  hlen = lit< tt;
  hops = lit< tt;
  xid = small;
  secs = lit< tt;
  flags = lit< tt;
  ciaddr = is.ciaddr.0;
  yiaddr = refl;
  siaddr = refl;
  giaddr = refl;
  chaddr = omega (arith, typed.src_mac, length-append config.src_mac (replicate 10 0));
  sname = no_text 64 (lit< tt);
  file = no_text 128 (lit< tt);
  options = all_added (options_of config row) empty none_kept (all_options config row within typed is);
}

-- the message of a row reads back, if messages that do are read as they are written
pub row_reads_back : ((message : DhcpV4Message) → MessageReadsBack message → read_message (written_message message) ≡ Some (read_back message)) →
    (config : Config) (row : Row) → IsTrue (is_within_limits config) → IsTyped config → IsRow row → RowReadsBack config row
row_reads_back back config row within typed is id small = back (table_message id config row) (table_message_back id config row small within typed is)

-- 0.0.0.0 is an address
pub no_address_is : IsIpv4Addr no_address
no_address_is = (refl, small)
  where
    small : (k : ℕ) → slice_index (ipv4_octets no_address) k < 2 ^ 8
    small zero = lit< tt
    small (suc zero) = lit< tt
    small (suc (suc zero)) = lit< tt
    small (suc (suc (suc zero))) = lit< tt
    small (suc (suc (suc (suc k)))) = lit< tt

-- the rows of a lease whose addresses are IPv4 addresses, by either form
pub extend_is : (forms : DhcpV4MessageForms) (held : Lease) → IsIpv4Addr held.yiaddr → IsIpv4Addr (server_of held) → IsRow (extend forms held)
extend_is Mozim held yiaddr server = record { ciaddr = yiaddr; requested = yiaddr; server = server }
extend_is Rfc2131 held yiaddr server = record { ciaddr = yiaddr; requested = tt; server = tt }

pub release_is : (forms : DhcpV4MessageForms) (held : Lease) → IsIpv4Addr held.yiaddr → IsIpv4Addr (server_of held) → IsRow (release forms held)
release_is Mozim held yiaddr server = record { ciaddr = no_address_is; requested = yiaddr; server = server }
release_is Rfc2131 held yiaddr server = record { ciaddr = yiaddr; requested = tt; server = server }
