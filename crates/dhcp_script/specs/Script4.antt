-- Scripts of an IPv4 client: their limits, the configuration that they give, and their text.
use Rattle.std.specs.Prelude.{◌≡◌, ℕ, ◌==◌, ◌<◌, ◌^◌, Bool, true, ◌&&◌, not, nat_le, List, [], ◌∷◌, ◌++◌, length, codes, Option, Some, None, unwrap_or, IfSome}
use Rattle.std.specs.List.{list_any}
use Rattle.std.specs.Str.{is_utf8}
use Rattle.std.specs.Fmt.{decimal}
use Rattle.hex.specs.Hex.{IsBytes, encode_lower}
use Rattle.dhcp_stream.specs.HexText.{IsMac, hex_text}
use Rattle.dhcp_stream.specs.Line.{line, spaced}
use Rattle.dhcp4_msg.specs.declared.option_code.DhcpV4OptionCode.{DhcpV4OptionCode}
use Rattle.dhcp4_lease.specs.declared.message_forms.DhcpV4MessageForms.{DhcpV4MessageForms}
use Rattle.dhcp4_lease.specs.declared.message_forms.DhcpV4MessageForms.TheVariants.{Mozim, Rfc2131}
use Rattle.dhcp4_lease.specs.Config as configs
use Rattle.dhcp4_lease.specs.Config.{Config, rising_codes}
use Rattle.dhcp_script.specs.declared.lease4.Lease4.{Lease4}
use Rattle.dhcp_script.specs.declared.script4.Script4.{Script4}
use Rattle.dhcp_script.specs.Codes as lists
use Rattle.dhcp_script.specs.Codes.{listed_text}
use Rattle.dhcp_script.specs.Event.{are_valid}
use Rattle.dhcp_script.specs.Field.{flag_text, unless_none}
use Rattle.dhcp_script.specs.declared.version.Version.{Version}
use Rattle.dhcp_script.specs.declared.version.Version.TheVariants.{Later, One}
use Rattle.dhcp_script.specs.Lease4.{are_times_in_order, versioned_lease_text, HasLeaseText}
use Rattle.dhcp_script.specs.Life.{IsLife, life_text}
use Rattle.dhcp_script.specs.Version.{family4, number4}

-- how many bytes a host name, a client identifier and a list of codes have at most
abbrev pub most_host_bytes : ℕ
most_host_bytes = 254

abbrev pub most_client_bytes : ℕ
most_client_bytes = 255

abbrev pub most_codes : ℕ
most_codes = 255

-- whether bytes are a host name: UTF-8 without a zero byte, at most 254 bytes
abbrev pub is_host_name : List ℕ → Bool
is_host_name host =
    nat_le (length host) most_host_bytes && not (list_any (λ byte. byte == 0) host) && is_utf8 host

-- whether the codes that are listed, if any are, are not too many
abbrev pub are_few : Option (List ℕ) → Bool
are_few listed = lists.are_few most_codes listed

-- whether the times of a lease, if there is one, are in order
abbrev pub is_in_order : Option Lease4 → Bool
is_in_order None = true
is_in_order (Some lease) = are_times_in_order lease

-- Whether a script is valid: its interface is not 0; its host name, client identifier, codes and
-- lease are within their limits; so are its start and its events.
unfoldable pub is_valid : Script4 → Bool
is_valid script =
    not (script.iface_index == 0) && is_host_name script.host
    && nat_le (length script.client) most_client_bytes && are_few script.codes
    && is_in_order script.lease && are_valid script.start script.events

-- the options that a configuration asks for
abbrev pub request_list : Option (List ℕ) → List DhcpV4OptionCode → List DhcpV4OptionCode
request_list listed by_default = lists.request_list rising_codes listed by_default

-- a configuration with what a script says
abbrev pub with_fields : Script4 → Config → Config
with_fields script config = record config {
  iface_index = script.iface_index;
  is_proxy = script.is_proxy;
  timeout_sec = script.timeout_sec;
  src_mac = script.mac;
  client_id = script.client;
  host_name = script.host;
  request_opts = request_list script.codes config.request_opts;
  message_forms = unwrap_or script.forms Mozim;
}

-- the configuration of the script's client; the interface has no name
unfoldable pub config_of : Script4 → Config
config_of script = with_fields script (configs.config_of [])

-- the interface
abbrev pub iface_text : Script4 → List ℕ
iface_text script =
    spaced (decimal script.iface_index ∷ encode_lower script.mac
    ∷ flag_text (codes "1") (codes "0") script.is_proxy ∷ decimal script.timeout_sec ∷ [])

-- the word for forms of messages
abbrev pub forms_word : DhcpV4MessageForms → List ℕ
forms_word Mozim = codes "mozim"
forms_word Rfc2131 = codes "rfc2131"

-- the line of the forms of the messages, if they are said
abbrev pub forms_text : Option DhcpV4MessageForms → List ℕ
forms_text None = []
forms_text (Some forms) = line (codes "forms " ++ forms_word forms)

-- the lines up to that of the client identifier
abbrev pub first_lines : Version → Script4 → List ℕ
first_lines version script =
    family4 ++ number4 version script.forms
    ++ line (codes "iface " ++ iface_text script)
    ++ forms_text script.forms
    ++ line (codes "host " ++ hex_text script.host)
    ++ line (codes "client " ++ hex_text script.client)

-- the text of a script in a version
unfoldable pub script4_text : Version → Script4 → List ℕ
script4_text version script =
    first_lines version script
    ++ line (codes "codes " ++ listed_text hex_text script.codes)
    ++ line (codes "lease " ++ unless_none (versioned_lease_text version) script.lease)
    ++ life_text script.words script.start script.events

-- the forms of the messages are said in a later version alone
abbrev pub HasFormsText : Version → Option DhcpV4MessageForms → Type 0
HasFormsText One forms = forms ≡ None
HasFormsText Later forms = Unit {0}

-- a script that has a text in a version: one whose numbers and bytes fit their types, and whose
-- lease and forms, if there are any, have a text in it
pub record IsScript4 (version : Version) (script : Script4) : Type 0 where
  pub iface_index : script.iface_index < 2 ^ 32
  pub mac : IsMac script.mac
  pub timeout_sec : script.timeout_sec < 2 ^ 32
  pub forms : HasFormsText version script.forms
  pub host : IsBytes script.host
  pub client : IsBytes script.client
  pub codes : IfSome script.codes IsBytes
  pub lease : IfSome script.lease (HasLeaseText version)
  pub life : IsLife script.words script.start script.events
