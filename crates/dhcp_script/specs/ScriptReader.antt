-- The reading of a script of either family.
use Rattle.std.specs.Prelude.{ℕ, ◌==◌, if◌then◌else◌, Bool, true, false, List, codes, length, Option, Some, None}
use Rattle.std.specs.Int.{w16}
use Rattle.std.specs.declared.net.Ipv6Addr.{Ipv6Addr}
use Rattle.dhcp_wire.specs.Field.{Read, ◌>>=◌}
use Rattle.dhcp_stream.specs.TextReader.{address6_in, after_tag, both, hex_in, in_field, mac_in, made_of, number_in, numbers_in, tag_at}
use Rattle.dhcp4_lease.specs.declared.message_forms.DhcpV4MessageForms.{DhcpV4MessageForms}
use Rattle.dhcp4_lease.specs.declared.message_forms.DhcpV4MessageForms.TheVariants.{Mozim, Rfc2131}
use Rattle.dhcp6_msg.specs.declared.mode.DhcpV6Mode.{DhcpV6Mode}
use Rattle.dhcp6_msg.specs.declared.mode.DhcpV6Mode.TheVariants.{NonTemporaryAddresses, TemporaryAddresses, PrefixDelegation}
use Rattle.dhcp_script.specs.declared.lease4.Lease4.{Lease4}
use Rattle.dhcp_script.specs.declared.lease6.Lease6.{Lease6}
use Rattle.dhcp_script.specs.declared.life.Life.{Life}
use Rattle.dhcp_script.specs.declared.script4.Script4.{Script4}
use Rattle.dhcp_script.specs.declared.script4.reader.Head4.{Head4}
use Rattle.dhcp_script.specs.declared.script4.reader.Iface4.{Iface4}
use Rattle.dhcp_script.specs.declared.script4.reader.Identity4.{Identity4}
use Rattle.dhcp_script.specs.declared.script6.Script6.{Script6}
use Rattle.dhcp_script.specs.declared.script6.reader.Iface6.{Iface6}
use Rattle.dhcp_script.specs.declared.script6.reader.Identity6.{Identity6}
use Rattle.dhcp_script.specs.declared.script.Script.{Script}
use Rattle.dhcp_script.specs.declared.script.Script.TheVariants.{V4, V6}
use Rattle.dhcp_script.specs.declared.version.Version.{Version}
use Rattle.dhcp_script.specs.declared.version.Version.TheVariants.{Later, One}
use Rattle.dhcp_script.specs.Codes.{codes_at}
use Rattle.dhcp_script.specs.FieldReader.{flag_in, held_at, if_tag, u32_at, word_or}
use Rattle.dhcp_script.specs.Lease4Reader.{lease4_at}
use Rattle.dhcp_script.specs.Lease6Reader.{lease6_at}
use Rattle.dhcp_script.specs.LifeReader.{life_at}
use Rattle.dhcp_script.specs.Version.{family4, first_line6, number4}

abbrev pub iface4_of : ℕ × (List ℕ × (Bool × ℕ)) → Iface4
iface4_of parts = record {
  index = parts.0;
  mac = parts.1.0;
  is_proxy = parts.1.1.0;
  timeout_sec = parts.1.1.1;
}

-- the interface
unfoldable pub iface4_at : List ℕ → Read Iface4
iface4_at text =
    made_of iface4_of (after_tag (codes "iface ") (both (in_field (number_in 4294967295) 32)
    (both (in_field mac_in 32) (both (in_field (flag_in (codes "1") (codes "0")) 32)
    (in_field (number_in 4294967295) 10))))) text

-- the forms of the messages
abbrev pub forms_of : Bool → DhcpV4MessageForms
forms_of true = Rfc2131
forms_of false = Mozim

unfoldable pub forms_at : List ℕ → Read DhcpV4MessageForms
forms_at text =
    made_of forms_of (after_tag (codes "forms ")
    (in_field (flag_in (codes "rfc2131") (codes "mozim")) 10)) text

abbrev pub head4_of : Iface4 × DhcpV4MessageForms → Head4
head4_of parts = record { iface = parts.0; forms = Some parts.1 }

abbrev pub formless_of : Iface4 → Head4
formless_of iface = record { iface = iface; forms = None }

-- the number of version 3, which is one of the later ones
abbrev pub number3_at : Version → List ℕ → Read (Unit {0})
number3_at One text = None
number3_at Later text = tag_at (codes "3\n") text

-- the number of the version, the interface, and in version 3 the forms
unfoldable pub head4_at : Version → List ℕ → Read Head4
head4_at version text =
    if_tag (number3_at version text) (made_of head4_of (both iface4_at forms_at))
    (made_of formless_of (after_tag (number4 version None) iface4_at) text)

abbrev pub identity4_of : List ℕ × (List ℕ × Option (List ℕ)) → Identity4
identity4_of parts = record { host = parts.0; client = parts.1.0; codes = parts.1.1 }

-- the host name, the client identifier and the codes
unfoldable pub identity4_at : List ℕ → Read Identity4
identity4_at text =
    made_of identity4_of (both (after_tag (codes "host ") (in_field hex_in 10))
    (both (after_tag (codes "client ") (in_field hex_in 10)) (codes_at hex_in))) text

abbrev pub script4_of : Head4 × (Identity4 × (Option Lease4 × Life)) → Script4
script4_of parts = record {
  iface_index = parts.0.iface.index;
  mac = parts.0.iface.mac;
  is_proxy = parts.0.iface.is_proxy;
  timeout_sec = parts.0.iface.timeout_sec;
  forms = parts.0.forms;
  host = parts.1.0.host;
  client = parts.1.0.client;
  codes = parts.1.0.codes;
  lease = parts.1.1.0;
  words = parts.1.1.1.words;
  start = parts.1.1.1.start;
  events = parts.1.1.1.events;
}

-- a script of an IPv4 client, from the number of its version on
unfoldable pub script4_at : Version → List ℕ → Read Script4
script4_at version text =
    made_of script4_of (both (head4_at version) (both identity4_at
    (both (after_tag (codes "lease ") (held_at (lease4_at version))) life_at))) text

-- ---- of an IPv6 client

-- what a client asks for
unfoldable pub mode_at : List ℕ → Read DhcpV6Mode
mode_at text =
    if_tag (tag_at (codes "na ") text) (λ rest. Some (NonTemporaryAddresses, rest))
    (if_tag (tag_at (codes "ta ") text) (λ rest. Some (TemporaryAddresses, rest))
    (made_of PrefixDelegation (after_tag (codes "pd ") (in_field (number_in 255) 32)) text))

-- a MAC address, or `-`
abbrev pub mac_or_none_in : List ℕ → Option (Option (List ℕ))
mac_or_none_in field = word_or (codes "-") mac_in field

abbrev pub iface6_of : ℕ × (Ipv6Addr × (Option (List ℕ) × (DhcpV6Mode × ℕ))) → Iface6
iface6_of parts = record {
  index = parts.0;
  src_ip = parts.1.0;
  mac = parts.1.1.0;
  mode = parts.1.1.1.0;
  timeout_sec = parts.1.1.1.1;
}

-- the interface
unfoldable pub iface6_at : List ℕ → Read Iface6
iface6_at text =
    made_of iface6_of (after_tag (codes "iface ") (both (u32_at 32)
    (both (in_field address6_in 32) (both (in_field mac_or_none_in 32)
    (both mode_at (u32_at 10)))))) text

abbrev pub identity6_of : List ℕ × Option (List ℕ) → Identity6
identity6_of parts = record { duid = parts.0; codes = parts.1 }

-- the identifier and the codes
unfoldable pub identity6_at : List ℕ → Read Identity6
identity6_at text =
    made_of identity6_of (both (after_tag (codes "duid ") (in_field hex_in 10))
    (codes_at (numbers_in w16))) text

abbrev pub script6_of : Iface6 × (Identity6 × (Option Lease6 × Life)) → Script6
script6_of parts = record {
  iface_index = parts.0.index;
  src_ip = parts.0.src_ip;
  mac = parts.0.mac;
  mode = parts.0.mode;
  timeout_sec = parts.0.timeout_sec;
  duid = parts.1.0.duid;
  codes = parts.1.0.codes;
  lease = parts.1.1.0;
  words = parts.1.1.1.words;
  start = parts.1.1.1.start;
  events = parts.1.1.1.events;
}

-- a script of an IPv6 client, after its first line
unfoldable pub script6_at : Version → List ℕ → Read Script6
script6_at version text =
    made_of script6_of (both iface6_at (both identity6_at
    (both (after_tag (codes "lease ") (held_at (lease6_at version))) life_at))) text

-- ---- of either family

-- a script, from the front of a text
unfoldable pub script_at : Version → List ℕ → Read Script
script_at version text =
    if_tag (tag_at family4 text) (made_of V4 (script4_at version))
    (made_of V6 (after_tag (first_line6 version) (script6_at version)) text)

-- a script, which is the whole text
unfoldable pub script_in : Version → List ℕ → Option Script
script_in version text = do
  read ← script_at version text
  if length read.1 == 0 then Some read.0 else None
