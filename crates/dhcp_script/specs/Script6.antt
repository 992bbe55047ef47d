-- Scripts of an IPv6 client: their limits, the configuration that they give, and their text.
use Rattle.std.specs.Prelude.{ℕ, ◌==◌, ◌<◌, ◌^◌, Bool, true, ◌&&◌, not, List, [], ◌∷◌, ◌++◌, codes, Option, Some, None, IfSome}
use Rattle.std.specs.Fmt.{decimal}
use Rattle.std.specs.Int.{w16}
use Rattle.std.specs.Net.Addr.{IsIpv6Addr}
use Rattle.hex.specs.Hex.{IsBytes, encode_lower}
use Rattle.dhcp_stream.specs.HexText.{AreOfWidth, IsMac, address6_text, hex_text, numbers_text}
use Rattle.dhcp_stream.specs.Line.{line, spaced}
use Rattle.dhcp6_msg.specs.declared.mode.DhcpV6Mode.{DhcpV6Mode}
use Rattle.dhcp6_msg.specs.declared.mode.DhcpV6Mode.TheVariants.{NonTemporaryAddresses, TemporaryAddresses, PrefixDelegation}
use Rattle.dhcp6_msg.specs.Config as configs
use Rattle.dhcp6_msg.specs.Config.{Config, rising_codes}
use Rattle.dhcp6_msg.specs.Lease.{is_unspecified}
use Rattle.dhcp_script.specs.declared.lease6.Lease6.{Lease6}
use Rattle.dhcp_script.specs.declared.script6.Script6.{Script6}
use Rattle.dhcp_script.specs.declared.version.Version.{Version}
use Rattle.dhcp_script.specs.Codes.{are_few, listed_text, request_list}
use Rattle.dhcp_script.specs.Duid.{duid_of, is_duid_or_none}
use Rattle.dhcp_script.specs.Event.{are_valid}
use Rattle.dhcp_script.specs.Field.{or_word, unless_none}
use Rattle.dhcp_script.specs.Lease6.{is_within_limits, versioned_lease_text, HasLeaseText}
use Rattle.dhcp_script.specs.Life.{IsLife, life_text}
use Rattle.dhcp_script.specs.Version.{first_line6}

-- how many codes are listed at most
abbrev pub most_codes : ℕ
most_codes = 1000

-- whether a lease, if there is one, is within its limits
abbrev pub is_lease_valid : Option Lease6 → Bool
is_lease_valid None = true
is_lease_valid (Some lease) = is_within_limits lease

-- Whether a script is valid: its interface is not 0 and its address not ::; its identifier, codes
-- and lease are within their limits; so are its start and its events.
unfoldable pub is_valid : Script6 → Bool
is_valid script =
    not (script.iface_index == 0) && not (is_unspecified script.src_ip)
    && is_duid_or_none script.duid && are_few most_codes script.codes
    && is_lease_valid script.lease && are_valid script.start script.events

-- a configuration with what a script says
abbrev pub with_fields : Script6 → Config → Config
with_fields script config = record config {
  iface_index = script.iface_index;
  duid = duid_of script.duid;
  src_ip = script.src_ip;
  timeout_sec = script.timeout_sec;
  request_opts = request_list rising_codes script.codes config.request_opts;
  src_mac = script.mac;
}

-- the configuration of the script's client; the interface has no name
unfoldable pub config_of : Script6 → Config
config_of script = with_fields script (configs.config_of [] script.mode)

-- what a client asks for; of a prefix its length too
abbrev pub mode_text : DhcpV6Mode → List ℕ
mode_text NonTemporaryAddresses = codes "na"
mode_text TemporaryAddresses = codes "ta"
mode_text (PrefixDelegation len) = codes "pd " ++ decimal len

-- a prefix length that fits its type
abbrev pub IsMode : DhcpV6Mode → Type 0
IsMode NonTemporaryAddresses = Unit {0}
IsMode TemporaryAddresses = Unit {0}
IsMode (PrefixDelegation len) = len < 2 ^ 8

-- a MAC address, or `-` where there is none
abbrev pub mac_text : Option (List ℕ) → List ℕ
mac_text mac = or_word (codes "-") encode_lower mac

-- the interface
abbrev pub iface_text : Script6 → List ℕ
iface_text script =
    spaced (decimal script.iface_index ∷ address6_text script.src_ip ∷ mac_text script.mac
    ∷ mode_text script.mode ∷ decimal script.timeout_sec ∷ [])

-- the lines up to that of the identifier
abbrev pub first_lines : Version → Script6 → List ℕ
first_lines version script =
    first_line6 version
    ++ line (codes "iface " ++ iface_text script)
    ++ line (codes "duid " ++ hex_text script.duid)

-- the text of a script in a version
unfoldable pub script6_text : Version → Script6 → List ℕ
script6_text version script =
    first_lines version script
    ++ line (codes "codes " ++ listed_text (numbers_text w16) script.codes)
    ++ line (codes "lease " ++ unless_none (versioned_lease_text version) script.lease)
    ++ life_text script.words script.start script.events

-- a script that has a text in a version: one whose numbers, addresses and bytes fit their types,
-- and whose lease, if there is one, has a text in it
pub record IsScript6 (version : Version) (script : Script6) : Type 0 where
  pub iface_index : script.iface_index < 2 ^ 32
  pub src_ip : IsIpv6Addr script.src_ip
  pub mac : IfSome script.mac IsMac
  pub mode : IsMode script.mode
  pub timeout_sec : script.timeout_sec < 2 ^ 32
  pub duid : IsBytes script.duid
  pub codes : IfSome script.codes (AreOfWidth w16)
  pub lease : IfSome script.lease (HasLeaseText version)
  pub life : IsLife script.words script.start script.events
