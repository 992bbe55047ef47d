-- The configuration of a DHCPv4 client.
use Rattle.std.specs.Prelude.{ℕ, Bool, true, false, List, [], ◌∷◌, ◌++◌, length, map, replicate, Result, Ok, Err, ◌==◌, ◌&&◌, not, nat_le, if◌then◌else◌}
use Rattle.std.specs.List.{list_any}
use Rattle.std.specs.Ordering.{nat_cmp}
use Rattle.dhcp_wire.specs.OptionCodes as option_codes
use Rattle.dhcp_wire.specs.declared.error.ErrorKind.{ErrorKind}
use Rattle.dhcp_wire.specs.declared.error.ErrorKind.TheVariants.{NotSupported}
use Rattle.dhcp_wire.specs.Mac.{bytes_of_mac}
use Rattle.dhcp4_msg.specs.declared.option_code.DhcpV4OptionCode.{DhcpV4OptionCode}
use Rattle.dhcp4_msg.specs.OptionCode.{code_of, number_of}
use Rattle.dhcp4_lease.specs.declared.message_forms.DhcpV4MessageForms.{DhcpV4MessageForms}
use Rattle.dhcp4_lease.specs.declared.message_forms.DhcpV4MessageForms.TheVariants.{Mozim}

-- what contracts see of a configuration: the interface, whether the client asks for another host,
-- the time limit in seconds, the MAC address, the client identifier with its type byte, the
-- host name, the options that are asked for, and the forms of the messages
pub record Config : Type 0 where
  pub iface_name : List ℕ
  pub iface_index : ℕ
  pub is_proxy : Bool
  pub timeout_sec : ℕ
  pub src_mac : List ℕ
  pub client_id : List ℕ
  pub host_name : List ℕ
  pub request_opts : List DhcpV4OptionCode
  pub message_forms : DhcpV4MessageForms

-- the option codes of the default parameter request list
abbrev pub default_requests : List ℕ
default_requests = 12 ∷ 1 ∷ 3 ∷ 6 ∷ 15 ∷ 26 ∷ 42 ∷ 121 ∷ 249 ∷ []

-- a configuration of this interface with nothing else set
unfoldable pub config_of : List ℕ → Config
config_of name = record {
  iface_name = name;
  iface_index = 0;
  is_proxy = false;
  timeout_sec = 0;
  src_mac = replicate 6 0;
  client_id = [];
  host_name = [];
  request_opts = map code_of default_requests;
  message_forms = Mozim;
}

-- a MAC address: six bytes
abbrev pub mac_of_bytes : List ℕ → Result (List ℕ) ErrorKind
mac_of_bytes bytes = if length bytes == 6 then Ok bytes else Err NotSupported

-- the MAC address that a text writes
unfoldable pub mac_of_text : List ℕ → Result (List ℕ) ErrorKind
mac_of_text text = six (bytes_of_mac text)
  where
    six : Result (List ℕ) ErrorKind → Result (List ℕ) ErrorKind
    six (Ok bytes) = mac_of_bytes bytes
    six (Err kind) = Err kind

-- a configuration with this MAC address, if there is one
unfoldable pub with_mac : Config → Result (List ℕ) ErrorKind → Result Config ErrorKind
with_mac config (Ok mac) = Ok (record config { src_mac = mac })
with_mac config (Err kind) = Err kind

-- the configuration of a client that asks for the host of this address
abbrev pub proxy_config : List ℕ → List ℕ → Result Config ErrorKind
proxy_config name mac = with_mac (record (config_of name) { is_proxy = true }) (mac_of_text mac)

-- a configuration whose client identifier is its host name, of type 0; without a host name it stays
-- as it is
unfoldable pub with_host_name_as_client_id : Config → Config
with_host_name_as_client_id config = named config.host_name
  where
    named : List ℕ → Config
    named [] = config
    named (byte ∷ bytes) = record config { client_id = 0 ∷ byte ∷ bytes }

-- the codes of these numbers in rising order, each once
abbrev pub rising_codes : List ℕ → List DhcpV4OptionCode
rising_codes = option_codes.rising_codes nat_cmp code_of

-- a configuration that requests these options too
abbrev pub with_extra_requests : Config → List ℕ → Config
with_extra_requests config numbers =
    record config { request_opts = rising_codes (map number_of config.request_opts ++ numbers) }

-- Whether the values of a configuration fit their options: the host name has at most 254 bytes and
-- no zero byte, the client identifier at most 255 bytes, and at most 255 options are asked for.
unfoldable pub is_within_limits : Config → Bool
is_within_limits config =
    nat_le (length config.host_name) 254 && not (list_any (λ byte. byte == 0) config.host_name)
    && nat_le (length config.client_id) 255 && nat_le (length config.request_opts) 255
