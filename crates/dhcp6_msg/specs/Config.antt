-- The configuration of a DHCPv6 client.
use Rattle.std.specs.Prelude.{◌≡◌, ℕ, ◌&&◌, nat_le, Bool, List, [], ◌∷◌, ◌++◌, length, map, Option, Some, None, Result, Ok, Err}
use Rattle.std.specs.Ordering.{nat_cmp}
use Rattle.std.specs.declared.net.Ipv6Addr.{Ipv6Addr}
use Rattle.dhcp_wire.specs.Error.{ErrorParts, no_memory}
use Rattle.dhcp_wire.specs.OptionCodes as option_codes
use Rattle.dhcp_clock.specs.Words.{Drawn, undrawn}
use Rattle.dhcp6_opt.specs.declared.duid.DhcpV6Duid.{DhcpV6Duid}
use Rattle.dhcp6_opt.specs.declared.duid.DhcpV6Duid.TheVariants.{LinkLayerAddress, Raw}
use Rattle.dhcp6_opt.specs.declared.option_code.DhcpV6OptionCode.{DhcpV6OptionCode}
use Rattle.dhcp6_opt.specs.Duid.{drawn_duid, written_duid}
use Rattle.dhcp6_opt.specs.Ia.{unspecified}
use Rattle.dhcp6_opt.specs.OptionCode.{code_of, number_of}
use Rattle.dhcp6_msg.specs.declared.mode.DhcpV6Mode.{DhcpV6Mode}

-- what contracts see of a configuration: the interface, the client's identifier, what it asks for,
-- the address from which it sends, the time limit in seconds, the options that are asked for, and
-- the MAC address if it is set
pub record Config : Type 0 where
  pub iface_name : List ℕ
  pub iface_index : ℕ
  pub duid : DhcpV6Duid
  pub mode : DhcpV6Mode
  pub src_ip : Ipv6Addr
  pub timeout_sec : ℕ
  pub request_opts : List DhcpV6OptionCode
  pub src_mac : Option (List ℕ)

-- the codes of the default option request option
abbrev pub default_requests : List ℕ
default_requests = 6 ∷ 7 ∷ 23 ∷ 24 ∷ 56 ∷ []

-- a configuration of this interface and mode with nothing else set
unfoldable pub config_of : List ℕ → DhcpV6Mode → Config
config_of name mode = record {
  iface_name = name;
  iface_index = 0;
  duid = Raw [];
  mode = mode;
  src_ip = unspecified;
  timeout_sec = 0;
  request_opts = map code_of default_requests;
  src_mac = None;
}

-- the identifier of an Ethernet address, RFC 8415 section 11.4
abbrev pub ethernet_duid : List ℕ → DhcpV6Duid
ethernet_duid mac = LinkLayerAddress (record { hardware_type = 1; link_layer_address = mac })

-- the identifier of a MAC address, if there is one, else one of four random words
abbrev pub made_duid : Option (List ℕ) → List ℕ → Drawn DhcpV6Duid
made_duid None = drawn_duid
made_duid (Some mac) = undrawn (ethernet_duid mac)

-- an identifier that is there, else one that is made
abbrev pub duid_or_made : DhcpV6Duid → Option (List ℕ) → List ℕ → Drawn DhcpV6Duid
duid_or_made (Raw []) mac = made_duid mac
duid_or_made duid mac = undrawn duid

-- the identifier of a client with this configuration
abbrev pub client_duid : Config → List ℕ → Drawn DhcpV6Duid
client_duid config = duid_or_made config.duid config.src_mac

-- The identifier of a configuration is set to this, or out of memory, and nothing has changed.
abbrev pub SetsDuid : {X : Type 0} → Result X ErrorParts → Config → Config → DhcpV6Duid → Type 0
SetsDuid (Ok _) old new duid = new ≡ record old { duid = duid }
SetsDuid (Err e) old new duid = (e ≡ no_memory) × (new ≡ old)

-- the codes of these numbers in rising order, each once
abbrev pub rising_codes : List ℕ → List DhcpV6OptionCode
rising_codes = option_codes.rising_codes nat_cmp code_of

-- a configuration that requests these options too
abbrev pub with_extra_requests : Config → List ℕ → Config
with_extra_requests config numbers =
    record config { request_opts = rising_codes (map number_of config.request_opts ++ numbers) }

-- Whether the values of a configuration fit their options: the identifier has at most 65,535 bytes,
-- and at most 32,767 options are asked for.
unfoldable pub is_within_limits : Config → Bool
is_within_limits config =
    nat_le (length (written_duid config.duid)) 65535
    && nat_le (length config.request_opts) 32767
