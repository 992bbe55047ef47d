-- A relay message that is written reads back.
use Rattle.std.proofs.Common.{◌≡◌, ℕ, ◌^◌, ◌<◌, Bool, true, false, List, [], ◌∷◌, ◌++◌, length, Option, Some, None, Ok, refl, sym, ap, ◌∙◌, arith, append_assoc, append-nil}
use Rattle.std.specs.Prelude.{IfSome, ok_or}
use Rattle.std.specs.Net.Addr.{IsIpv6Addr, ipv6_octets}
use Rattle.dhcp_wire.specs.RawOption.{FitsFormat, RawOptionParts, raw_options, with_later}
use Rattle.dhcp_wire.specs.declared.raw_option.OptionFormat.TheVariants.{DhcpV6}
use Rattle.dhcp_wire.proofs.FieldLaws.{ipv6_address_at-octets, number_at-byte}
use Rattle.dhcp_wire.proofs.RawOptionLemmas.{raw_options-nil, raw_options-raw_option_at, raw_option_at-written_raw_option}
use Rattle.dhcp6_relay.specs.Layer.{LayerParts, interface_id, relay_message, type_number, written_interface, written_layer, written_option}
use Rattle.dhcp6_relay.specs.Relay.{direction_of, first_value, parsed_relay, read_relay, refusal_of, relay_with}

-- a layer that can be written: its addresses are whole, and its hop count and its interface id fit
pub record Fits (layer : LayerParts) : Type 0 where
  pub hops : layer.hops < 2 ^ 8
  pub link : IsIpv6Addr layer.link
  pub peer : IsIpv6Addr layer.peer
  pub interface : IfSome layer.interface (λ id. length id < 2 ^ 16)

option_fits : (code : ℕ) (value : List ℕ) → code < 2 ^ 16 → length value < 2 ^ 16 → FitsFormat DhcpV6 (record { code = code; value = value })
option_fits code value small short = record { code = small; length = short; alone = λ is. cc }

-- an option that is written is the first of the list
options-written : (code : ℕ) (value rest : List ℕ) → code < 2 ^ 16 → length value < 2 ^ 16
    → raw_options DhcpV6 (written_option code value ++ rest) ≡ record { code = code; value = value } ∷ raw_options DhcpV6 rest
options-written code value rest small short =
    raw_options-raw_option_at DhcpV6 (written_option code value ++ rest)
    ∙ ap (with_later DhcpV6 (raw_options DhcpV6)) (raw_option_at-written_raw_option DhcpV6 (record { code = code; value = value }) rest (option_fits code value small short))

-- the option of an interface id
interface_options : Option (List ℕ) → List RawOptionParts
interface_options None = []
interface_options (Some id) = record { code = interface_id; value = id } ∷ []

options-written_interface : (interface : Option (List ℕ)) → IfSome interface (λ id. length id < 2 ^ 16) → raw_options DhcpV6 (written_interface interface) ≡ interface_options interface
unfolding interface_options
options-written_interface None fits = raw_options-nil DhcpV6
options-written_interface (Some id) fits =
    ap (raw_options DhcpV6) (sym (append-nil (written_option interface_id id)))
    ∙ options-written interface_id id [] (omega arith) fits
    ∙ ap (λ later. record { code = interface_id; value = id } ∷ later) (raw_options-nil DhcpV6)

-- the options of a layer
options-written_layer : (layer : LayerParts) (message : List ℕ) → Fits layer → length message < 2 ^ 16
    → raw_options DhcpV6 (written_option relay_message message ++ written_interface layer.interface) ≡ record { code = relay_message; value = message } ∷ interface_options layer.interface
options-written_layer layer message fits short =
    options-written relay_message message (written_interface layer.interface) (omega arith) short
    ∙ ap (λ later. record { code = relay_message; value = message } ∷ later) (options-written_interface layer.interface fits.interface)

first_interface : (message : List ℕ) (interface : Option (List ℕ)) → first_value interface_id (record { code = relay_message; value = message } ∷ interface_options interface) ≡ interface
unfolding interface_options
first_interface message None = refl
first_interface message (Some id) = refl

type_fits : (forward : Bool) → type_number forward < 2 ^ 8
type_fits true = omega arith
type_fits false = omega arith

direction_of-type_number : (forward : Bool) → direction_of (type_number forward) ≡ Some forward
direction_of-type_number true = refl
direction_of-type_number false = refl

-- a layer that is written around a message reads back
pub read_relay-written_layer : (forward : Bool) (layer : LayerParts) (message : List ℕ) → Fits layer → length message < 2 ^ 16
    → read_relay (written_layer forward layer message) ≡ Some (relay_with forward layer message)
unfolding read_relay written_layer
read_relay-written_layer forward layer message fits short =
    let options : List ℕ = written_option relay_message message ++ written_interface layer.interface in
    rw (
      number_at-byte (type_number forward) (layer.hops ∷ ((ipv6_octets layer.link ++ ipv6_octets layer.peer) ++ options)) (type_fits forward),
      direction_of-type_number forward,
      number_at-byte layer.hops ((ipv6_octets layer.link ++ ipv6_octets layer.peer) ++ options) fits.hops,
      append_assoc (ipv6_octets layer.link) (ipv6_octets layer.peer) options,
      ipv6_address_at-octets layer.link (ipv6_octets layer.peer ++ options) fits.link,
      ipv6_address_at-octets layer.peer options fits.peer,
      options-written_layer layer message fits short,
      first_interface message layer.interface,
    ) refl

-- and is parsed
pub parsed_relay-written_layer : (forward : Bool) (layer : LayerParts) (message : List ℕ) → Fits layer → length message < 2 ^ 16
    → parsed_relay (written_layer forward layer message) ≡ Ok (relay_with forward layer message)
unfolding parsed_relay
parsed_relay-written_layer forward layer message fits short =
    ap (λ read. ok_or read (refusal_of (written_layer forward layer message))) (read_relay-written_layer forward layer message fits short)
