-- What a relay agent puts around a message, RFC 8415 section 9: a type, a hop count, a link address
-- and a peer address, and options, of which one has the message and one may have an interface id.
use Rattle.std.specs.Prelude.{ℕ, Bool, true, false, ◌==◌, List, [], ◌∷◌, ◌++◌, length, Option, Some, None}
use Rattle.std.specs.Net.Addr.{ipv6_octets}
use Rattle.std.specs.declared.net.Ipv6Addr.{Ipv6Addr}
use Rattle.dhcp_wire.specs.RawOption.{written_raw_option}
use Rattle.dhcp_wire.specs.declared.raw_option.OptionFormat.TheVariants.{DhcpV6}

-- the type of a Relay-forward message, section 7.3
abbrev pub relay_forward : ℕ
relay_forward = 12

-- the type of a Relay-reply message, section 7.3
abbrev pub relay_reply : ℕ
relay_reply = 13

-- the code of the Relay Message option, section 21.10
abbrev pub relay_message : ℕ
relay_message = 9

-- the code of the Interface-Id option, section 21.18
abbrev pub interface_id : ℕ
interface_id = 18

-- how many bytes stand before the options: type, hop count and two addresses
abbrev pub header_length : ℕ
header_length = 34

-- the hop count from which on a Relay-forward is not relayed any more, HOP_COUNT_LIMIT of section
-- 7.6
abbrev pub hop_count_limit : ℕ
hop_count_limit = 8

-- what contracts see of a layer: what a relay agent writes of the message that it received
pub record LayerParts : Type 0 where
  pub hops : ℕ
  pub link : Ipv6Addr
  pub peer : Ipv6Addr
  pub interface : Option (List ℕ)

-- the type of a relay message: forward to a server, or a reply to a client
abbrev pub type_number : Bool → ℕ
type_number true = relay_forward
type_number false = relay_reply

-- whether a message is of this type, which is its first byte
abbrev pub is_of_type : ℕ → List ℕ → Bool
is_of_type number [] = false
is_of_type number (first ∷ rest) = first == number

-- whether a message is a Relay-forward
abbrev pub is_forward : List ℕ → Bool
is_forward bytes = is_of_type relay_forward bytes

-- an option as it is written
abbrev pub written_option : ℕ → List ℕ → List ℕ
written_option code value = written_raw_option DhcpV6 (record { code = code; value = value })

-- the Interface-Id option, where there is an interface id
abbrev pub written_interface : Option (List ℕ) → List ℕ
written_interface None = []
written_interface (Some id) = written_option interface_id id

-- what stands before the options of a layer
abbrev pub written_header : Bool → LayerParts → List ℕ
written_header forward layer =
    type_number forward ∷ layer.hops ∷ (ipv6_octets layer.link ++ ipv6_octets layer.peer)

-- a layer around a message, forward or in reply
unfoldable pub written_layer : Bool → LayerParts → List ℕ → List ℕ
written_layer forward layer message =
    written_header forward layer
    ++ (written_option relay_message message ++ written_interface layer.interface)

-- layers around a message, the first of them outmost
unfoldable pub layers_around : Bool → List LayerParts → List ℕ → List ℕ
layers_around forward [] message = message
layers_around forward (layer ∷ layers) message =
    written_layer forward layer (layers_around forward layers message)

-- how many bytes a layer adds to a message
abbrev pub layer_length : LayerParts → ℕ
layer_length layer = length (written_layer true layer [])
