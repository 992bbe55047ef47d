-- Layers, as they are written: how long they are, and what types and hop counts they have.
use Rattle.std.proofs.Common.{◌≡◌, ℕ, ◌+◌, ◌*◌, ◌<◌, ◌≤◌, Bool, true, false, List, [], ◌∷◌, ◌++◌, length, length-append, append_assoc, Option, Some, None, refl, sym, ap, ◌∙◌, arith}
use Rattle.std.specs.Int.{w16, to_be_bytes}
use Rattle.std.specs.List.{sum_by}
use Rattle.std.specs.Net.Addr.{IsIpv6Addr, ipv6_octets, ipv6_segments}
use Rattle.std.specs.declared.net.Ipv6Addr.{Ipv6Addr}
use Rattle.std.proofs.lemmas.List.Sums.{sum_by-cons}
use Rattle.dhcp_wire.specs.RawOption.{written_raw_option}
use Rattle.dhcp_wire.proofs.FieldLaws.{length-bytes_high_first, length-octets_of}
use Rattle.dhcp6_relay.specs.Layer.{LayerParts, layers_around, header_length, interface_id, is_forward, layer_length, relay_message, written_header, written_interface, written_layer, written_option}
use Rattle.dhcp6_relay.specs.Wrap.{hop_count}

-- an address has sixteen octets
pub length-ipv6_octets : (address : Ipv6Addr) → IsIpv6Addr address → length (ipv6_octets address) ≡ 16
length-ipv6_octets address is = length-octets_of (ipv6_segments address) ∙ ap (λ n. 2 * n) is.0

-- an option is four bytes and its value
pub length-written_option : (code : ℕ) (value : List ℕ) → length (written_option code value) ≡ 4 + length value
unfolding written_raw_option
length-written_option code value =
    omega (
      arith,
      length-append (to_be_bytes w16 code) (to_be_bytes w16 (length value) ++ value),
      length-append (to_be_bytes w16 (length value)) value,
      length-bytes_high_first 2 code,
      length-bytes_high_first 2 (length value),
    )

-- an option is its code, its length and its value
pub written_option-parts : (code : ℕ) (value : List ℕ) → written_option code value ≡ to_be_bytes w16 code ++ (to_be_bytes w16 (length value) ++ value)
unfolding written_raw_option
written_option-parts code value = refl

-- what a layer is without the message inside it
rest_length : Bool → LayerParts → ℕ
rest_length forward layer = length (written_header forward layer) + 4 + length (written_interface layer.interface)

layer_parts : (forward : Bool) (layer : LayerParts) (message : List ℕ) → length (written_layer forward layer message) ≡ rest_length forward layer + length message
unfolding written_layer rest_length
layer_parts forward layer message =
    omega (
      arith,
      length-append (written_header forward layer) (written_option relay_message message ++ written_interface layer.interface),
      length-append (written_option relay_message message) (written_interface layer.interface),
      length-written_option relay_message message,
    )

same_header : (forward : Bool) (layer : LayerParts) → rest_length forward layer ≡ rest_length true layer
unfolding rest_length
same_header forward layer = refl

-- a layer adds its length to the message inside it
pub length-written_layer : (forward : Bool) (layer : LayerParts) (message : List ℕ) → length (written_layer forward layer message) ≡ layer_length layer + length message
length-written_layer forward layer message =
    omega (arith, layer_parts forward layer message, layer_parts true layer [], same_header forward layer)

-- that is the header, the head of an option, and the option of an interface id
pub layer_length-parts : (layer : LayerParts) → layer_length layer ≡ 2 + length (ipv6_octets layer.link) + length (ipv6_octets layer.peer) + 4 + length (written_interface layer.interface)
unfolding rest_length
layer_length-parts layer =
    omega (arith, layer_parts true layer [], length-append (ipv6_octets layer.link) (ipv6_octets layer.peer))

pub layer_length-whole : (layer : LayerParts) → IsIpv6Addr layer.link → IsIpv6Addr layer.peer → layer_length layer ≡ header_length + 4 + length (written_interface layer.interface)
layer_length-whole layer link peer =
    omega (arith, layer_length-parts layer, length-ipv6_octets layer.link link, length-ipv6_octets layer.peer peer)

-- layers around a message
pub length-around : (forward : Bool) (layers : List LayerParts) (message : List ℕ) → length (layers_around forward layers message) ≡ length message + sum_by layer_length layers
unfolding layers_around
length-around forward [] message = omega arith
length-around forward (layer ∷ layers) message =
    omega (arith, length-written_layer forward layer (layers_around forward layers message), length-around forward layers message, sum_by-cons layer_length layer layers)

-- a layer forward is a Relay-forward
pub is_forward-written_layer : (layer : LayerParts) (message : List ℕ) → is_forward (written_layer true layer message) ≡ true
unfolding written_layer
is_forward-written_layer layer message = refl

-- with its hop count
pub hop_count-written_layer : (forward : Bool) (layer : LayerParts) (message : List ℕ) → hop_count (written_layer forward layer message) ≡ layer.hops
unfolding written_layer
hop_count-written_layer forward layer message = refl

-- and its header is whole
pub header-written_layer : (forward : Bool) (layer : LayerParts) (message : List ℕ) → IsIpv6Addr layer.link → IsIpv6Addr layer.peer → header_length ≤ length (written_layer forward layer message)
header-written_layer forward layer message link peer =
    omega (arith, length-written_layer forward layer message, layer_length-whole layer link peer)

-- an interface id is a part of its layer
pub interface-le-layer_length : (layer : LayerParts) → length (written_interface layer.interface) ≤ layer_length layer
unfolding rest_length
interface-le-layer_length layer = omega (arith, layer_parts true layer [])

-- the first of some layers, and those inside it
pub length-around-first : (forward : Bool) (layers : List LayerParts) (message : List ℕ) (layer : LayerParts) (inside : List LayerParts) → layers ≡ layer ∷ inside
    → length (layers_around forward layers message) ≡ layer_length layer + length (layers_around forward inside message)
unfolding layers_around
length-around-first forward layers message layer inside is =
    ap (λ layers. length (layers_around forward layers message)) is ∙ length-written_layer forward layer (layers_around forward inside message)

pub first-le-around : (forward : Bool) (layers : List LayerParts) (message : List ℕ) (len : ℕ) (layer : LayerParts) (inside : List LayerParts) → layers ≡ layer ∷ inside → len ≡ length (layers_around forward layers message) → layer_length layer ≤ len
first-le-around forward layers message len layer inside is whole =
    omega (arith, whole, length-around-first forward layers message layer inside is)

-- as they are written one after the other
pub written-around-first : (forward : Bool) (layers : List LayerParts) (message old : List ℕ) (layer : LayerParts) (inside : List LayerParts) (n : ℕ) → layers ≡ layer ∷ inside → n ≡ length (layers_around forward inside message)
    → old ++ (written_header forward layer ++ (to_be_bytes w16 relay_message ++ to_be_bytes w16 n)) ++ layers_around forward inside message ++ written_interface layer.interface ≡ old ++ layers_around forward layers message
unfolding layers_around written_layer
written-around-first forward layers message old layer inside n is long =
    let head : List ℕ = written_header forward layer in
    let code : List ℕ = to_be_bytes w16 relay_message in
    let inner : List ℕ = layers_around forward inside message in
    let size : List ℕ = to_be_bytes w16 (length inner) in
    let tail : List ℕ = written_interface layer.interface in
    let whole : List ℕ → List ℕ = λ number. old ++ (head ++ (code ++ number)) ++ inner ++ tail in
    let layout : whole size ≡ old ++ (head ++ ((code ++ (size ++ inner)) ++ tail)) = simp append_assoc refl in
    ap (λ n. whole (to_be_bytes w16 n)) long
    ∙ layout
    ∙ ap (λ option. old ++ (head ++ (option ++ tail))) (sym (written_option-parts relay_message inner))
    ∙ ap (λ layers. old ++ layers_around forward layers message) (sym is)

pub around-none : (forward : Bool) (layers : List LayerParts) (message : List ℕ) → length layers ≡ 0 → layers_around forward layers message ≡ message
unfolding layers_around
around-none forward [] message none = refl
around-none forward (layer ∷ layers) message none = absurd (omega (arith, none))

pub ruleset layers_written = (around-none, length-around-first, written-around-first, interface-le-layer_length)

pub ruleset lengths_around = (length-around)

pub ruleset lengths = (layer_length-parts)

-- so is the interface id itself
pub id-le-layer_length : (layer : LayerParts) (id : List ℕ) → layer.interface ≡ Some id → length id ≤ layer_length layer
id-le-layer_length layer id is =
    let own = ap (λ interface. length (written_interface interface)) is in
    omega (arith, interface-le-layer_length layer, own, length-written_option interface_id id)

pub ruleset interface_ids = (id-le-layer_length)

pub ruleset length_of_option = (length-written_option)

pub ruleset written_options = (written_option-parts, append_assoc)
