-- A relay message, RFC 8415 section 9, as it reads.
use Rattle.std.specs.Prelude.{ℕ, Bool, true, false, ◌==◌, ◌||◌, List, [], ◌∷◌, length, nat_lt, if◌then◌else◌, Option, Some, None, Result, ok_or}
use Rattle.std.specs.Int.{w8}
use Rattle.dhcp_wire.specs.Field.{◌>>=◌, number_at, ipv6_address_at}
use Rattle.dhcp_wire.specs.RawOption.{RawOptionParts, raw_options}
use Rattle.dhcp_wire.specs.declared.raw_option.OptionFormat.TheVariants.{DhcpV6}
use Rattle.dhcp6_relay.specs.Layer.{LayerParts, header_length, interface_id, is_of_type, relay_forward, relay_message, relay_reply}
use Rattle.dhcp6_relay.specs.declared.error.RelayError.{RelayError}
use Rattle.dhcp6_relay.specs.declared.error.RelayError.TheVariants.{NotRelay, Short, NoMessage}
use Rattle.dhcp6_relay.specs.declared.relay.Relay.{Relay}

-- the direction of a relay message of this type: to a server, or back
abbrev pub direction_of : ℕ → Option Bool
direction_of number =
    if number == relay_forward then Some true
    else if number == relay_reply then Some false else None

-- the value of the first option of this code
abbrev pub first_value : ℕ → List RawOptionParts → Option (List ℕ)
first_value code [] = None
first_value code (option ∷ options) =
    if option.code == code then Some option.value else first_value code options

-- the relay message that a layer around a message is
abbrev pub relay_with : Bool → LayerParts → List ℕ → Relay
relay_with forward layer message = record {
  forward = forward;
  hops = layer.hops;
  link = layer.link;
  peer = layer.peer;
  interface = layer.interface;
  inner = message;
}

-- the layer of a relay message
abbrev pub layer_of : Relay → LayerParts
layer_of relay = record {
  hops = relay.hops;
  link = relay.link;
  peer = relay.peer;
  interface = relay.interface;
}

-- A relay message reads where its type is one of the two, its header is whole, and its options hold
-- a Relay Message option. The first option of a code counts, and all others are ignored.
unfoldable pub read_relay : List ℕ → Option Relay
read_relay bytes = do
  msg_type ← number_at w8 bytes
  forward ← direction_of msg_type.0
  hops ← number_at w8 msg_type.1
  link ← ipv6_address_at hops.1
  peer ← ipv6_address_at link.1
  message ← first_value relay_message (raw_options DhcpV6 peer.1)
  Some (record {
    forward = forward;
    hops = hops.0;
    link = link.0;
    peer = peer.0;
    interface = first_value interface_id (raw_options DhcpV6 peer.1);
    inner = message;
  })

-- whether the type of a message is one of the two
abbrev pub is_relay : List ℕ → Bool
is_relay bytes = is_of_type relay_forward bytes || is_of_type relay_reply bytes

-- why some bytes do not read: by their type, else by their length, else by their options
abbrev pub refusal_of : List ℕ → RelayError
refusal_of bytes =
    if is_relay bytes
    then (if nat_lt (length bytes) header_length then Short else NoMessage)
    else NotRelay

-- a relay message, or its refusal
unfoldable pub parsed_relay : List ℕ → Result Relay RelayError
parsed_relay bytes = ok_or (read_relay bytes) (refusal_of bytes)
