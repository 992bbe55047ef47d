-- A relay message in the bytes that it was received in.
use Rattle.std.specs.Prelude.{option_copied}
use Rattle.dhcp6_relay.specs.Layer.{LayerParts}
use Rattle.dhcp6_relay.specs.Relay.{relay_with}
use Rattle.dhcp6_relay.specs.declared.layer.Layer.TheInside as layer
use Rattle.dhcp6_relay.specs.declared.relay.Relay.{Relay}
use Rattle.dhcp6_relay.specs.declared.view.RelayView.TheInside as view

-- the layer of its fields
abbrev pub parts_of : layer.Inside → LayerParts
parts_of inside = record {
  hops = inside.hops;
  link = inside.link;
  peer = inside.peer;
  interface = option_copied inside.interface;
}

-- the relay message of its fields
abbrev pub relay_of : view.Inside → Relay
relay_of inside = relay_with inside.forward inside.layer inside.inner.now
