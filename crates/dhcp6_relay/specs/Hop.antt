-- One relay agent on the way of a message, by what it writes of the message that it received, RFC
-- 8415 section 19.1.
use Rattle.std.specs.Prelude.{ℕ, List, Option}
use Rattle.std.specs.declared.net.Ipv6Addr.{Ipv6Addr}
use Rattle.dhcp6_relay.specs.Layer.{LayerParts}

-- the address of the link that the message came from, the address of who sent it, and the interface
-- that it came in on
pub record Hop : Type 0 where
  pub link : Ipv6Addr
  pub peer : Ipv6Addr
  pub interface : Option (List ℕ)

-- the layer of a relay agent with this hop count
abbrev pub layer_at : ℕ → Hop → LayerParts
layer_at hops hop =
    record { hops = hops; link = hop.link; peer = hop.peer; interface = hop.interface }
