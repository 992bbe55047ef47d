-- The events of a script, and their limits.
use Rattle.std.specs.Prelude.{ℕ, ◌^◌, Bool, true, ◌&&◌, nat_lt, nat_le, List, [], ◌∷◌, length}
use Rattle.std.specs.List.{list_all}
use Rattle.dhcp_script.specs.declared.event.Event.{Event}
use Rattle.dhcp_script.specs.declared.event.EventWhat.{EventWhat}
use Rattle.dhcp_script.specs.declared.event.EventWhat.TheVariants.{Nothing, Frame, Payload, Release, CleanUp}

-- how many events a script has at most
abbrev pub most_events : ℕ
most_events = 20000

-- how many bytes a packet has at most
abbrev pub most_packet_bytes : ℕ
most_packet_bytes = 1500

-- every moment is below this one, in milliseconds
abbrev pub moment_limit : ℕ
moment_limit = 2 ^ 60

-- the bytes of the packet that comes in, if any does
abbrev pub packet_of : EventWhat → List ℕ
packet_of (Frame bytes) = bytes
packet_of (Payload bytes) = bytes
packet_of Nothing = []
packet_of Release = []
packet_of CleanUp = []

-- whether the moment of an event and its packet are within their limits
abbrev pub is_within_limits : Event → Bool
is_within_limits event =
    nat_lt event.moment moment_limit && nat_le (length (packet_of event.what)) most_packet_bytes

-- whether no event is before the one above it, nor the first before the start
abbrev pub are_in_order : ℕ → List Event → Bool
are_in_order start [] = true
are_in_order start (event ∷ events) = nat_le start event.moment && are_in_order event.moment events

-- Whether a start and the events after it are valid: there are at most 20,000 events, in order; the
-- start and each moment are below 2^60; each packet has at most 1,500 bytes.
unfoldable pub are_valid : ℕ → List Event → Bool
are_valid start events =
    nat_lt start moment_limit && nat_le (length events) most_events
    && list_all is_within_limits events && are_in_order start events
