-- The numbers of both clients, worked out.
use Rattle.std.proofs.Common.{◌≡◌, refl}
use Rattle.dhcp_clock.specs.declared.link.Packet.{Packet}
use Rattle.dhcp_history.specs.declared.script.Input.TheVariants.{Arrival, Nothing}
use Rattle.dhcp_draws.specs.Events.{event_words}
use Rattle.dhcp_draws.specs.Tables.{limits4, limits6, most_words}

-- an event with a packet draws at most six words in IPv4, and eight in IPv6
six_in_ipv4 : (packet : Packet) → event_words limits4 (Arrival packet) ≡ 6
six_in_ipv4 packet = refl

eight_in_ipv6 : (packet : Packet) → event_words limits6 (Arrival packet) ≡ most_words
eight_in_ipv6 packet = refl

-- one without a packet at most two, and four
two_in_ipv4 : event_words {Packet = Packet} limits4 Nothing ≡ 2
two_in_ipv4 = refl

four_in_ipv6 : event_words {Packet = Packet} limits6 Nothing ≡ 4
four_in_ipv6 = refl
