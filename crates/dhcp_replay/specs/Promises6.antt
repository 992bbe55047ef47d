-- What is promised of the IPv6 client of every script: how its polls go, and how much it sends.
use Rattle.std.specs.Prelude.{◌≡◌, ◌⊎◌, ℕ, ◌≤◌, List, All, Option, Some, option_map}
use Rattle.dhcp_clock.specs.declared.link.Handed.{Handed}
use Rattle.dhcp_clock.specs.declared.link.Packet.{Packet}
use Rattle.dhcp_history.specs.Bounds.{KeepsDistance, allowed, count_of, is_send_at}
use Rattle.dhcp_history.specs.History.{history, outputs}
use Rattle.dhcp_history.specs.Machine.{first_view}
use Rattle.dhcp_history.specs.Points.{HoldsByPoint, Rises}
use Rattle.dhcp_history.specs.Script.{Script}
use Rattle.dhcp_history.specs.declared.script.NumberedEvent.{NumberedEvent}
use Rattle.dhcp6_msg.specs.declared.message_type.DhcpV6MessageType.{DhcpV6MessageType}
use Rattle.dhcp6_msg.specs.declared.message_type.DhcpV6MessageType.TheVariants.{Advertise, Reply}
use Rattle.dhcp6_msg.specs.Config.{Config}
use Rattle.dhcp6_msg.specs.Lease.{Lease}
use Rattle.dhcp6_client.specs.Answer.{answer_of, message_for}
use Rattle.dhcp6_client.specs.Bounds.{HasElevenRequests, distance}
use Rattle.dhcp6_client.specs.Message.{attempt_message}
use Rattle.dhcp6_client.specs.Rules.{protocol}
use Rattle.dhcp6_client.specs.declared.client_state.ClientState.{ClientState}
use Rattle.dhcp6_client.specs.declared.client_state.ClientState.TheVariants.{Solicit, Request, Done, Temporary, Renew, Rebind}
use Rattle.dhcp6_client.specs.declared.client_state.Exchange.{Exchange}
use Rattle.dhcp_script.specs.Lease6.{lease_with}
use Rattle.dhcp_script.specs.Script6.{config_of}
use Rattle.dhcp_script.specs.declared.event.Event.{Event}
use Rattle.dhcp_script.specs.declared.script6.Script6.{Script6}
use Rattle.dhcp_replay.specs.Replayed6.{config_in, life_of}
use Rattle.dhcp_replay.specs.Settles.{ComesInBy, NamesItsBasis, SettlesAtEach}

-- The lease is read from a packet that comes in by the event with this number, as the answer to a
-- transaction id where a message of this type is awaited.
pub record IsReadFrom (events : List (NumberedEvent Packet)) (last : ℕ) (kind : DhcpV6MessageType)
    (lease : Lease) : Type 0 where
  pub packet : Packet
  pub comes_in : ComesInBy events last packet
  pub xid : ℕ
  pub reads : answer_of (message_for (Some kind) xid packet) ≡ Some lease

-- where a lease comes from: it was read from a Reply that came by the event with this number, or
-- the client held it before
abbrev pub IsKnown : Option Lease → List (NumberedEvent Packet) → ℕ → Lease → Type 0
IsKnown before events last lease = IsReadFrom events last Reply lease ⊎ (before ≡ Some lease)

-- Where the offer or the lease of a state that is entered at the event with this number comes from:
-- it was read from a packet that came by then, the offer from an Advertise and the lease from a
-- Reply; or, in a client that renews, it may be the lease that the client held before.
abbrev pub HasBasis : Option Lease → List (NumberedEvent Packet) → ℕ → ClientState → Type 0
HasBasis before events entry Solicit = Unit {0}
HasBasis before events entry (Request offer) = IsReadFrom events entry Advertise offer
HasBasis before events entry (Done bound) = IsReadFrom events entry Reply bound.lease
HasBasis before events entry (Temporary bound) = IsReadFrom events entry Reply bound.lease
HasBasis before events entry (Renew bound) = IsKnown before events entry bound.lease
HasBasis before events entry (Rebind bound) = IsKnown before events entry bound.lease

-- the message of a state names its offer or its lease; it has a transaction id, the time for which
-- the client has tried, and in a Solicit the identifier of an association
pub record IsMessageOf (config : Config) (state : ClientState) (message : Handed) : Type 0 where
  pub xid : ℕ
  pub elapsed : ℕ
  pub iaid : ℕ
  pub is : message ≡ attempt_message xid config elapsed iaid state

-- What is promised of a client with this configuration, and with a lease that it held before or
-- none, over this life. In the bounds of a stay a message counts if the link took it and it is no
-- release; in those of an event a refused one counts too.
pub record KeepsPromisesOver (config : Config) (lease : Option Lease)
    (life : Script Packet ClientState Exchange) : Type 0 where
  -- an offer is requested at most eleven times in a stay
  pub eleven_requests : All HasElevenRequests (history (protocol config) life)
  -- the messages of a stay are at least 0.9 seconds apart, those in Renew and in Rebind at least
  -- nine seconds
  pub messages_far_apart : All (KeepsDistance distance) (history (protocol config) life)
  -- an event has at most two messages, and one more where it asks for a release
  pub two_messages : (number : ℕ) → count_of (is_send_at number)
      (outputs (protocol config) (history (protocol config) life)) ≤ allowed number life.events
  -- each attempt's message names the offer or the lease of its state, which was read from an
  -- earlier packet, or is the lease that was held before
  pub names_its_basis :
      All (NamesItsBasis (HasBasis lease life.events) (IsMessageOf config))
      (history (protocol config) life)
  -- point by point: what answers a stay, that no answer is missed, whose each message is, and how
  -- the stays follow one another
  pub by_point : Rises 0 0 life.events →
      HoldsByPoint (protocol config) life.events (history (protocol config) life)
  -- Each event has at most seven polls. After them a client without a kept error is not in Done at
  -- or past T1, or at or past the end of its lease if it asks for temporary addresses, not in Renew
  -- at or past T2, and not in Rebind at or past the end of its lease.
  pub settles : SettlesAtEach (protocol config) (first_view life) life.events

-- the same of a client that begins with this configuration and this lease at this start, over these
-- words and events
abbrev pub KeepsPromises : Config → Option Lease → ℕ → List ℕ → List Event → Type 0
KeepsPromises config lease start words events =
    KeepsPromisesOver (config_in config words) lease (life_of config lease start words events)

-- what is promised of the client of a script
abbrev pub KeepsPromisesOfV6 : Script6 → Type 0
KeepsPromisesOfV6 script =
    KeepsPromises (config_of script) (option_map lease_with script.lease) script.start
    script.words script.events
