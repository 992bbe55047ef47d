-- What is promised of the IPv4 client of every script: how its polls go, and how much it sends.
use Rattle.std.specs.Prelude.{◌≡◌, ℕ, ◌≤◌, List, All, Option, Some, option_map}
use Rattle.dhcp_clock.specs.declared.link.Handed.{Handed}
use Rattle.dhcp_clock.specs.declared.link.Packet.{Packet}
use Rattle.dhcp_clock.specs.Words.{next_of}
use Rattle.dhcp_history.specs.Bounds.{KeepsDistance, allowed, count_of, is_send_at}
use Rattle.dhcp_history.specs.History.{outputs}
use Rattle.dhcp_history.specs.Machine.{first_view}
use Rattle.dhcp_history.specs.Points.{HoldsByPoint, Rises}
use Rattle.dhcp_history.specs.declared.script.NumberedEvent.{NumberedEvent}
use Rattle.dhcp4_msg.specs.declared.message_type.DhcpV4MessageType.{DhcpV4MessageType}
use Rattle.dhcp4_msg.specs.declared.message_type.DhcpV4MessageType.TheVariants.{Offer, Ack}
use Rattle.dhcp4_lease.specs.Config.{Config}
use Rattle.dhcp4_lease.specs.declared.message_forms.DhcpV4MessageForms.{DhcpV4MessageForms}
use Rattle.dhcp4_lease.specs.declared.message_forms.DhcpV4MessageForms.TheVariants.{Rfc2131}
use Rattle.dhcp4_lease.specs.Lease.{Lease}
use Rattle.dhcp4_client.specs.Answer.{awaited, message_for, reading_of}
use Rattle.dhcp4_client.specs.Bounds.{GetsRarer, HasFourRequests, HasFourRequestsOfAnOffer, distance}
use Rattle.dhcp4_client.specs.Message.{attempt_message}
use Rattle.dhcp4_client.specs.Rules.{protocol}
use Rattle.dhcp4_client.specs.declared.answer.Answer.TheVariants.{Granted}
use Rattle.dhcp4_client.specs.declared.client_state.ClientState.{ClientState}
use Rattle.dhcp4_client.specs.declared.client_state.ClientState.TheVariants.{InitReboot, Selecting, Rebooting, Done, Renewing, Rebinding}
use Rattle.dhcp_script.specs.Lease4.{lease_with}
use Rattle.dhcp_script.specs.Script4.{config_of}
use Rattle.dhcp_script.specs.declared.event.Event.{Event}
use Rattle.dhcp_script.specs.declared.script4.Script4.{Script4}
use Rattle.dhcp_replay.specs.Life.{numbered}
use Rattle.dhcp_replay.specs.Replayed4.{history4, life_of}
use Rattle.dhcp_replay.specs.Settles.{ComesInBy, NamesItsBasis, SettlesAtEach}

-- The lease is read from a packet that comes in by the event with this number, as the answer to a
-- transaction id, in a state that awaits, by these forms of messages, a message of this type.
pub record IsReadFrom (forms : DhcpV4MessageForms) (events : List (NumberedEvent Packet))
    (xid last : ℕ) (kind : DhcpV4MessageType) (lease : Lease) : Type 0 where
  pub packet : Packet
  pub comes_in : ComesInBy events last packet
  pub state : ClientState
  pub awaits : option_map (λ found. found.grant) (awaited forms state) ≡ Some kind
  pub drawn : List ℕ
  pub reads : (reading_of (awaited forms state)
      (message_for (awaited forms state) xid packet) drawn).value ≡ Some (Granted lease)

-- Where the offer or the lease of a state that is entered at the event with this number comes from:
-- it was read from a packet that came by then, the offer from an Offer and the lease from an Ack;
-- or it is the lease that the client held before.
abbrev pub HasBasis : DhcpV4MessageForms → Option Lease → List (NumberedEvent Packet) → ℕ → ℕ →
    ClientState → Type 0
HasBasis forms before events xid entry InitReboot = Unit {0}
HasBasis forms before events xid entry (Selecting offer) =
    IsReadFrom forms events xid entry Offer offer
HasBasis forms before events xid entry (Rebooting lease) = before ≡ Some lease
HasBasis forms before events xid entry (Done bound) =
    IsReadFrom forms events xid entry Ack bound.lease
HasBasis forms before events xid entry (Renewing bound) =
    IsReadFrom forms events xid entry Ack bound.lease
HasBasis forms before events xid entry (Rebinding bound) =
    IsReadFrom forms events xid entry Ack bound.lease

-- the message of a state names its offer or its lease
abbrev pub IsMessageOf : Config → ℕ → ClientState → Handed → Type 0
IsMessageOf config xid state message = message ≡ attempt_message xid config state

-- What is promised of a client with this configuration, and with a lease that it held before or
-- none, over these words and events. In the bounds of a stay a message counts if the link took it
-- and it is no release; in those of an event a refused one counts too.
pub record KeepsPromises (config : Config) (lease : Option Lease) (words : List ℕ)
    (events : List Event) : Type 0 where
  -- k requests in a stay, k at least 2, come in RENEWING only if T2 - T1, and in REBINDING only if
  -- the lease time - T2, is above 60 * 2^(k-2) seconds
  pub requests_get_rarer : All GetsRarer (history4 config lease words events)
  -- the messages of a stay are at least three seconds apart, those in RENEWING and in REBINDING at
  -- least a minute
  pub messages_far_apart : All (KeepsDistance distance) (history4 config lease words events)
  -- a lease that was held before is requested at most four times in a stay
  pub four_requests : All HasFourRequests (history4 config lease words events)
  -- so is an offer, by the forms of RFC 2131
  pub four_offer_requests : config.message_forms ≡ Rfc2131 →
      All HasFourRequestsOfAnOffer (history4 config lease words events)
  -- an event has at most two messages, and one more where it asks for a release
  pub two_messages : (number : ℕ) → count_of (is_send_at number)
      (outputs (protocol config) (history4 config lease words events))
      ≤ allowed number (numbered 1 events)
  -- each attempt's message names the offer or the lease of its state, which was read from an
  -- earlier packet, or is the lease that was held before
  pub names_its_basis :
      All (NamesItsBasis
      (HasBasis config.message_forms lease (numbered 1 events) (next_of words))
      (IsMessageOf config (next_of words))) (history4 config lease words events)
  -- point by point: what answers a stay, that no answer is missed, whose each message is, and how
  -- the stays follow one another
  pub by_point : Rises 0 0 (numbered 1 events) →
      HoldsByPoint (protocol config) (numbered 1 events) (history4 config lease words events)
  -- Each event has at most seven polls. After them a client without a kept error is not in BOUND at
  -- or past T1, in RENEWING at or past T2, or in REBINDING at or past the end of its lease.
  pub settles : SettlesAtEach (protocol config) (first_view (life_of config lease words events))
      (numbered 1 events)

-- what is promised of the client of a script
abbrev pub KeepsPromisesOfV4 : Script4 → Type 0
KeepsPromisesOfV4 script =
    KeepsPromises (config_of script) (option_map lease_with script.lease) script.words script.events
