-- What is promised of the polls and of the messages of a client of either family.
use Rattle.std.specs.Prelude.{◌≡◌, ℕ, ◌≤◌, List, [], ◌∷◌, All}
use Rattle.std.specs.List.{Contains}
use Rattle.dhcp_clock.specs.declared.link.Handed.{Handed}
use Rattle.dhcp_clock.specs.declared.link.Packet.{Packet}
use Rattle.dhcp_history.specs.Bounds.{attempts_of, count_of, is_change, is_send, poll_count, IsWithinState}
use Rattle.dhcp_history.specs.EventLoop.{call_at, event_at}
use Rattle.dhcp_history.specs.History.{Stay}
use Rattle.dhcp_history.specs.Machine.{View, polls}
use Rattle.dhcp_history.specs.Protocol.{Protocol}
use Rattle.dhcp_history.specs.Script.{after_call}
use Rattle.dhcp_history.specs.declared.script.NumberedEvent.{NumberedEvent}
use Rattle.dhcp_history.specs.declared.script.Input.TheVariants.{Arrival}

module _ {PublicState State Exchange Answer Lease : Type 0}
    (p : Protocol PublicState Packet Handed State Exchange Answer Lease) where
  -- At an event, after its call, the client is polled at most seven times, changes its state at
  -- most six times, and hands at most two messages to the link. After the polls a client without a
  -- kept error is in no state whose end has come.
  pub record SettlesAt (event : NumberedEvent Packet) (client : View State Exchange) : Type 0 where
    pub seven_polls : (fuel : ℕ) → poll_count p fuel event client ≤ 7
    pub six_changes : (fuel : ℕ) → count_of is_change (polls p fuel event client).outputs ≤ 6
    pub two_messages : (fuel : ℕ) → count_of is_send (polls p fuel event client).outputs ≤ 2
    pub not_overdue : IsWithinState p event.moment (polls p 7 event client).view

  -- and so at each of these events
  abbrev pub SettlesAtEach : View State Exchange → List (NumberedEvent Packet) → Type 0
  SettlesAtEach client [] = Unit {0}
  SettlesAtEach client (event ∷ events) =
      SettlesAt (after_call event) (call_at p event client).view
      × SettlesAtEach (event_at p event client).view events

-- the packet comes in at one of these events, at the one with this number or an earlier one
pub record ComesInBy (events : List (NumberedEvent Packet)) (last : ℕ)
    (packet : Packet) : Type 0 where
  pub event : NumberedEvent Packet
  pub is_among : Contains events event
  pub brings : event.input ≡ Arrival packet
  pub earlier : event.number ≤ last

-- Where a stay is entered at an event, the basis of its state has come by then, and the messages of
-- its attempts, which come no earlier, are those of its state.
pub record NamesItsBasis {State : Type 0} (HasBasis : ℕ → State → Type 0)
    (IsMessageOf : State → Handed → Type 0) (stay : Stay State Handed) : Type 0 where
  pub basis : HasBasis stay.entry stay.setting.state
  pub no_earlier : All (λ attempt. stay.entry ≤ attempt.event) (attempts_of stay.acts)
  pub messages : All (λ attempt. IsMessageOf stay.setting.state attempt.message)
      (attempts_of stay.acts)
