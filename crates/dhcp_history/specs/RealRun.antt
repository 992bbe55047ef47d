-- A run: the polls of a client over any link, at moments, and the script that such a run is.
use Rattle.std.specs.Prelude.{ℕ, ◌≡◌, Bool, List, [], ◌∷◌, ◌++◌, Option, Some, None}
use Rattle.dhcp_clock.specs.declared.link.Packet.{Packet}
use Rattle.dhcp_clock.specs.declared.link.Handed.{Handed}
use Rattle.dhcp_history.specs.Protocol.{Protocol}
use Rattle.dhcp_history.specs.Script.{Input, Nothing, NumberedEvent}
use Rattle.dhcp_history.specs.Machine.{View, PollEffect, EventEffect, poll}
use Rattle.dhcp_history.specs.Run.{input_of}
use Rattle.dhcp_history.specs.EventLoop.{once_outputs}

-- a poll as its link made it: its moment, whether the link refuses the message that it is handed,
-- and the packet that it gives, if it is asked for one and has one
pub record Polled : Type 0 where
  pub moment : ℕ
  pub refuse : Bool
  pub packet : Option Packet

-- the event of this poll, with this input; its number is its moment
abbrev pub event_with : Polled → Input Packet → NumberedEvent Packet
event_with q input =
    record { number = q.moment; moment = q.moment; refuse = q.refuse; input = input }

-- these events, the first of them with this input
abbrev pub with_input : Input Packet → List (NumberedEvent Packet) → List (NumberedEvent Packet)
with_input input [] = []
with_input input (event ∷ events) = record event { input = input } ∷ events

-- the events from this poll on, where these are the ones after it: one that answers a change is of
-- the same event as the poll that follows
abbrev pub joined : {State : Type 0} → Option State → Polled → List (NumberedEvent Packet) →
    List (NumberedEvent Packet)
joined None q later = event_with q (input_of q.packet) ∷ later
joined (Some next) q later = with_input (input_of q.packet) later

-- a poll that hands a message and is then given a packet is two events
abbrev pub sent_first : Option Handed → Option Packet → Polled → List (NumberedEvent Packet) →
    List (NumberedEvent Packet)
sent_first None packet q events = events
sent_first (Some message) None q events = events
sent_first (Some message) (Some packet) q events = event_with q Nothing ∷ events

-- a poll at this moment comes next
abbrev pub NextAt : ℕ → List Polled → Type 0
NextAt moment [] = ⊥
NextAt moment (q ∷ qs) = q.moment ≡ moment

-- after a change the client is polled again at the same moment
abbrev pub FollowedUp : {State : Type 0} → Option State → ℕ → List Polled → Type 0
FollowedUp None moment qs = Unit {0}
FollowedUp (Some next) moment qs = NextAt moment qs

module _ {PublicState State Exchange Answer Lease : Type 0}
    (p : Protocol PublicState Packet Handed State Exchange Answer Lease) where
  -- what a poll does
  abbrev pub once_of : Polled → View State Exchange → PollEffect Packet Handed State Exchange
  once_of q view = poll p q.moment q.refuse (input_of q.packet) view

  -- what a run reports, each with the moment of its poll as its number, and the client after it
  abbrev pub run_from : View State Exchange → List Polled →
      EventEffect PublicState Handed State Exchange
  run_from view [] = record { outputs = []; view = view }
  run_from view (q ∷ qs) =
      let once = once_of q view in
      let more = run_from once.view qs in
      record {
        outputs = once_outputs p q.moment q.refuse once.change once ++ more.outputs;
        view = more.view;
      }

  -- A run that polls again at once after a change. No packet comes in that the client did not take.
  abbrev pub Steady : View State Exchange → List Polled → Type 0
  Steady view [] = Unit {0}
  Steady view (q ∷ qs) =
      ((once_of q view).left ≡ Nothing) ×
      (FollowedUp (once_of q view).change q.moment qs × Steady (once_of q view).view qs)

  -- the events of the script that a run is
  abbrev pub events_of : View State Exchange → List Polled → List (NumberedEvent Packet)
  events_of view [] = []
  events_of view (q ∷ qs) =
      let once = once_of q view in
      sent_first once.handed q.packet q (joined once.change q (events_of once.view qs))
