-- How many words an event draws at most, where it looks at no more.
use Rattle.std.specs.Prelude.{◌≡◌, ◌≤◌, ◌+◌, ℕ, List, ◌++◌, length}
use Rattle.dhcp_clock.specs.declared.link.Handed.{Handed}
use Rattle.dhcp_clock.specs.declared.link.Packet.{Packet}
use Rattle.dhcp_history.specs.EventLoop.{event_at}
use Rattle.dhcp_history.specs.Machine.{EventEffect, View}
use Rattle.dhcp_history.specs.Protocol.{Protocol}
use Rattle.dhcp_history.specs.declared.script.Input.{Input}
use Rattle.dhcp_history.specs.declared.script.Input.TheVariants.{Arrival, CleanUp, Nothing, Release}
use Rattle.dhcp_history.specs.declared.script.NumberedEvent.{NumberedEvent}
use Rattle.dhcp_draws.specs.Draws.{Limits}

-- how many words a state draws at most at an event, besides those for a packet: for its pause and
-- for an attempt
abbrev pub state_words : Limits → ℕ
state_words limits = limits.pause + limits.attempt

-- How many words an event draws at most. The packet that comes with it may end a state, after which
-- the next one pauses and sends; a state that ends otherwise draws none.
abbrev pub event_words : {Packet : Type 0} → Limits → Input Packet → ℕ
event_words limits Nothing = state_words limits
event_words limits (Arrival packet) = state_words limits + limits.reading + state_words limits
event_words limits Release = state_words limits
event_words limits CleanUp = state_words limits

-- a client with further words behind those that are left
abbrev pub with_more : {State Exchange : Type 0} → List ℕ → View State Exchange →
    View State Exchange
with_more more view = record view { words = view.words ++ more }

-- what an event does, with further words behind those that are left after it
abbrev pub effect_with_more : {PublicState Message State Exchange : Type 0} → List ℕ →
    EventEffect PublicState Message State Exchange → EventEffect PublicState Message State Exchange
effect_with_more more effect = record effect { view = with_more more effect.view }

module _ {PublicState State Exchange Answer Lease : Type 0}
    (p : Protocol PublicState Packet Handed State Exchange Answer Lease) where
  -- an event takes at most this many words of a client, and looks at no more: where so many are
  -- left, it does the same with words behind them
  pub record TakesAtMost (most : ℕ) (event : NumberedEvent Packet) (view : View State Exchange)
      : Type 0 where
    pub leaves : length view.words ≤ length (event_at p event view).view.words + most
    pub alike : (more : List ℕ) → most ≤ length view.words →
        event_at p event (with_more more view) ≡ effect_with_more more (event_at p event view)

  -- each event takes at most as many as its input allows
  abbrev pub EventsTakeWithin : Limits → Type 0
  EventsTakeWithin limits = (event : NumberedEvent Packet) (view : View State Exchange) →
      TakesAtMost (event_words limits event.input) event view

  -- each event takes at most this many
  abbrev pub EventsTakeAtMost : ℕ → Type 0
  EventsTakeAtMost most = (event : NumberedEvent Packet) (view : View State Exchange) →
      TakesAtMost most event view
