-- A client that is told one event at a time.
use Rattle.std.specs.Prelude.{◌≡◌, ℕ, suc, Bool, ◌&&◌, nat_le, nat_lt, List, ◌++◌, length, map, Option}
use Rattle.dhcp_clock.specs.declared.link.Handed.{Handed}
use Rattle.dhcp_clock.specs.declared.link.Packet.{Packet}
use Rattle.dhcp_history.specs.Calls.{ClientParts}
use Rattle.dhcp_history.specs.Client.{view_of}
use Rattle.dhcp_history.specs.EventLoop.{event_at}
use Rattle.dhcp_history.specs.Listening.{is_listening}
use Rattle.dhcp_history.specs.Machine.{EventEffect}
use Rattle.dhcp_history.specs.Protocol.{Protocol}
use Rattle.dhcp_history.specs.Schedule.{next_poll}
use Rattle.dhcp_output.specs.Output.{PlainOutput, PlainReport}
use Rattle.dhcp_replay.specs.Life.{numbered_event, output_of}
use Rattle.dhcp_script.specs.Event.{is_within_limits}
use Rattle.dhcp_script.specs.declared.event.Event.{Event}

-- its configuration and its client, the random words that are left, the number of the last event,
-- and its moment, or that of the start
pub record LiveParts (Config State Exchange : Type 0) : Type 0 where
  pub parts : ClientParts Config State Exchange
  pub words : List ℕ
  pub number : ℕ
  pub moment : ℕ

-- what contracts see of such a client: the client itself, the words that are left, the number of
-- the last event, and its moment, or that of the start
pub record Held (Client : Type 0) : Type 0 where
  pub client : Client
  pub words : List ℕ
  pub number : ℕ
  pub moment : ℕ

-- the same, with the parts of the client
abbrev pub held : {Client Config State Exchange : Type 0} →
    (Client → ClientParts Config State Exchange) → Held Client → LiveParts Config State Exchange
held parts here = record {
  parts = parts here.client;
  words = here.words;
  number = here.number;
  moment = here.moment;
}

-- how many events there are at most
abbrev pub most_live_events : ℕ
most_live_events = 4294967295

-- whether an event can be next: it is not before the last one, it is within the limits of a script,
-- and there is a number left for it
abbrev pub can_take : {Config State Exchange : Type 0} → LiveParts Config State Exchange → Event →
    Bool
can_take here event =
    nat_le here.moment event.moment && is_within_limits event
    && nat_lt here.number most_live_events

-- with further words, behind those that are left
abbrev pub with_words : {Config State Exchange : Type 0} → List ℕ →
    LiveParts Config State Exchange → LiveParts Config State Exchange
with_words words here = record here { words = here.words ++ words }

module _ {Config PublicState State Exchange Answer Lease : Type 0}
    (protocol : Config → Protocol PublicState Packet Handed State Exchange Answer Lease)
    (changed : PublicState → PlainReport) where
  -- what the next event does: the call of the event, and then its polls
  abbrev pub effect_of : LiveParts Config State Exchange → Event →
      EventEffect PublicState Handed State Exchange
  effect_of here event =
      event_at (protocol here.parts.config) (numbered_event (suc here.number) event)
      (view_of here.parts.client here.words)

  -- the next event was played: these are its outputs, and the client stands so after it
  pub record PlaysNext (event : Event) (outputs : List PlainOutput)
      (before after : LiveParts Config State Exchange) : Type 0 where
    pub outputs_are : outputs ≡ map (output_of changed) (effect_of before event).outputs
    pub client : view_of after.parts.client after.words ≡ (effect_of before event).view
    pub config : after.parts.config ≡ before.parts.config
    pub last_moment : after.parts.client.last_moment ≡ event.moment
    pub number : after.number ≡ suc before.number
    pub moment : after.moment ≡ event.moment

  -- the moment of the next event that is needed without a packet
  abbrev pub next_of : LiveParts Config State Exchange → Option ℕ
  next_of here = next_poll (protocol here.parts.config) here.parts.client

  -- whether a packet that comes is read
  abbrev pub is_listening_in : LiveParts Config State Exchange → Bool
  is_listening_in here =
      is_listening (protocol here.parts.config) here.moment (view_of here.parts.client here.words)

  -- what an answer says of a client that stands so
  pub record Tells (next : Option ℕ) (listening : Bool) (left : ℕ)
      (here : LiveParts Config State Exchange) : Type 0 where
    pub next_is : next ≡ next_of here
    pub listening_is : listening ≡ is_listening_in here
    pub left_is : left ≡ length here.words
