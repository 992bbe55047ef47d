-- What the lives of all clients share: the events that come to a client, and what
-- is reported of it.
use Rattle.std.specs.Prelude.{◌≡◌, ℕ, suc, ◌≤◌, ◌<◌, ◌^◌, Bool, true, false, List, [], ◌∷◌, length, map, All, Option, Some, None, IfSome, Result, Ok, Err}
use Rattle.dhcp_wire.specs.Error.{ErrorParts, no_memory}
use Rattle.dhcp_wire.specs.declared.error.ErrorKind.TheVariants.{Timeout, IoError, InvalidArgument}
use Rattle.dhcp_clock.specs.declared.link.Handed.{Handed}
use Rattle.dhcp_clock.specs.declared.link.Packet.{Packet}
use Rattle.dhcp_clock.specs.declared.link.PacketKind.TheVariants as carriers
use Rattle.dhcp_history.specs.Calls.{ClientParts}
use Rattle.dhcp_history.specs.Client.{view_of}
use Rattle.dhcp_history.specs.EventLoop.{HasReported, events_at, last_moment}
use Rattle.dhcp_history.specs.History.{history, outputs}
use Rattle.dhcp_history.specs.Machine.{View, first_view}
use Rattle.dhcp_history.specs.Protocol.{Protocol}
use Rattle.dhcp_history.specs.Script.{Script}
use Rattle.dhcp_history.specs.declared.client.Client.{Client}
use Rattle.dhcp_history.specs.declared.script.NumberedEvent.{NumberedEvent}
use Rattle.dhcp_history.specs.declared.script.Failure.TheVariants as failures
use Rattle.dhcp_history.specs.declared.script.Input.{Input}
use Rattle.dhcp_history.specs.declared.script.Input.TheVariants as inputs
use Rattle.dhcp_history.specs.declared.script.NumberedReport.{NumberedReport}
use Rattle.dhcp_history.specs.declared.script.Report.{Report}
use Rattle.dhcp_history.specs.declared.script.Report.TheVariants as reports
use Rattle.dhcp_output.specs.Output.{PlainOutput, PlainReport, handed, refused, failed}
use Rattle.dhcp_script.specs.declared.event.Event.{Event}
use Rattle.dhcp_script.specs.declared.event.EventWhat.{EventWhat}
use Rattle.dhcp_script.specs.declared.event.EventWhat.TheVariants.{Nothing, Frame, Payload, Release, CleanUp}

-- the error of a replay: out of memory if what it was given is valid, InvalidArgument if not
abbrev pub IsRefusal : Bool → ErrorParts → Type 0
IsRefusal true error = error ≡ no_memory
IsRefusal false error = error.kind ≡ InvalidArgument

-- 1. Events.

-- what an event brings to the client
abbrev pub input_of : EventWhat → Input Packet
input_of Nothing = inputs.Nothing
input_of (Frame bytes) = inputs.Arrival (record { kind = carriers.Frame; bytes = bytes })
input_of (Payload bytes) = inputs.Arrival (record { kind = carriers.Payload; bytes = bytes })
input_of Release = inputs.Release
input_of CleanUp = inputs.CleanUp

-- the packet that waits at an event, if one does
abbrev pub arrival_in : Input Packet → Option Packet
arrival_in (inputs.Arrival packet) = Some packet
arrival_in inputs.Nothing = None
arrival_in inputs.Release = None
arrival_in inputs.CleanUp = None

-- the packet that an event brings to the client, if it brings one
abbrev pub arrival_of : EventWhat → Option Packet
arrival_of what = arrival_in (input_of what)

-- an event by its number
abbrev pub numbered_event : ℕ → Event → NumberedEvent Packet
numbered_event number event = record {
  number = number;
  moment = event.moment;
  refuse = event.refuse;
  input = input_of event.what;
}

-- events by their numbers, from this one on
abbrev pub numbered : ℕ → List Event → List (NumberedEvent Packet)
numbered number [] = []
numbered number (event ∷ events) = numbered_event number event ∷ numbered (suc number) events

-- 2. What is reported.

-- what is reported, by what is reported of a client that comes to a state
abbrev pub report_of : {State : Type 0} → (State → PlainReport) → Report State Handed → PlainReport
report_of changed (reports.Handed message) = handed message
report_of changed (reports.Refused message) = refused message
report_of changed (reports.Changed state) = changed state
report_of changed (reports.Failed failures.TimedOut) = failed Timeout
report_of changed (reports.Failed failures.SendRefused) = failed IoError

abbrev pub output_of : {State : Type 0} → (State → PlainReport) → NumberedReport State Handed →
    PlainOutput
output_of changed output =
    record { event = output.event; report = report_of changed output.report }

-- 3. The end.

-- the moment of the last of these events, or this one where there is none
abbrev pub last_moment_of : ℕ → List Event → ℕ
last_moment_of moment events = last_moment moment (numbered 1 events)

-- a client and the words that are left are as this view has them
pub record EndsAs {State Exchange : Type 0} (final : View State Exchange)
    (client : Client State Exchange) (left : Option (List ℕ)) : Type 0 where
  pub stands : view_of client final.words ≡ final
  pub words : left ≡ Some final.words

-- 4. A play.

-- events can be played: they are at most 20,000, and their moments are below 2^60
pub record CanPlay (events : List Event) : Type 0 where
  pub few : length events ≤ 20000
  pub moments : All (λ event. event.moment < 2 ^ 60) (numbered 1 events)

module _ {Config PublicState State Exchange Answer Lease : Type 0}
    (protocol : Config → Protocol PublicState Packet Handed State Exchange Answer Lease)
    (changed : PublicState → PlainReport) where
  -- A client of this protocol plays events: these outputs are what it reports of them, one by one,
  -- and what the history of each life reports that it begins and that has these events.
  pub record IsPlayed (events : List Event) (outs : List PlainOutput)
      (old new : ClientParts Config State Exchange) (drawn left : Option (List ℕ)) : Type 0 where
    pub items : List (NumberedReport PublicState Handed)
    pub outputs_are : outs ≡ map (output_of changed) items
    pub reported : IfSome drawn (λ words.
        HasReported (events_at (protocol old.config) (view_of old.client words)
        (numbered 1 events)) [] items (view_of new.client) left)
    pub history_is : IfSome drawn (λ words. (life : Script Packet State Exchange) →
        view_of old.client words ≡ first_view life → life.events ≡ numbered 1 events →
        items ≡ outputs (protocol old.config) (history (protocol old.config) life))
    pub config_kept : new.config ≡ old.config
    pub moment : new.client.last_moment ≡ last_moment_of old.client.last_moment events
