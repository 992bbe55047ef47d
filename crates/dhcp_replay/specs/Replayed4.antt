-- The life of an IPv4 client over the events of a script: its history, and what is reported of it.
pub use Rattle.dhcp_replay.specs.Life.{IsRefusal}
use Rattle.std.specs.Prelude.{◌≡◌, ℕ, Bool, ◌&&◌, List, map, drop, Option}
use Rattle.dhcp_clock.specs.declared.link.Handed.{Handed}
use Rattle.dhcp_clock.specs.declared.link.Packet.{Packet}
use Rattle.dhcp_clock.specs.Words.{next_of}
use Rattle.dhcp_history.specs.Client.{view_of}
use Rattle.dhcp_history.specs.EventLoop.{events_at}
use Rattle.dhcp_history.specs.History.{Stay, history, outputs}
use Rattle.dhcp_history.specs.Machine.{View, first_view}
use Rattle.dhcp_history.specs.Script.{Script}
use Rattle.dhcp4_lease.specs.Config.{Config}
use Rattle.dhcp4_lease.specs.Lease.{Lease}
use Rattle.dhcp4_client.specs.Client.{ClientParts, can_begin, first_exchange, first_state}
use Rattle.dhcp4_client.specs.Rules.{protocol}
use Rattle.dhcp4_client.specs.declared.client_state.ClientState.{ClientState}
use Rattle.dhcp4_client.specs.declared.client_state.Exchange.{Exchange}
use Rattle.dhcp_script.specs.Event.{are_valid}
use Rattle.dhcp_output.specs.Output.{PlainOutput, changed_v4}
use Rattle.dhcp_script.specs.declared.event.Event.{Event}
use Rattle.dhcp_replay.specs.Life.{last_moment_of, numbered, output_of}

-- whether a client can live so: start and events are within their limits, and it can begin
abbrev pub can_replay : Config → Option Lease → ℕ → List Event → Bool
can_replay config lease start events = are_valid start events && can_begin config lease

-- The life of a client with this configuration, and with a lease that it held before or none: its
-- transaction id is the first word, and its events are numbered from 1.
abbrev pub life_of : Config → Option Lease → List ℕ → List Event →
    Script Packet ClientState Exchange
life_of config lease words events = record {
  timeout_sec = config.timeout_sec;
  state = first_state lease;
  exchange = first_exchange (next_of words);
  words = drop 1 words;
  events = numbered 1 events;
}

-- the history of that life
abbrev pub history4 : Config → Option Lease → List ℕ → List Event → List (Stay ClientState Handed)
history4 config lease words events = history (protocol config) (life_of config lease words events)

-- how the client stands at its end
abbrev pub client_after : Config → Option Lease → List ℕ → List Event → View ClientState Exchange
client_after config lease words events =
    (events_at (protocol config) (first_view (life_of config lease words events))
    (numbered 1 events)).view

-- the client at the end of that life: it has its configuration, stands as its calls and polls leave
-- it, and keeps the moment of the last event
pub record IsClientAfter (config : Config) (lease : Option Lease) (words : List ℕ)
    (events : List Event) (client : ClientParts) : Type 0 where
  pub config_kept : client.config ≡ config
  pub view : view_of client.client (client_after config lease words events).words
      ≡ client_after config lease words events
  pub moment : client.client.last_moment ≡ last_moment_of 0 events

-- what is reported of that life
unfoldable pub outputs4 : Config → Option Lease → List ℕ → List Event → List PlainOutput
outputs4 config lease words events =
    map (output_of changed_v4) (outputs (protocol config) (history4 config lease words events))
