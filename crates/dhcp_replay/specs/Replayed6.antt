-- The life of an IPv6 client over the events of a script: its history, and what is reported of it.
pub use Rattle.dhcp_replay.specs.Life.{IsRefusal}
use Rattle.std.specs.Prelude.{◌≡◌, ℕ, Bool, true, ◌&&◌, nat_le, List, length, map, Option}
use Rattle.std.specs.Option.{option_map_or}
use Rattle.dhcp_clock.specs.declared.link.Handed.{Handed}
use Rattle.dhcp_clock.specs.declared.link.Packet.{Packet}
use Rattle.dhcp_history.specs.Client.{view_of}
use Rattle.dhcp_history.specs.EventLoop.{events_at}
use Rattle.dhcp_history.specs.History.{Stay, history, outputs}
use Rattle.dhcp_history.specs.Machine.{View, first_view}
use Rattle.dhcp_history.specs.Script.{Script}
use Rattle.dhcp6_opt.specs.Duid.{written_duid}
use Rattle.dhcp6_msg.specs.Config.{Config}
use Rattle.dhcp6_msg.specs.Lease.{Lease}
use Rattle.dhcp6_client.specs.Client.{ClientParts, can_begin, first_draws, first_exchange, first_state}
use Rattle.dhcp6_client.specs.Rules.{protocol}
use Rattle.dhcp6_client.specs.declared.client_state.ClientState.{ClientState}
use Rattle.dhcp6_client.specs.declared.client_state.Exchange.{Exchange}
use Rattle.dhcp_script.specs.Duid.{is_script_duid, is_duid_or_none}
use Rattle.dhcp_script.specs.Event.{are_valid}
use Rattle.dhcp_output.specs.Output.{PlainOutput, changed_v6}
use Rattle.dhcp_script.specs.Script6.{most_codes}
use Rattle.dhcp_script.specs.declared.event.Event.{Event}
use Rattle.dhcp_replay.specs.Life.{last_moment_of, numbered, output_of}

-- Whether a configuration and a lease are within the limits of a script: the client's identifier is
-- absent or has 2 to 130 bytes, at most 1,000 options are asked for, and the identifier of the
-- lease's server has 2 to 130 bytes.
abbrev pub fit_a_script : Config → Option Lease → Bool
fit_a_script config lease =
    is_duid_or_none (written_duid config.duid)
    && nat_le (length config.request_opts) most_codes
    && option_map_or (λ held. is_script_duid (written_duid held.srv_duid)) lease true

-- whether a client can live so: all that it is given is within the limits of a script, and it can
-- begin
abbrev pub can_replay : Config → Option Lease → ℕ → List Event → Bool
can_replay config lease start events =
    are_valid start events && fit_a_script config lease && can_begin config lease

-- the configuration with which it lives: an identifier that is absent is made
abbrev pub config_in : Config → List ℕ → Config
config_in config words = (first_draws config words).value.config

-- The life of a client with this configuration, and with a lease that it held before or none, whose
-- times count from the start: its identifier and its transaction id are drawn first, and its events
-- are numbered from 1.
abbrev pub life_of : Config → Option Lease → ℕ → List ℕ → List Event →
    Script Packet ClientState Exchange
life_of config lease start words events = record {
  timeout_sec = config.timeout_sec;
  state = first_state config.mode lease start;
  exchange = first_exchange (first_draws config words).value.xid;
  words = (first_draws config words).left;
  events = numbered 1 events;
}

-- the history of that life
abbrev pub history6 : Config → Option Lease → ℕ → List ℕ → List Event →
    List (Stay ClientState Handed)
history6 config lease start words events =
    history (protocol (config_in config words)) (life_of config lease start words events)

-- how the client stands at its end
abbrev pub client_after : Config → Option Lease → ℕ → List ℕ → List Event →
    View ClientState Exchange
client_after config lease start words events =
    (events_at (protocol (config_in config words))
    (first_view (life_of config lease start words events)) (numbered 1 events)).view

-- the client at the end of that life: it has its configuration, stands as its calls and polls leave
-- it, and keeps the moment of the last event
pub record IsClientAfter (config : Config) (lease : Option Lease) (start : ℕ) (words : List ℕ)
    (events : List Event) (client : ClientParts) : Type 0 where
  pub config_kept : client.config ≡ config_in config words
  pub view : view_of client.client (client_after config lease start words events).words
      ≡ client_after config lease start words events
  pub moment : client.client.last_moment ≡ last_moment_of start events

-- what is reported of that life
unfoldable pub outputs6 : Config → Option Lease → ℕ → List ℕ → List Event → List PlainOutput
outputs6 config lease start words events =
    map (output_of changed_v6) (outputs (protocol (config_in config words))
    (history6 config lease start words events))
