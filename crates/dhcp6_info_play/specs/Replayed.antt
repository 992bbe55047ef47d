-- The life of a client for configuration alone over the events of a script: its history, and what
-- is reported of it.
use Rattle.std.specs.Prelude.{ℕ, List, map}
use Rattle.dhcp_clock.specs.declared.link.Handed.{Handed}
use Rattle.dhcp_clock.specs.declared.link.Packet.{Packet}
use Rattle.dhcp_history.specs.History.{Stay, history, outputs}
use Rattle.dhcp_history.specs.Script.{Script}
use Rattle.dhcp6_msg.specs.Config.{Config, client_duid}
use Rattle.dhcp_script.specs.Script6.{config_of}
use Rattle.dhcp_script.specs.declared.event.Event.{Event}
use Rattle.dhcp_script.specs.declared.script6.Script6.{Script6}
use Rattle.dhcp_output.specs.Output.{PlainOutput, changed_info}
use Rattle.dhcp_replay.specs.Life.{numbered, output_of}
use Rattle.dhcp6_info.specs.Client.{first_exchange}
use Rattle.dhcp6_info.specs.Rules.{protocol}
use Rattle.dhcp6_info.specs.declared.client_state.ClientState.{ClientState}
use Rattle.dhcp6_info.specs.declared.client_state.ClientState.TheVariants.{Inform}
use Rattle.dhcp6_info.specs.declared.client_state.Exchange.{Exchange}

-- the configuration with which it lives: an identifier that is absent is made
abbrev pub config_in : Config → List ℕ → Config
config_in config words = record config { duid = (client_duid config words).value }

-- the life of a client with this configuration: its identifier is drawn first, if one is, and its
-- events are numbered from 1
abbrev pub life_of : Config → List ℕ → List Event → Script Packet ClientState Exchange
life_of config words events = record {
  timeout_sec = config.timeout_sec;
  state = Inform;
  exchange = first_exchange;
  words = (client_duid config words).left;
  events = numbered 1 events;
}

-- the history of that life
abbrev pub info_history : Config → List ℕ → List Event → List (Stay ClientState Handed)
info_history config words events =
    history (protocol (config_in config words)) (life_of config words events)

-- what is reported of it
unfoldable pub outputs_with : Config → List ℕ → List Event → List PlainOutput
outputs_with config words events =
    map (output_of changed_info)
    (outputs (protocol (config_in config words)) (info_history config words events))

-- what is reported of the client of a script
abbrev pub outputs_of : Script6 → List PlainOutput
outputs_of script = outputs_with (config_of script) script.words script.events
