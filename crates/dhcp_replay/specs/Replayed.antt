-- What is reported of the client of a script.
use Rattle.std.specs.Prelude.{List, option_map}
use Rattle.dhcp_script.specs.Lease4 as lease4
use Rattle.dhcp_script.specs.Lease6 as lease6
use Rattle.dhcp_output.specs.Output.{PlainOutput}
use Rattle.dhcp_script.specs.Script4 as v4
use Rattle.dhcp_script.specs.Script6 as v6
use Rattle.dhcp_script.specs.declared.event.Event.{Event}
use Rattle.dhcp_output.specs.declared.output.Output.{Output}
use Rattle.dhcp_script.specs.declared.script.Script.{Script}
use Rattle.dhcp_script.specs.declared.script.Script.TheVariants.{V4, V6}
use Rattle.dhcp_script.specs.declared.script4.Script4.{Script4}
use Rattle.dhcp_script.specs.declared.script6.Script6.{Script6}
use Rattle.dhcp_replay.specs.declared.replayed.Replayed.{Replayed}
use Rattle.dhcp_replay.specs.declared.replayed.Replayed.TheVariants as replayed
use Rattle.dhcp_replay.specs.declared.replayed4.Replayed4.{Replayed4}
use Rattle.dhcp_replay.specs.declared.replayed6.Replayed6.{Replayed6}
use Rattle.dhcp_replay.specs.Replayed4 as lives4
use Rattle.dhcp_replay.specs.Replayed4.{outputs4}
use Rattle.dhcp_replay.specs.Replayed6 as lives6
use Rattle.dhcp_replay.specs.Replayed6.{outputs6}

-- the outputs of a replay
abbrev pub outputs_in : Replayed → List Output
outputs_in (replayed.V4 done) = done.value.outputs
outputs_in (replayed.V6 done) = done.value.outputs

-- what is reported of the client of a script, with its configuration, lease, words and events
abbrev pub outputs_of_v4 : Script4 → List PlainOutput
outputs_of_v4 script =
    outputs4 (v4.config_of script) (option_map lease4.lease_with script.lease) script.words
    script.events

abbrev pub outputs_of_v6 : Script6 → List PlainOutput
outputs_of_v6 script =
    outputs6 (v6.config_of script) (option_map lease6.lease_with script.lease) script.start
    script.words script.events

abbrev pub outputs_of : Script → List PlainOutput
outputs_of (V4 script) = outputs_of_v4 script
outputs_of (V6 script) = outputs_of_v6 script

-- the client at the end is that of the script
abbrev pub HasClientOfV4 : Script4 → Replayed4 → Type 0
HasClientOfV4 script done =
    lives4.IsClientAfter (v4.config_of script) (option_map lease4.lease_with script.lease)
    script.words script.events done.client.value

abbrev pub HasClientOfV6 : Script6 → Replayed6 → Type 0
HasClientOfV6 script done =
    lives6.IsClientAfter (v6.config_of script) (option_map lease6.lease_with script.lease)
    script.start script.words script.events done.client.value

abbrev pub HasClientOf : Script → Replayed → Type 0
HasClientOf (V4 script) (replayed.V4 done) = HasClientOfV4 script done.value
HasClientOf (V6 script) (replayed.V6 done) = HasClientOfV6 script done.value
HasClientOf (V4 script) (replayed.V6 done) = ⊥
HasClientOf (V6 script) (replayed.V4 done) = ⊥

-- the events of a script
abbrev pub events_of : Script → List Event
events_of (V4 script) = script.events
events_of (V6 script) = script.events
