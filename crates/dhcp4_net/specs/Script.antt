-- The script of a network: its limits, and the network after it.
use Rattle.std.specs.Prelude.{◌≡◌, ℕ, ◌^◌, ◌≤◌, ◌==◌, Bool, true, not, ◌&&◌, nat_lt, nat_le, List, [], ◌∷◌, length, Option, None, option_map, if◌then◌else◌}
use Rattle.std.specs.List.{list_all, list_any}
use Rattle.dhcp4_lease.specs.Config.{Config}
use Rattle.dhcp4_server.specs.Answer.{answer_to}
use Rattle.dhcp4_server.specs.Config.{is_lawful}
use Rattle.dhcp4_server.specs.declared.config.ServerConfig.{ServerConfig}
use Rattle.dhcp4_net.specs.Clients.{client_at, config_of, net_of, xid_of}
use Rattle.dhcp4_net.specs.Net.{Net, net_after}
use Rattle.dhcp4_net.specs.Running.{StandsForNet}
use Rattle.dhcp4_net.specs.declared.output.NetOutput.{NetOutput}
use Rattle.dhcp4_net.specs.declared.running.RunningNet.{RunningNet}
use Rattle.dhcp4_net.specs.declared.script.NetClient.{NetClient}
use Rattle.dhcp4_net.specs.declared.script.NetEvent.{NetEvent}
use Rattle.dhcp4_net.specs.declared.script.NetScript.{NetScript}

-- whether a client with this transaction id is among these
abbrev pub has_id : ℕ → List NetClient → Bool
has_id xid clients = list_any (λ client. xid_of client == xid) clients

-- whether the transaction ids of clients differ
abbrev pub are_distinct : List NetClient → Bool
are_distinct [] = true
are_distinct (client ∷ clients) = not (has_id (xid_of client) clients) && are_distinct clients

-- whether an event is before 2^60 milliseconds
abbrev pub is_early : NetEvent → Bool
is_early event = nat_lt event.moment (2 ^ 60)

-- Whether a script is within its limits: a server can have the configuration; there are 1 to 64
-- clients, with different transaction ids; at most 20,000 events, all before 2^60 milliseconds.
unfoldable pub is_within_limits : NetScript → Bool
is_within_limits script =
    is_lawful script.server && nat_lt 0 (length script.clients)
    && nat_le (length script.clients) 64 && are_distinct script.clients
    && nat_le (length script.events) 20000 && list_all is_early script.events

-- what the limits say
pub record IsWithin (script : NetScript) : Type 0 where
  pub within : is_within_limits script ≡ true
  pub lawful : is_lawful script.server ≡ true
  pub distinct : are_distinct script.clients ≡ true
  pub few : length script.events ≤ 20000
  pub early : list_all is_early script.events ≡ true

-- the network after the events of a script, if it is valid: it is within its limits, and each event
-- may come
unfoldable pub net_at_end : NetScript → Option Net
net_at_end script =
    if is_within_limits script
    then net_of script.server script.clients script.start script.events
    else None

-- what it has reported then
abbrev pub outputs_at_end : NetScript → Option (List NetOutput)
outputs_at_end script = option_map (λ net. net.outputs) (net_at_end script)

-- the configuration of each client, by its number
abbrev pub configs_of : List NetClient → ℕ → Config
configs_of clients number = config_of (client_at clients number)

-- the network that is left to run ends as the whole does
pub record GoesOn (config : ServerConfig) (configs : ℕ → Config) (count : ℕ) (whole : Option Net)
    (number : ℕ) (left : List NetEvent) (running : RunningNet) : Type 0 where
  pub net : Net
  pub stands : StandsForNet config configs count running net
  pub ends : whole ≡ net_after (answer_to config) configs config.bound_ms count net number left
