-- A network as it runs, and the network that it stands for.
use Rattle.std.specs.Prelude.{◌≡◌, ℕ, ◌<◌, ◌==◌, Bool, true, false, List, length, slice_get, Option, Some, None, Result, Ok, Err, if◌then◌else◌}
use Rattle.dhcp_wire.specs.Error.{ErrorParts}
use Rattle.dhcp_clock.specs.declared.link.Handed.{Handed}
use Rattle.dhcp_clock.specs.declared.link.Packet.{Packet}
use Rattle.dhcp_history.specs.EventLoop.{event_at}
use Rattle.dhcp_history.specs.Machine.{EventEffect, View}
use Rattle.dhcp_history.specs.declared.script.NumberedEvent.{NumberedEvent}
use Rattle.dhcp_history.specs.declared.script.NumberedReport.{NumberedReport}
use Rattle.dhcp4_lease.specs.Config.{Config}
use Rattle.dhcp4_client.specs.Rules.{protocol}
use Rattle.dhcp4_client.specs.declared.client_state.ClientState.{ClientState}
use Rattle.dhcp4_client.specs.declared.client_state.Exchange.{Exchange}
use Rattle.dhcp4_client.specs.declared.state.PlainState.{PlainState}
use Rattle.dhcp4_server.specs.Server.{StandsFor}
use Rattle.dhcp4_server.specs.declared.config.ServerConfig.{ServerConfig}
use Rattle.dhcp4_net.specs.Clients.{IsPeer}
use Rattle.dhcp4_net.specs.Net.{Net}
use Rattle.dhcp4_net.specs.declared.peer.Peer.{Peer}
use Rattle.dhcp4_net.specs.declared.running.RunningNet.{RunningNet}

-- the peer at a place has this configuration and this view
abbrev pub IsPeerAt : Config → View ClientState Exchange → Option Peer → Type 0
IsPeerAt config view None = ⊥
IsPeerAt config view (Some peer) = IsPeer config view peer

-- each peer has the configuration and the view of its number
abbrev pub ArePeers : (ℕ → Config) → (ℕ → View ClientState Exchange) → List Peer → Type 0
ArePeers configs views peers =
    (number : ℕ) → number < length peers →
    IsPeerAt (configs number) (views number) (slice_get peers number)

-- the views after that of one client has changed
abbrev pub with_view : (ℕ → View ClientState Exchange) → ℕ → View ClientState Exchange → ℕ →
    View ClientState Exchange
with_view views client view other = if other == client then view else views other

-- The client of a number reports this of an event, and the others are left as they are.
pub record HasPlayedAt (once : EventEffect PlainState Handed ClientState Exchange) (client : ℕ)
    (configs : ℕ → Config) (views : ℕ → View ClientState Exchange)
    (reported : List (NumberedReport PlainState Handed)) (before after : List Peer) : Type 0 where
  pub reported_is : reported ≡ once.outputs
  pub peers : ArePeers configs (with_view views client once.view) after
  pub count : length after ≡ length before

abbrev pub PlaysAt : ℕ → NumberedEvent Packet → List (NumberedReport PlainState Handed) →
    List Peer → List Peer → Type 0
PlaysAt client event reported before after =
    (configs : ℕ → Config) (views : ℕ → View ClientState Exchange) →
    ArePeers configs views before →
    HasPlayedAt (event_at (protocol (configs client)) event (views client)) client configs views
    reported before after

-- a network that runs with this server, these configurations and so many clients stands for a
-- network
module _ (config : ServerConfig) (configs : ℕ → Config) (count : ℕ) where
  pub record StandsForNet (running : RunningNet) (net : Net) : Type 0 where
    pub now : running.now ≡ net.now
    pub log : running.log ≡ record { sent = net.sent; outputs = net.outputs }
    pub config_is : running.server.config ≡ config
    pub bound_is : running.bound_ms ≡ config.bound_ms
    pub server : StandsFor running.server net.now net.acks
    pub count_is : length running.peers.items ≡ count
    pub peers : ArePeers configs net.clients running.peers.items

  -- an event came, and the network stands for the one then; or it may not come
  abbrev pub StepsTo : Result Bool ErrorParts → RunningNet → Option Net → Type 0
  StepsTo (Ok true) after (Some next) = StandsForNet after next
  StepsTo (Ok true) after None = ⊥
  StepsTo (Ok false) after (Some next) = ⊥
  StepsTo (Ok false) after None = Unit {0}
  StepsTo (Err e) after expected = Unit {0}
