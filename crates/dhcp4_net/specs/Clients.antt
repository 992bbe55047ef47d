-- The clients of a network, and the network at its start.
use Rattle.std.specs.Prelude.{◌≡◌, ℕ, ◌<◌, ◌^◌, List, [], ◌∷◌, length, drop, replicate, slice_index_or, Option, None}
use Rattle.dhcp_clock.specs.Words.{next_of}
use Rattle.dhcp_history.specs.declared.client.Phase.TheVariants.{Unpolled}
use Rattle.dhcp_clock.specs.declared.link.Handed.{Handed}
use Rattle.dhcp_clock.specs.declared.link.Packet.{Packet}
use Rattle.dhcp_history.specs.Client.{view_of}
use Rattle.dhcp_history.specs.EventLoop.{event_at}
use Rattle.dhcp_history.specs.Machine.{EventEffect, View}
use Rattle.dhcp_history.specs.declared.script.NumberedEvent.{NumberedEvent}
use Rattle.dhcp_history.specs.declared.script.NumberedReport.{NumberedReport}
use Rattle.dhcp4_client.specs.Rules.{protocol}
use Rattle.dhcp4_client.specs.declared.state.PlainState.{PlainState}
use Rattle.dhcp4_net.specs.declared.peer.Peer.{Peer}
use Rattle.dhcp4_msg.specs.declared.option_code.DhcpV4OptionCode.{DhcpV4OptionCode}
use Rattle.dhcp4_lease.specs.declared.message_forms.DhcpV4MessageForms.TheVariants.{Mozim}
use Rattle.dhcp4_lease.specs.Config as configs
use Rattle.dhcp4_lease.specs.Config.{Config, rising_codes}
use Rattle.dhcp4_client.specs.Client.{first_exchange}
use Rattle.dhcp4_client.specs.declared.client_state.ClientState.{ClientState}
use Rattle.dhcp4_client.specs.declared.client_state.ClientState.TheVariants as states
use Rattle.dhcp4_client.specs.declared.client_state.Exchange.{Exchange}
use Rattle.dhcp4_server.specs.Answer.{answer_to as serve}
use Rattle.dhcp4_server.specs.declared.config.ServerConfig.{ServerConfig}
use Rattle.dhcp4_net.specs.Net.{Net, net_after}
use Rattle.dhcp4_net.specs.declared.script.NetClient.{NetClient}
use Rattle.dhcp4_net.specs.declared.script.NetEvent.{NetEvent}

-- past the last client
abbrev pub no_client : NetClient
no_client = record { mac = replicate 6 0; message_forms = Mozim; words = [] }

abbrev pub client_at : List NetClient → ℕ → NetClient
client_at clients number = slice_index_or clients number no_client

-- the options that it asks for
abbrev pub codes : List DhcpV4OptionCode
codes = rising_codes (1 ∷ 3 ∷ 6 ∷ [])

-- a configuration with what it has of its own: interface 1, its MAC address, the forms of its
-- messages, and these options
abbrev pub with_fields : NetClient → Config → Config
with_fields client config = record config {
  iface_index = 1;
  src_mac = client.mac;
  message_forms = client.message_forms;
  request_opts = codes;
}

-- its configuration; the interface has no name
unfoldable pub config_of : NetClient → Config
config_of client = with_fields client (configs.config_of [])

-- its transaction id: the first word
abbrev pub xid_of : NetClient → ℕ
xid_of client = next_of client.words

-- the client at its start, without a lease
abbrev pub begun : NetClient → View ClientState Exchange
begun client = record {
  state = states.InitReboot;
  exchange = first_exchange (xid_of client);
  timeout_sec = 0;
  entered = 0;
  phase = Unpolled;
  deadline = None;
  words = drop 1 client.words;
}

-- the views of clients at their start, by their numbers
abbrev pub views_of : List NetClient → ℕ → View ClientState Exchange
views_of clients number = begun (client_at clients number)

-- the network at its start
abbrev pub net_at : ℕ → List NetClient → Net
net_at start clients = record {
  now = start;
  acks = [];
  sent = [];
  clients = views_of clients;
  outputs = [];
}

-- a peer whose client has this configuration and this view
pub record IsPeer (config : Config) (view : View ClientState Exchange) (peer : Peer) : Type 0 where
  pub config_is : peer.client.value.config ≡ config
  pub view_is : view_of peer.client.value.client peer.words ≡ view

-- the client of a peer reports this of an event, and is left so
pub record HasPlayed (once : EventEffect PlainState Handed ClientState Exchange) (config : Config)
    (reported : List (NumberedReport PlainState Handed)) (after : Peer) : Type 0 where
  pub reported_is : reported ≡ once.outputs
  pub after_is : IsPeer config once.view after

abbrev pub Plays : NumberedEvent Packet → List (NumberedReport PlainState Handed) → Peer → Peer →
    Type 0
Plays event reported before after =
    (config : Config) (view : View ClientState Exchange) → IsPeer config view before →
    HasPlayed (event_at (protocol config) event view) config reported after

-- the network after all events, if they may come
abbrev pub net_of : ServerConfig → List NetClient → ℕ → List NetEvent → Option Net
net_of server clients start events =
    net_after (serve server) (λ number. config_of (client_at clients number)) server.bound_ms
    (length clients) (net_at start clients) 1 events

-- what the types of a client keep
pub record IsTypedClient (client : NetClient) : Type 0 where
  pub mac : length client.mac ≡ 6
  pub xid : xid_of client < 2 ^ 32

-- the transaction ids of the clients differ
abbrev pub HaveDistinctIds : List NetClient → Type 0
HaveDistinctIds clients =
    (one other : ℕ) → one < length clients → other < length clients →
    xid_of (client_at clients one) ≡ xid_of (client_at clients other) → one ≡ other
