-- The text of the script of a network: the line of the server, those of the clients, the start, the
-- events, and the last line.
use Rattle.std.specs.Prelude.{ℕ, ◌<◌, ◌^◌, List, [], ◌∷◌, ◌++◌, codes, All}
use Rattle.std.specs.Fmt.{decimal}
use Rattle.std.specs.List.{flat_map}
use Rattle.std.specs.Net.Addr.{IsIpv4Addr}
use Rattle.hex.specs.Hex.{encode_lower}
use Rattle.dhcp_stream.specs.HexText.{AreWords, IsMac, words_text}
use Rattle.dhcp_stream.specs.Line.{line, spaced}
use Rattle.dhcp_stream.specs.Number.{address_text}
use Rattle.dhcp_script.specs.Field.{flag_text}
use Rattle.dhcp4_lease.specs.declared.message_forms.DhcpV4MessageForms.{DhcpV4MessageForms}
use Rattle.dhcp4_lease.specs.declared.message_forms.DhcpV4MessageForms.TheVariants.{Mozim, Rfc2131}
use Rattle.dhcp4_server.specs.declared.config.ServerConfig.{ServerConfig}
use Rattle.dhcp4_net.specs.declared.script.NetAct.{NetAct}
use Rattle.dhcp4_net.specs.declared.script.NetAct.TheVariants.{Nothing, Deliver, Release, CleanUp}
use Rattle.dhcp4_net.specs.declared.script.NetClient.{NetClient}
use Rattle.dhcp4_net.specs.declared.script.NetEvent.{NetEvent}
use Rattle.dhcp4_net.specs.declared.script.NetScript.{NetScript}
use Rattle.dhcp4_net.specs.declared.script.NetWho.{NetWho}
use Rattle.dhcp4_net.specs.declared.script.NetWho.TheVariants.{Client, Server}

-- the first line
abbrev pub first_line : List ℕ
first_line = line (codes "net4 1")

-- the server: its address, MAC address and subnet mask, the first address that it grants and how
-- many it grants, the lease time in seconds, and the bound in milliseconds
abbrev pub server_text : ServerConfig → List ℕ
server_text server =
    spaced (address_text server.ip ∷ encode_lower server.mac ∷ address_text server.mask
    ∷ address_text server.first ∷ decimal server.count ∷ decimal server.lease_sec
    ∷ decimal server.bound_ms ∷ [])

-- what a line says of the forms of a client's messages: nothing of those of mozim
abbrev pub forms_text : DhcpV4MessageForms → List ℕ
forms_text Mozim = []
forms_text Rfc2131 = codes " rfc2131"

-- a client: its MAC address, its random words, and the forms of its messages
abbrev pub client_text : NetClient → List ℕ
client_text client =
    spaced (encode_lower client.mac ∷ words_text client.words ∷ [])
    ++ forms_text client.message_forms

abbrev pub client_line : NetClient → List ℕ
client_line client = codes "client " ++ line (client_text client)

-- what comes to a client
abbrev pub act_text : NetAct → List ℕ
act_text Nothing = codes "none"
act_text (Deliver packet) = codes "deliver " ++ decimal packet
act_text Release = codes "release"
act_text CleanUp = codes "cleanup"

-- whom an event is of, and what comes
abbrev pub who_text : NetWho → List ℕ
who_text (Client client refuse act) =
    codes "client "
    ++ spaced (decimal client ∷ flag_text (codes "refuse") (codes "ok") refuse ∷ act_text act ∷ [])
who_text (Server packet) = codes "server deliver " ++ decimal packet

-- an event: its moment in milliseconds, and what it is
abbrev pub event_text : NetEvent → List ℕ
event_text event = spaced (decimal event.moment ∷ who_text event.who ∷ [])

abbrev pub event_line : NetEvent → List ℕ
event_line event = codes "at " ++ line (event_text event)

-- the lines of events, and the last line
abbrev pub events_text : List NetEvent → List ℕ
events_text events = flat_map event_line events ++ line (codes "end")

-- the lines up to those of the clients
abbrev pub first_lines : NetScript → List ℕ
first_lines script =
    first_line
    ++ line (codes "server " ++ server_text script.server)
    ++ flat_map client_line script.clients

-- the text of a script
unfoldable pub net_script_text : NetScript → List ℕ
net_script_text script =
    first_lines script
    ++ line (codes "start " ++ decimal script.start)
    ++ events_text script.events

-- numbers of 32 and of 64 bits
abbrev pub IsU32 : ℕ → Type 0
IsU32 number = number < 2 ^ 32

abbrev pub IsU64 : ℕ → Type 0
IsU64 number = number < 2 ^ 64

-- what comes, with a number that fits its type
abbrev pub IsAct : NetAct → Type 0
IsAct (Deliver packet) = IsU32 packet
IsAct Nothing = Unit {0}
IsAct Release = Unit {0}
IsAct CleanUp = Unit {0}

abbrev pub IsWho : NetWho → Type 0
IsWho (Client client refuse act) = IsU32 client × IsAct act
IsWho (Server packet) = IsU32 packet

-- a server, a client and an event whose fields fit their types
pub record IsServer (server : ServerConfig) : Type 0 where
  pub ip : IsIpv4Addr server.ip
  pub mac : IsMac server.mac
  pub mask : IsIpv4Addr server.mask
  pub first : IsIpv4Addr server.first
  pub count : IsU32 server.count
  pub lease_sec : IsU32 server.lease_sec
  pub bound_ms : IsU64 server.bound_ms

pub record IsClient (client : NetClient) : Type 0 where
  pub mac : IsMac client.mac
  pub words : AreWords client.words

pub record IsEvent (event : NetEvent) : Type 0 where
  pub moment : IsU64 event.moment
  pub who : IsWho event.who

-- A script that has a text: each of its fields fits its type.
pub record IsNetScript (script : NetScript) : Type 0 where
  pub server : IsServer script.server
  pub clients : All IsClient script.clients
  pub start : IsU64 script.start
  pub events : All IsEvent script.events
