-- The reading of the script of a network.
use Rattle.std.specs.Prelude.{ℕ, ◌==◌, Bool, if◌then◌else◌, List, codes, length, Option, Some, None, option_map}
use Rattle.std.specs.Str.{bytes_eq}
use Rattle.std.specs.declared.net.Ipv4Addr.{Ipv4Addr}
use Rattle.dhcp_wire.specs.Field.{Read, ◌>>=◌}
use Rattle.dhcp_stream.specs.TextReader.{address_in, after_tag, both, field_at, in_field, mac_in, made_of, number_in, tag_at, words_in}
use Rattle.dhcp_script.specs.FieldReader.{flag_in, if_tag, u32_at}
use Rattle.dhcp4_lease.specs.declared.message_forms.DhcpV4MessageForms.{DhcpV4MessageForms}
use Rattle.dhcp4_lease.specs.declared.message_forms.DhcpV4MessageForms.TheVariants.{Mozim, Rfc2131}
use Rattle.dhcp4_server.specs.declared.config.ServerConfig.{ServerConfig}
use Rattle.dhcp4_net.specs.declared.script.NetAct.{NetAct}
use Rattle.dhcp4_net.specs.declared.script.NetAct.TheVariants.{Nothing, Deliver, Release, CleanUp}
use Rattle.dhcp4_net.specs.declared.script.NetClient.{NetClient}
use Rattle.dhcp4_net.specs.declared.script.NetEvent.{NetEvent}
use Rattle.dhcp4_net.specs.declared.script.NetScript.{NetScript}
use Rattle.dhcp4_net.specs.declared.script.NetWho.{NetWho}
use Rattle.dhcp4_net.specs.declared.script.NetWho.TheVariants.{Client, Server}
use Rattle.dhcp4_net_play.specs.Lines.{lines_at}
use Rattle.dhcp4_net_play.specs.NetScript.{first_line}

-- a number of 64 bits, up to this byte
abbrev pub u64_at : ℕ → List ℕ → Read ℕ
u64_at end text = in_field (number_in 18446744073709551615) end text

-- the pool of a server, as it is read: its first address, how many there are, the seconds of a
-- lease, and the longest delay of a packet in milliseconds
abbrev pub ServerPool : Type 0
ServerPool = Ipv4Addr × (ℕ × (ℕ × ℕ))

-- a server, as it is read: its address, its MAC address, the subnet mask, and its pool
abbrev pub ServerParts : Type 0
ServerParts = Ipv4Addr × (List ℕ × (Ipv4Addr × ServerPool))

abbrev pub server_of : ServerParts → ServerConfig
server_of parts =
    let pool : ServerPool = parts.1.1.1 in
    record {
      ip = parts.0;
      mac = parts.1.0;
      mask = parts.1.1.0;
      first = pool.0;
      count = pool.1.0;
      lease_sec = pool.1.1.0;
      bound_ms = pool.1.1.1;
    }

-- the line of the server
unfoldable pub server_at : List ℕ → Read ServerConfig
server_at text =
    made_of server_of (after_tag (codes "server ")
    (both (in_field address_in 32) (both (in_field mac_in 32) (both (in_field address_in 32)
    (both (in_field address_in 32) (both (u32_at 32) (both (u32_at 32) (u64_at 10)))))))) text

-- the forms of messages that a line says after a space
abbrev pub forms_in : List ℕ → Option DhcpV4MessageForms
forms_in field = if bytes_eq field (codes "rfc2131") then Some Rfc2131 else None

-- random words and the forms of messages, of the field before the first space and of what follows
-- it, if there is a space
abbrev pub parted_in : Read (List ℕ) → List ℕ → Option (List ℕ × DhcpV4MessageForms)
parted_in None field = option_map (λ words. (words, Mozim)) (words_in field)
parted_in (Some parts) field = do
  forms ← forms_in parts.1
  option_map (λ words. (words, forms)) (words_in parts.0)

unfoldable pub words_and_forms_in : List ℕ → Option (List ℕ × DhcpV4MessageForms)
words_and_forms_in field = parted_in (field_at 32 field) field

abbrev pub client_of : List ℕ × (List ℕ × DhcpV4MessageForms) → NetClient
client_of parts = record { mac = parts.0; message_forms = parts.1.1; words = parts.1.0 }

-- the line of a client, after `client `
unfoldable pub client_at : List ℕ → Read NetClient
client_at text =
    made_of client_of (both (in_field mac_in 32) (in_field words_and_forms_in 10)) text

-- what comes without a packet
abbrev pub call_in : List ℕ → Option NetAct
call_in field =
    if bytes_eq field (codes "none") then Some Nothing
    else if bytes_eq field (codes "release") then Some Release
    else if bytes_eq field (codes "cleanup") then Some CleanUp
    else None

-- what comes to a client
unfoldable pub act_at : List ℕ → Read NetAct
act_at text =
    if_tag (tag_at (codes "deliver ") text) (made_of Deliver (u32_at 10))
    (in_field call_in 10 text)

abbrev pub who_of : ℕ × (Bool × NetAct) → NetWho
who_of parts = Client parts.0 parts.1.0 parts.1.1

-- what comes to which client
unfoldable pub client_event_at : List ℕ → Read NetWho
client_event_at text =
    made_of who_of (after_tag (codes "client ") (both (u32_at 32)
    (both (in_field (flag_in (codes "refuse") (codes "ok")) 32) act_at))) text

-- whom an event is of, and what comes
unfoldable pub who_at : List ℕ → Read NetWho
who_at text =
    if_tag (tag_at (codes "server deliver ") text) (made_of Server (u32_at 10))
    (client_event_at text)

abbrev pub event_of : ℕ × NetWho → NetEvent
event_of parts = record { moment = parts.0; who = parts.1 }

-- the line of an event, after `at `
unfoldable pub event_at : List ℕ → Read NetEvent
event_at text = made_of event_of (both (u64_at 32) who_at) text

abbrev pub script_of : ServerConfig × (List NetClient × (ℕ × List NetEvent)) → NetScript
script_of parts = record {
  server = parts.0;
  clients = parts.1.0;
  start = parts.1.1.0;
  events = parts.1.1.1;
}

-- a script, from the front of a text
unfoldable pub script_at : List ℕ → Read NetScript
script_at text =
    made_of script_of (after_tag first_line (both server_at
    (both (lines_at (codes "client ") client_at (codes "start ")) (both (u64_at 10)
    (lines_at (codes "at ") event_at (codes "end\n")))))) text

-- a script, which is the whole text
unfoldable pub script_in : List ℕ → Option NetScript
script_in text = do
  read ← script_at text
  if length read.1 == 0 then Some read.0 else None
