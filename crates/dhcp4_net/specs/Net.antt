-- A network of clients and one server, event by event: what is sent, and what is reported.
use Rattle.std.specs.Prelude.{ℕ, suc, ◌+◌, ◌*◌, ◌==◌, nat_le, nat_lt, Bool, List, [], ◌∷◌, ◌++◌, length, slice_get, Option, Some, None, if◌then◌else◌}
use Rattle.dhcp_wire.specs.Field.{◌>>=◌}
use Rattle.dhcp_clock.specs.declared.link.Handed.{Handed}
use Rattle.dhcp_clock.specs.declared.link.Packet.{Packet}
use Rattle.dhcp_history.specs.declared.script.NumberedEvent.{NumberedEvent}
use Rattle.dhcp_history.specs.declared.script.Failure.TheVariants.{TimedOut, SendRefused}
use Rattle.dhcp_history.specs.declared.script.Input.{Input}
use Rattle.dhcp_history.specs.declared.script.Input.TheVariants as inputs
use Rattle.dhcp_history.specs.declared.script.NumberedReport.{NumberedReport}
use Rattle.dhcp_history.specs.declared.script.Report.{Report}
use Rattle.dhcp_history.specs.declared.script.Report.TheVariants as reports
use Rattle.dhcp_history.specs.EventLoop.{event_at}
use Rattle.dhcp_history.specs.Machine.{EventEffect, View}
use Rattle.dhcp4_server.specs.Ack.{Ack}
use Rattle.dhcp4_lease.specs.Config.{Config}
use Rattle.dhcp4_client.specs.Rules.{protocol}
use Rattle.dhcp4_client.specs.declared.client_state.ClientState.{ClientState}
use Rattle.dhcp4_client.specs.declared.client_state.Exchange.{Exchange}
use Rattle.dhcp4_client.specs.declared.state.PlainState.{PlainState}
use Rattle.dhcp4_client.specs.declared.state.PlainState.TheVariants as plain
use Rattle.dhcp4_server.specs.Answer.{Answer as Served}
use Rattle.dhcp4_net.specs.Grants.{packet_of}
use Rattle.dhcp4_net.specs.declared.log.SentPacket.{SentPacket}
use Rattle.dhcp4_net.specs.declared.output.NetOutput.{NetOutput}
use Rattle.dhcp4_net.specs.declared.output.NetWhat.{NetWhat}
use Rattle.dhcp4_net.specs.declared.output.NetWhat.TheVariants.{Sent, Hold, Failed}
use Rattle.dhcp4_net.specs.declared.script.NetAct.{NetAct}
use Rattle.dhcp4_net.specs.declared.script.NetAct.TheVariants.{Nothing, Deliver, Release, CleanUp}
use Rattle.dhcp4_net.specs.declared.script.NetEvent.{NetEvent}
use Rattle.dhcp4_net.specs.declared.script.NetWho.{NetWho}
use Rattle.dhcp4_net.specs.declared.script.NetWho.TheVariants.{Client, Server}

-- The network: the moment of its last event, the server's Acks, the newest first, the packets sent
-- so far, its clients by their numbers, and what was reported.
pub record Net : Type 0 where
  pub now : ℕ
  pub acks : List Ack
  pub sent : List SentPacket
  pub clients : ℕ → View ClientState Exchange
  pub outputs : List NetOutput

-- 1. What a client's event adds.

-- what grows: the packets sent, and what was reported
pub record Log : Type 0 where
  pub sent : List SentPacket
  pub outputs : List NetOutput

module _ (number now client : ℕ) where
  -- one more output
  abbrev pub log_output : NetWhat → Log → Log
  log_output what log =
      record log { outputs = log.outputs ++ record { event = number; what = what } ∷ [] }

  -- one more packet, which is reported by its number
  abbrev pub log_packet : Packet → Log → Log
  log_packet packet log = record {
    sent = log.sent ++ record { packet = packet; moment = now } ∷ [];
    outputs = log.outputs ++ record { event = number; what = Sent (length log.sent) } ∷ [];
  }

  -- a state that a client reports: a lease that it has begun to hold is an output
  abbrev pub log_state : PlainState → Log → Log
  log_state plain.InitReboot log = log
  log_state plain.Selecting log = log
  log_state (plain.Done lease) log =
      log_output (Hold client lease.yiaddr now (now + 1000 * lease.lease_time_sec)) log
  log_state plain.Renewing log = log
  log_state plain.Rebinding log = log

  -- a report of a client: a message that the link took is a packet, a failed release is an output
  abbrev pub log_report : Report PlainState Handed → Log → Log
  log_report (reports.Handed message) log = log_packet (packet_of message) log
  log_report (reports.Refused message) log = log
  log_report (reports.Changed state) log = log_state state log
  log_report (reports.Failed SendRefused) log = log_output (Failed client) log
  log_report (reports.Failed TimedOut) log = log

  -- reports one after the other
  abbrev pub log_reports : List (NumberedReport PlainState Handed) → Log → Log
  log_reports [] log = log
  log_reports (output ∷ outputs) log = log_reports outputs (log_report output.report log)

-- 2. The events.

-- a packet, if it was sent at most so long before this moment
abbrev pub in_time : ℕ → ℕ → SentPacket → Option Packet
in_time bound now sent = if nat_le now (sent.moment + bound) then Some sent.packet else None

-- the packet of this number, if it may come at this moment
abbrev pub delivered : ℕ → List SentPacket → ℕ → ℕ → Option Packet
delivered bound sent now number = slice_get sent number >>= in_time bound now

-- what a client reads of a packet
abbrev pub arrival_of : Packet → Option (Input Packet)
arrival_of packet = Some (inputs.Arrival packet)

-- what happens at a client, if it may
abbrev pub input_of : ℕ → List SentPacket → ℕ → NetAct → Option (Input Packet)
input_of bound sent now Nothing = Some inputs.Nothing
input_of bound sent now (Deliver number) = delivered bound sent now number >>= arrival_of
input_of bound sent now Release = Some inputs.Release
input_of bound sent now CleanUp = Some inputs.CleanUp

module _ (serve : List Ack → ℕ → Packet → Served) (configs : ℕ → Config) (bound count : ℕ) where
  -- the event of a client's own history
  abbrev pub client_event : ℕ → ℕ → Bool → Input Packet → NumberedEvent Packet
  client_event number now refuse input =
      record { number = number; moment = now; refuse = refuse; input = input }

  -- the network after what an event did to a client
  abbrev pub with_client : Net → ℕ → ℕ → EventEffect PlainState Handed ClientState Exchange →
      ℕ → Net
  with_client net number now effect client =
      let log = log_reports number now client effect.outputs
      (record { sent = net.sent; outputs = net.outputs }) in
      record {
        now = now;
        acks = net.acks;
        sent = log.sent;
        clients = λ other. if other == client then effect.view else net.clients other;
        outputs = log.outputs;
      }

  -- the network after an event at a client
  abbrev pub after_client : Net → ℕ → ℕ → ℕ → Bool → Input Packet → Net
  after_client net number now client refuse input =
      with_client net number now (event_at (protocol (configs client))
      (client_event number now refuse input) (net.clients client)) client

  -- a reply of the server, if there is one, is a packet
  abbrev pub log_reply : ℕ → ℕ → Option Packet → Log → Log
  log_reply number now None log = log
  log_reply number now (Some packet) log = log_packet number now 0 packet log

  -- the network after a packet came to the server
  abbrev pub after_server : Net → ℕ → ℕ → Packet → Net
  after_server net number now packet =
      let served = serve net.acks now packet in
      let log = log_reply number now served.reply
      (record { sent = net.sent; outputs = net.outputs }) in
      record {
        now = now;
        acks = served.acks;
        sent = log.sent;
        clients = net.clients;
        outputs = log.outputs;
      }

  -- the network after an event with this number at this moment, if it may come
  abbrev pub after_who : Net → ℕ → ℕ → NetWho → Option Net
  after_who net number now (Client client refuse act) =
      if nat_lt client count
      then input_of bound net.sent now act
      >>= (λ input. Some (after_client net number now client refuse input))
      else None
  after_who net number now (Server packet) =
      delivered bound net.sent now packet
      >>= (λ packet. Some (after_server net number now packet))

  -- the same, if moments do not fall
  abbrev pub after_event : Net → ℕ → NetEvent → Option Net
  after_event net number event =
      if nat_le net.now event.moment then after_who net number event.moment event.who else None

  -- the network after events from this number on, if they may come
  abbrev pub net_after : Net → ℕ → List NetEvent → Option Net
  net_after net number [] = Some net
  net_after net number (event ∷ events) =
      after_event net number event >>= (λ next. net_after next (suc number) events)
