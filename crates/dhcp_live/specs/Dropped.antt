-- What the packet of an event is to the client.
use Rattle.std.specs.Prelude.{ℕ, Bool, if◌then◌else◌, List, Option, Some, None, option_map}
use Rattle.std.specs.List.{list_any}
use Rattle.dhcp_clock.specs.declared.link.Packet.{Packet}
use Rattle.dhcp_output.specs.Output.{PlainOutput, is_of}
use Rattle.dhcp_output.specs.declared.summary.OutputKind.TheVariants.{Changed}
use Rattle.dhcp_replay.specs.Life.{arrival_of}
use Rattle.dhcp_script.specs.declared.event.Event.{Event}
use Rattle.dhcp_verdict.specs.declared.packet_verdict.PacketVerdict.{PacketVerdict}
use Rattle.dhcp_verdict.specs.declared.packet_verdict.PacketVerdict.TheVariants.{Answer, NoOpenAttempt, OtherCarrier, NoFrame, NoMessage, OtherTransactionId, OtherType, OtherServer, NoLease}
use Rattle.dhcp4_client.specs.Client as client4
use Rattle.dhcp4_client.specs.Verdict as verdicts4
use Rattle.dhcp4_msg.specs.MessageType as types4
use Rattle.dhcp6_client.specs.Client as client6
use Rattle.dhcp6_client.specs.Verdict as verdicts6
use Rattle.dhcp6_msg.specs.MessageType as types6
use Rattle.dhcp_live.specs.declared.dropped.Dropped.{Dropped}

-- what a packet is to a client of either family, with the number of the type of its message, if
-- that has one
abbrev pub PlainVerdict : Type 0
PlainVerdict = PacketVerdict (Option ℕ)

-- the same of a verdict of one family, by the numbers of its types
abbrev pub plain_verdict : {T : Type 0} → (T → Option ℕ) → PacketVerdict T → PlainVerdict
plain_verdict number Answer = Answer
plain_verdict number NoOpenAttempt = NoOpenAttempt
plain_verdict number OtherCarrier = OtherCarrier
plain_verdict number NoFrame = NoFrame
plain_verdict number NoMessage = NoMessage
plain_verdict number OtherTransactionId = OtherTransactionId
plain_verdict number (OtherType kind) = OtherType (number kind)
plain_verdict number OtherServer = OtherServer
plain_verdict number (NoLease kind) = NoLease kind

-- what a packet is to an IPv4 client at a moment
abbrev pub verdict4 : client4.ClientParts → ℕ → Packet → PlainVerdict
verdict4 here now packet =
    plain_verdict (option_map types4.type_number)
    (verdicts4.packet_verdict here.config here.client now packet)

-- and to an IPv6 client
abbrev pub verdict6 : client6.ClientParts → ℕ → Packet → PlainVerdict
verdict6 here now packet =
    plain_verdict (λ kind. Some (types6.type_number kind))
    (verdicts6.packet_verdict here.config here.client now packet)

-- whether a change of state is reported
abbrev pub has_change : List PlainOutput → Bool
has_change outputs = list_any (λ output. is_of Changed output.report) outputs

module _ {Client : Type 0} (verdict : Client → ℕ → Packet → PlainVerdict) where
  -- a packet of the event of this number and moment, by what it is to the client
  abbrev pub dropped_at : Client → ℕ → ℕ → Packet → Dropped
  dropped_at here number moment packet =
      record { number = number; verdict = verdict here moment packet }

  -- What is said of the packet of an event, by the client as it stands after it: nothing if there
  -- is none or a change of state is reported; else what the packet is to that client at the moment
  -- of the event.
  abbrev pub dropped_of : Client → ℕ → Event → List PlainOutput → Option Dropped
  dropped_of here number event outputs =
      if has_change outputs then None
      else option_map (dropped_at here number event.moment) (arrival_of event.what)
