-- What a packet is to a client as it stands, RFC 8415 sections 16.3, 16.10 and 18.2.10: its answer,
-- or what a packet of its kind lacks. A packet is tested in this order: its carrier, its message,
-- its transaction id, its type, its lease.
use Rattle.std.specs.Prelude.{ℕ, ◌==◌, Bool, List, Option, Some, None, Result, Ok, Err, if◌then◌else◌}
use Rattle.dhcp_wire.specs.declared.error.ErrorKind.{ErrorKind}
use Rattle.dhcp_wire.specs.declared.error.ErrorKind.TheVariants.{OutOfMemory}
use Rattle.dhcp_wire.specs.Error.{ErrorParts}
use Rattle.dhcp_clock.specs.declared.link.Packet.{Packet}
use Rattle.dhcp_verdict.specs.declared.packet_verdict.PacketVerdict.{PacketVerdict}
use Rattle.dhcp_verdict.specs.declared.packet_verdict.PacketVerdict.TheVariants as verdicts
use Rattle.dhcp_verdict.specs.OpenAttempt.{is_open}
use Rattle.dhcp_history.specs.declared.client.Client.{Client}
use Rattle.dhcp6_msg.specs.declared.message.DhcpV6Message.{DhcpV6Message}
use Rattle.dhcp6_msg.specs.declared.message_type.DhcpV6MessageType.{DhcpV6MessageType}
use Rattle.dhcp6_msg.specs.Config.{Config}
use Rattle.dhcp6_msg.specs.Exchange.{payload_in}
use Rattle.dhcp6_msg.specs.Lease.{Lease, read_lease}
use Rattle.dhcp6_msg.specs.Message.{id_number, read_message}
use Rattle.dhcp6_msg.specs.MessageType.{type_number}
use Rattle.dhcp6_client.specs.declared.client_state.ClientState.{ClientState}
use Rattle.dhcp6_client.specs.declared.client_state.Exchange.{Exchange}
use Rattle.dhcp6_client.specs.Answer.{awaited_type}
use Rattle.dhcp6_client.specs.Rules.{protocol}

-- what a packet is, with the type of its message
abbrev pub Verdict : Type 0
Verdict = PacketVerdict DhcpV6MessageType

-- the lease that was read from a message of the awaited type, or why it grants none
abbrev pub verdict_of_lease : Result Lease ErrorKind → Verdict
verdict_of_lease (Ok lease) = verdicts.Answer
verdict_of_lease (Err kind) = verdicts.NoLease kind

-- what an error of the reading of a lease says, by its kind; out of memory says nothing
abbrev pub verdict_of_refusal : ErrorParts → ErrorKind → Result Verdict ErrorParts
verdict_of_refusal error OutOfMemory = Err error
verdict_of_refusal error kind = Ok (verdicts.NoLease kind)

-- what a read of a lease says
abbrev pub verdict_if_read : {X : Type 0} → Result X ErrorParts → Result Verdict ErrorParts
verdict_if_read (Ok x) = Ok verdicts.Answer
verdict_if_read (Err error) = verdict_of_refusal error error.kind

-- whether a message is of this type
abbrev pub is_of_type : DhcpV6MessageType → DhcpV6Message → Bool
is_of_type kind message = type_number message.msg_type == type_number kind

-- a message with the transaction id of the attempt, which awaits this type
abbrev pub verdict_of_reply : DhcpV6MessageType → DhcpV6Message → Verdict
verdict_of_reply kind message =
    if is_of_type kind message then verdict_of_lease (read_lease message)
    else verdicts.OtherType message.msg_type

-- what a payload reads as
abbrev pub verdict_of_message : DhcpV6MessageType → ℕ → Option DhcpV6Message → Verdict
verdict_of_message kind xid None = verdicts.NoMessage
verdict_of_message kind xid (Some message) =
    if id_number message.xid == xid then verdict_of_reply kind message
    else verdicts.OtherTransactionId

-- the payload of a packet; a frame has none here
abbrev pub verdict_of_payload : DhcpV6MessageType → ℕ → Option (List ℕ) → Verdict
verdict_of_payload kind xid None = verdicts.OtherCarrier
verdict_of_payload kind xid (Some payload) = verdict_of_message kind xid (read_message payload)

-- a packet for an attempt with this transaction id, which awaits this type
abbrev pub verdict_of_packet : DhcpV6MessageType → ℕ → Packet → Verdict
verdict_of_packet kind xid packet = verdict_of_payload kind xid (payload_in packet)

-- a packet for a state that awaits this type or nothing
abbrev pub verdict_by : Option DhcpV6MessageType → ℕ → Packet → Verdict
verdict_by None xid packet = verdicts.NoOpenAttempt
verdict_by (Some kind) xid packet = verdict_of_packet kind xid packet

-- what a packet is to a client as it stands at a moment
abbrev pub packet_verdict : Config → Client ClientState Exchange → ℕ → Packet → Verdict
packet_verdict config client now packet =
    if is_open (protocol config) now client
    then verdict_by (awaited_type client.state) client.standing.exchange.xid packet
    else verdicts.NoOpenAttempt
