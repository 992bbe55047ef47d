-- What a packet is to a client as it stands, RFC 2131 sections 3.1 and 4.4: its answer, or what a
-- packet of its kind lacks. A packet is tested as its reading does: its carrier and its port, its
-- message, its transaction id, its type, its server, its lease.
use Rattle.std.specs.Prelude.{ℕ, ◌∷◌, ◌==◌, ◌&&◌, Bool, List, [], Option, Some, None, is_some, if◌then◌else◌}
use Rattle.dhcp_wire.specs.declared.error.ErrorKind.TheVariants.{InvalidDhcpMessage}
use Rattle.dhcp_clock.specs.contracts.link.PacketKindPartialEq.TheImpl as carriers
use Rattle.dhcp_clock.specs.declared.link.Packet.{Packet}
use Rattle.dhcp_verdict.specs.declared.packet_verdict.PacketVerdict.{PacketVerdict}
use Rattle.dhcp_verdict.specs.declared.packet_verdict.PacketVerdict.TheVariants as verdicts
use Rattle.dhcp_verdict.specs.OpenAttempt.{is_open}
use Rattle.dhcp_history.specs.declared.client.Client.{Client}
use Rattle.dhcp4_msg.specs.declared.message.DhcpV4Message.{DhcpV4Message}
use Rattle.dhcp4_msg.specs.declared.message_type.DhcpV4MessageType.{DhcpV4MessageType}
use Rattle.dhcp4_msg.specs.declared.message_type.DhcpV4MessageType.TheVariants.{Nack}
use Rattle.dhcp4_msg.specs.Message.{read_message}
use Rattle.dhcp4_msg.specs.Options.{message_type}
use Rattle.dhcp4_lease.specs.Config.{Config}
use Rattle.dhcp4_lease.specs.Lease.{read_lease}
use Rattle.dhcp4_client.specs.declared.answer.Awaited.{Awaited}
use Rattle.dhcp4_client.specs.declared.answer.Refuser.{Refuser}
use Rattle.dhcp4_client.specs.declared.answer.Refuser.TheVariants.{Nobody, AnyServer, Server}
use Rattle.dhcp4_client.specs.declared.client_state.ClientState.{ClientState}
use Rattle.dhcp4_client.specs.declared.client_state.Exchange.{Exchange}
use Rattle.dhcp4_client.specs.Answer.{awaited, is_of_type, is_refusal, payload_in}
use Rattle.dhcp4_client.specs.Rules.{protocol}

-- what a packet is, with the type of its message if it says one (RFC 2132, section 9.6)
abbrev pub Verdict : Type 0
Verdict = PacketVerdict (Option DhcpV4MessageType)

-- whether a message grants a lease, if this random word is the next one
abbrev pub grants_with : ℕ → DhcpV4Message → Bool
grants_with word message = is_some (read_lease message (word ∷ [])).value

-- Whether a message grants a lease, whatever random words are the next ones. If T1 or T2 is absent,
-- a word moves it by 2 seconds less, as 0 does, to 1 second more, as 3 does; if both are, they are
-- always in order.
abbrev pub always_grants : DhcpV4Message → Bool
always_grants message = grants_with 0 message && grants_with 3 message

-- a message of the awaited type
abbrev pub verdict_of_grant : DhcpV4Message → Verdict
verdict_of_grant message =
    if always_grants message then verdicts.Answer else verdicts.NoLease InvalidDhcpMessage

-- a message that is neither of the awaited type nor a refusal, but may be a Nack of another server
-- than the one that was asked
abbrev pub verdict_of_other : Refuser → DhcpV4Message → Verdict
verdict_of_other Nobody message = verdicts.OtherType (message_type message.options)
verdict_of_other AnyServer message = verdicts.OtherType (message_type message.options)
verdict_of_other (Server server) message =
    if is_of_type Nack message then verdicts.OtherServer
    else verdicts.OtherType (message_type message.options)

-- a message with the transaction id of the attempt
abbrev pub verdict_of_reply : Awaited → DhcpV4Message → Verdict
verdict_of_reply awaited message =
    if is_of_type awaited.grant message then verdict_of_grant message
    else (if is_refusal awaited.refuser message then verdicts.Answer
    else verdict_of_other awaited.refuser message)

-- what a payload reads as
abbrev pub verdict_of_message : Awaited → ℕ → Option DhcpV4Message → Verdict
verdict_of_message awaited xid None = verdicts.NoMessage
verdict_of_message awaited xid (Some message) =
    if message.xid == xid then verdict_of_reply awaited message
    else verdicts.OtherTransactionId

-- the payload of a packet that is carried as it is awaited
abbrev pub verdict_of_payload : Awaited → ℕ → Option (List ℕ) → Verdict
verdict_of_payload awaited xid None = verdicts.NoFrame
verdict_of_payload awaited xid (Some payload) =
    verdict_of_message awaited xid (read_message payload)

-- a packet for an attempt with this transaction id
abbrev pub verdict_of_packet : Awaited → ℕ → Packet → Verdict
verdict_of_packet awaited xid packet =
    if carriers.ghosts.eq packet.kind awaited.carrier
    then verdict_of_payload awaited xid (payload_in awaited.carrier packet)
    else verdicts.OtherCarrier

-- a packet for a state that awaits this or nothing
abbrev pub verdict_by : Option Awaited → ℕ → Packet → Verdict
verdict_by None xid packet = verdicts.NoOpenAttempt
verdict_by (Some awaited) xid packet = verdict_of_packet awaited xid packet

-- what a packet is to a client as it stands at a moment
abbrev pub packet_verdict : Config → Client ClientState Exchange → ℕ → Packet → Verdict
packet_verdict config client now packet =
    if is_open (protocol config) now client
    then verdict_by (awaited config.message_forms client.state) client.standing.exchange.xid packet
    else verdicts.NoOpenAttempt
