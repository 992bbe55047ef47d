-- What a packet answers to an open attempt, RFC 2131 sections 3.1 and 4.4: it is carried as the
-- state awaits, to port 68; it has the transaction id of the attempt; and it is of the awaited
-- type, or a refusal.
use Rattle.std.specs.Prelude.{ℕ, ◌==◌, ◌&&◌, ◌||◌, Bool, false, List, Option, Some, None, option_map, if◌then◌else◌}
use Rattle.std.specs.Net.Addr.{ipv4_octets}
use Rattle.std.specs.Option.{option_map_or}
use Rattle.std.specs.Str.{bytes_eq}
use Rattle.std.specs.declared.net.Ipv4Addr.{Ipv4Addr}
use Rattle.dhcp_wire.specs.Field.{◌>>=◌}
use Rattle.dhcp_clock.specs.declared.link.Packet.{Packet}
use Rattle.dhcp_clock.specs.declared.link.PacketKind.{PacketKind}
use Rattle.dhcp_clock.specs.declared.link.PacketKind.TheVariants as carriers
use Rattle.dhcp_clock.specs.Words.{Drawn, undrawn}
use Rattle.dhcp_frame.specs.View.{read_frame}
use Rattle.dhcp_frame.specs.declared.frame.Frame.{Frame}
use Rattle.dhcp4_msg.specs.declared.message.DhcpV4Message.{DhcpV4Message}
use Rattle.dhcp4_msg.specs.declared.message_type.DhcpV4MessageType.{DhcpV4MessageType}
use Rattle.dhcp4_msg.specs.declared.message_type.DhcpV4MessageType.TheVariants.{Offer, Ack, Nack}
use Rattle.dhcp4_msg.specs.Message.{read_message}
use Rattle.dhcp4_msg.specs.MessageType.{type_number}
use Rattle.dhcp4_msg.specs.Options.{message_type, server_identifier}
use Rattle.dhcp4_lease.specs.declared.message_forms.DhcpV4MessageForms.{DhcpV4MessageForms}
use Rattle.dhcp4_lease.specs.declared.message_forms.DhcpV4MessageForms.TheVariants.{Mozim, Rfc2131}
use Rattle.dhcp4_lease.specs.Lease.{Lease, read_lease}
use Rattle.dhcp4_lease.specs.MessageTable.{is_unspecified}
use Rattle.dhcp4_client.specs.declared.answer.Answer.{Answer}
use Rattle.dhcp4_client.specs.declared.answer.Answer.TheVariants.{Granted, Refused}
use Rattle.dhcp4_client.specs.declared.answer.Awaited.{Awaited}
use Rattle.dhcp4_client.specs.declared.answer.Refuser.{Refuser}
use Rattle.dhcp4_client.specs.declared.answer.Refuser.TheVariants.{Nobody, AnyServer, Server}
use Rattle.dhcp4_client.specs.declared.client_state.ClientState.{ClientState}
use Rattle.dhcp4_client.specs.declared.client_state.ClientState.TheVariants.{InitReboot, Selecting, Rebooting, Done, Renewing, Rebinding}
use Rattle.dhcp4_client.specs.Message.{renewal_server}

-- Who may refuse a request of this offer or lease, RFC 2131 section 3.1: by its forms the server
-- that is asked, or that granted the lease, if its identifier is known; else, and by mozim's forms,
-- any server.
abbrev pub refuser_of : DhcpV4MessageForms → Lease → Refuser
refuser_of Mozim lease = AnyServer
refuser_of Rfc2131 lease =
    if is_unspecified lease.srv_id then AnyServer else Server lease.srv_id

-- how the answer to a renewal is carried: as the renewal is that goes to this server, or to any
abbrev pub renewal_carrier : Option Ipv4Addr → PacketKind
renewal_carrier None = carriers.Frame
renewal_carrier (Some server) = carriers.Payload

-- an Ack, carried so, or a Nack
abbrev pub ack_in : PacketKind → Refuser → Awaited
ack_in carrier refuser = record { carrier = carrier; grant = Ack; refuser = refuser }

-- What a state awaits. In REBOOTING any server may refuse: none is asked by name (RFC 2131, section
-- 3.2).
abbrev pub awaited : DhcpV4MessageForms → ClientState → Option Awaited
awaited forms InitReboot =
    Some (record { carrier = carriers.Frame; grant = Offer; refuser = Nobody })
awaited forms (Selecting offer) = Some (ack_in carriers.Frame (refuser_of forms offer))
awaited forms (Rebooting held) = Some (ack_in carriers.Frame AnyServer)
awaited forms (Done bound) = None
awaited forms (Renewing bound) =
    Some (ack_in (renewal_carrier (renewal_server forms bound.lease))
    (refuser_of forms bound.lease))
awaited forms (Rebinding bound) = Some (ack_in carriers.Frame (refuser_of forms bound.lease))

-- the payload of a frame to the port of a client
abbrev pub payload_to_client : Frame → Option (List ℕ)
payload_to_client frame = if frame.dst_port == 68 then Some frame.payload else None

abbrev pub framed_payload : List ℕ → Option (List ℕ)
framed_payload bytes = read_frame bytes >>= payload_to_client

-- the payload of a packet that is carried so
abbrev pub payload_by : PacketKind → PacketKind → List ℕ → Option (List ℕ)
payload_by carriers.Frame carriers.Frame bytes = framed_payload bytes
payload_by carriers.Frame carriers.Payload bytes = None
payload_by carriers.Payload carriers.Frame bytes = None
payload_by carriers.Payload carriers.Payload bytes = Some bytes

abbrev pub payload_in : PacketKind → Packet → Option (List ℕ)
payload_in carrier packet = payload_by carrier packet.kind packet.bytes

-- whether a message is of this type
abbrev pub is_of_type : DhcpV4MessageType → DhcpV4Message → Bool
is_of_type kind message =
    option_map_or (λ found. type_number found == type_number kind)
    (message_type message.options) false

-- whether a message is from the server with this identifier, option 54 (RFC 2132, section 9.7); one
-- without that option is from none
abbrev pub is_from : Ipv4Addr → DhcpV4Message → Bool
is_from server message =
    option_map_or (λ found. bytes_eq (ipv4_octets found) (ipv4_octets server))
    (server_identifier message.options) false

-- whether a message is a Nack of one who may refuse
abbrev pub is_refusal : Refuser → DhcpV4Message → Bool
is_refusal Nobody message = false
is_refusal AnyServer message = is_of_type Nack message
is_refusal (Server server) message = is_of_type Nack message && is_from server message

-- whether a message has the transaction id, and the type that is awaited or that of a refusal
abbrev pub concerns : Awaited → ℕ → DhcpV4Message → Bool
concerns awaited xid message =
    (message.xid == xid)
    && (is_of_type awaited.grant message || is_refusal awaited.refuser message)

-- the message of a packet that concerns an attempt with this transaction id
abbrev pub concerning : Awaited → ℕ → DhcpV4Message → Option DhcpV4Message
concerning awaited xid message = if concerns awaited xid message then Some message else None

abbrev pub message_for : Option Awaited → ℕ → Packet → Option DhcpV4Message
message_for None xid packet = None
message_for (Some awaited) xid packet =
    payload_in awaited.carrier packet >>= read_message >>= concerning awaited xid

-- what such a message answers: a refusal, or the lease that it grants, for whose times words may be
-- drawn
abbrev pub answer_of : Awaited → DhcpV4Message → List ℕ → Drawn (Option Answer)
answer_of awaited message words =
    if is_of_type awaited.grant message
    then (let lease = read_lease message words in
    record { value = option_map Granted lease.value; left = lease.left })
    else undrawn (Some Refused) words

-- what a packet answers whose message this is, if one is awaited
abbrev pub reading_of : Option Awaited → Option DhcpV4Message → List ℕ → Drawn (Option Answer)
reading_of None message words = undrawn None words
reading_of (Some awaited) None words = undrawn None words
reading_of (Some awaited) (Some message) words = answer_of awaited message words
