-- What a packet answers to an open attempt, RFC 8415 sections 16.3, 16.10 and 18.2.10: it is a
-- payload; it has the transaction id of the attempt; it is of the awaited type; and it grants a
-- lease.
use Rattle.std.specs.Prelude.{ℕ, Option, Some, None, Result, Ok, Err}
use Rattle.dhcp_wire.specs.Field.{◌>>=◌}
use Rattle.dhcp_wire.specs.declared.error.ErrorKind.{ErrorKind}
use Rattle.dhcp_clock.specs.declared.link.Packet.{Packet}
use Rattle.dhcp6_msg.specs.Exchange.{concerning, payload_in}
use Rattle.dhcp6_msg.specs.declared.message.DhcpV6Message.{DhcpV6Message}
use Rattle.dhcp6_msg.specs.declared.message_type.DhcpV6MessageType.{DhcpV6MessageType}
use Rattle.dhcp6_msg.specs.declared.message_type.DhcpV6MessageType.TheVariants.{Advertise, Reply}
use Rattle.dhcp6_msg.specs.Lease.{Lease, read_lease}
use Rattle.dhcp6_msg.specs.Message.{read_message}
use Rattle.dhcp6_client.specs.declared.client_state.ClientState.{ClientState}
use Rattle.dhcp6_client.specs.declared.client_state.ClientState.TheVariants.{Solicit, Request, Done, Temporary, Renew, Rebind}

-- the type that a state awaits
abbrev pub awaited_type : ClientState → Option DhcpV6MessageType
awaited_type Solicit = Some Advertise
awaited_type (Request offer) = Some Reply
awaited_type (Done bound) = None
awaited_type (Temporary bound) = None
awaited_type (Renew bound) = Some Reply
awaited_type (Rebind bound) = Some Reply

-- the message of a packet that concerns an attempt with this transaction id
abbrev pub message_for : Option DhcpV6MessageType → ℕ → Packet → Option DhcpV6Message
message_for None xid packet = None
message_for (Some kind) xid packet =
    payload_in packet >>= read_message >>= concerning kind xid

-- a lease that was read, or none
abbrev pub lease_if_read : Result Lease ErrorKind → Option Lease
lease_if_read (Ok lease) = Some lease
lease_if_read (Err kind) = None

-- the lease that a message grants, if it grants one
abbrev pub granted_by : DhcpV6Message → Option Lease
granted_by message = lease_if_read (read_lease message)

-- what a packet answers whose message this is, if it concerns the attempt
abbrev pub answer_of : Option DhcpV6Message → Option Lease
answer_of message = message >>= granted_by
