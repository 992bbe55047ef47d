-- What a packet grants to a client that it reaches.
use Rattle.std.specs.Prelude.{◌≡◌, ℕ, Bool, true, ◌||◌, Option, Some, None, if◌then◌else◌}
use Rattle.std.specs.Net.Addr.{IsIpv4Addr, ipv4_bits}
use Rattle.std.specs.declared.net.Ipv4Addr.{Ipv4Addr}
use Rattle.dhcp_wire.specs.Field.{◌>>=◌}
use Rattle.dhcp_clock.specs.declared.link.Handed.{Handed}
use Rattle.dhcp_clock.specs.declared.link.Handed.TheVariants as handed
use Rattle.dhcp_clock.specs.declared.link.Packet.{Packet}
use Rattle.dhcp_clock.specs.declared.link.PacketKind.TheVariants as kinds
use Rattle.dhcp_history.specs.BoundLease.{Bound}
use Rattle.dhcp_history.specs.declared.script.Input.{Input}
use Rattle.dhcp_history.specs.declared.script.Input.TheVariants.{Nothing, Arrival, Release, CleanUp}
use Rattle.dhcp4_net.specs.Hold.{Grant}
use Rattle.dhcp4_server.specs.Request.{CanBeAnswered, message_to_server}
use Rattle.dhcp4_msg.specs.declared.message.DhcpV4Message.{DhcpV4Message}
use Rattle.dhcp4_msg.specs.declared.message_type.DhcpV4MessageType.TheVariants.{Offer, Ack}
use Rattle.dhcp4_msg.specs.Message.{read_message}
use Rattle.dhcp4_msg.specs.Options.{said_by}
use Rattle.dhcp4_msg.specs.Value.{address_said, seconds_said}
use Rattle.dhcp4_lease.specs.Lease.{Lease}
use Rattle.dhcp4_lease.specs.MessageTable.{server_of}
use Rattle.dhcp4_client.specs.Answer.{is_of_type, payload_in}
use Rattle.dhcp4_client.specs.declared.state.PlainState.{PlainState}
use Rattle.dhcp4_client.specs.declared.state.PlainState.TheVariants as plain
use Rattle.dhcp4_client.specs.declared.client_state.ClientState.{ClientState}
use Rattle.dhcp4_client.specs.declared.client_state.ClientState.TheVariants as states

-- the message of a packet that comes to the port of a client
abbrev pub message_in : Packet → Option DhcpV4Message
message_in packet = payload_in packet.kind packet >>= read_message

-- an Ack grants its address to the client whose transaction id it has
abbrev pub grant_in : DhcpV4Message → Option Grant
grant_in message =
    if is_of_type Ack message
    then Some (record { xid = message.xid; address = ipv4_bits message.yiaddr })
    else None

-- what a packet grants that comes to the port of a client
unfoldable pub grant_of : Packet → Option Grant
grant_of packet = message_in packet >>= grant_in

-- what a client sent, as a packet
abbrev pub packet_of : Handed → Packet
packet_of (handed.Frame bytes) = record { kind = kinds.Frame; bytes = bytes }
packet_of (handed.Udp4 from to bytes) = record { kind = kinds.Payload; bytes = bytes }
packet_of (handed.Udp6 from index bytes) = record { kind = kinds.Payload; bytes = bytes }

-- ---- what proofs say of packets and clients; no clause cites it

-- the addresses that a client takes of a message are IPv4 addresses
pub record HasAddresses (message : DhcpV4Message) : Type 0 where
  pub yiaddr : IsIpv4Addr message.yiaddr
  pub siaddr : IsIpv4Addr message.siaddr
  pub server : (address : Ipv4Addr) → said_by address_said message.options 54 ≡ Some address →
      IsIpv4Addr address

-- whether a message offers or grants a lease
abbrev pub is_offer_or_ack : DhcpV4Message → Bool
is_offer_or_ack message = is_of_type Offer message || is_of_type Ack message

-- what a server reads of a packet can be answered
abbrev pub IsAnswerable : Packet → Type 0
IsAnswerable packet =
    (message : DhcpV4Message) → message_to_server packet ≡ Some message → CanBeAnswered message

-- a packet whose Offer or Ack has such addresses, whose Ack has this lease time, and which a server
-- can answer
pub record IsSound (lease_sec : ℕ) (packet : Packet) : Type 0 where
  pub addresses : (message : DhcpV4Message) → message_in packet ≡ Some message →
      is_offer_or_ack message ≡ true → HasAddresses message
  pub lease : (message : DhcpV4Message) → message_in packet ≡ Some message →
      is_of_type Ack message ≡ true →
      said_by seconds_said message.options 51 ≡ Some lease_sec
  pub answerable : IsAnswerable packet

-- a lease with such addresses
pub record IsWhole (lease : Lease) : Type 0 where
  pub yiaddr : IsIpv4Addr lease.yiaddr
  pub server : IsIpv4Addr (server_of lease)

-- a state whose lease or offer has such addresses
abbrev pub HoldsWhole : ClientState → Type 0
HoldsWhole states.InitReboot = Unit {0}
HoldsWhole (states.Selecting offer) = IsWhole offer
HoldsWhole (states.Rebooting held) = IsWhole held
HoldsWhole (states.Done bound) = IsWhole bound.lease
HoldsWhole (states.Renewing bound) = IsWhole bound.lease
HoldsWhole (states.Rebinding bound) = IsWhole bound.lease

-- a state whose lease, with the moment from which it is held, has this
abbrev pub HoldsBacked : (Bound Lease → Type 0) → ClientState → Type 0
HoldsBacked Backs states.InitReboot = Unit {0}
HoldsBacked Backs (states.Selecting offer) = Unit {0}
HoldsBacked Backs (states.Rebooting held) = Unit {0}
HoldsBacked Backs (states.Done bound) = Backs bound
HoldsBacked Backs (states.Renewing bound) = Backs bound
HoldsBacked Backs (states.Rebinding bound) = Backs bound

-- a lease that this packet grants the client with this transaction id
pub record IsGrantedBy (lease_sec xid : ℕ) (packet : Packet) (lease : Lease) : Type 0 where
  pub grant : grant_of packet ≡ Some (record { xid = xid; address = ipv4_bits lease.yiaddr })
  pub time : lease.lease_time_sec ≡ lease_sec

-- what a client may show as its lease, by what an event brings: what the packet grants it
abbrev pub GrantedIn : ℕ → ℕ → Input Packet → Lease → Type 0
GrantedIn lease_sec xid (Arrival packet) lease = IsGrantedBy lease_sec xid packet lease
GrantedIn lease_sec xid Nothing lease = ⊥
GrantedIn lease_sec xid Release lease = ⊥
GrantedIn lease_sec xid CleanUp lease = ⊥

-- a state that is reported at an event shows no lease but one that the event brings
abbrev pub ShowsGrant : ℕ → ℕ → Input Packet → PlainState → Type 0
ShowsGrant lease_sec xid input plain.InitReboot = Unit {0}
ShowsGrant lease_sec xid input plain.Selecting = Unit {0}
ShowsGrant lease_sec xid input (plain.Done lease) = GrantedIn lease_sec xid input lease
ShowsGrant lease_sec xid input plain.Renewing = Unit {0}
ShowsGrant lease_sec xid input plain.Rebinding = Unit {0}

-- a message that a client sent grants nothing, and is neither an Offer nor an Ack
pub record GrantsNothing (message : Handed) : Type 0 where
  pub none : grant_of (packet_of message) ≡ None
  pub sound : (lease_sec : ℕ) → IsSound lease_sec (packet_of message)
