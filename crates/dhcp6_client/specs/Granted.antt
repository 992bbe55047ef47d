-- Where a lease that a poll reports comes from, over every link.
use Rattle.std.specs.Prelude.{ℕ, ◌≡◌, ◌⊎◌, Bool, true, List, Option, Some, Ok}
use Rattle.dhcp_clock.specs.declared.link.Packet.{Packet}
use Rattle.dhcp_clock.specs.Link.{Turn}
use Rattle.dhcp_history.specs.HeardBy.{IsGrantedLast}
use Rattle.dhcp_history.specs.Machine.{View, attempt_now, begin_stay}
use Rattle.dhcp_history.specs.Traced.{IsPollBy, asks}
use Rattle.dhcp6_msg.specs.Config.{Config}
use Rattle.dhcp6_msg.specs.Lease.{Lease, read_lease}
use Rattle.dhcp6_msg.specs.declared.message.DhcpV6Message.{DhcpV6Message}
use Rattle.dhcp6_msg.specs.declared.message_type.DhcpV6MessageType.{DhcpV6MessageType}
use Rattle.dhcp6_client.specs.declared.client_state.ClientState.{ClientState}
use Rattle.dhcp6_client.specs.declared.client_state.Exchange.{Exchange}
use Rattle.dhcp6_client.specs.declared.state.PlainState.TheVariants as plain
use Rattle.dhcp6_client.specs.Answer.{awaited_type, message_for}
use Rattle.dhcp6_client.specs.Client.{ClientParts}
use Rattle.dhcp6_client.specs.Rules.{protocol, public_state}

-- This very poll asked its link for a packet and was given this one. It is a payload, as the client
-- awaits; its message has the transaction id of the attempt that was open at the poll, or that the
-- poll made, and the type that is awaited; and it grants the lease.
pub record IsGranted (config : Config) (now : ℕ) (refuse : Bool) (packet : Option Packet)
    (lease : Lease) (old : View ClientState Exchange) : Type 0 where
  pub heard : Packet
  pub message : DhcpV6Message
  pub expected : DhcpV6MessageType
  pub exchange : Exchange
  pub asked : asks (protocol config) now refuse old ≡ true
  pub given : packet ≡ Some heard
  pub awaits : awaited_type old.state ≡ Some expected
  pub open_attempt : (exchange ≡ old.exchange)
      ⊎ (exchange ≡ (attempt_now (protocol config) now
      (begin_stay (protocol config) now old)).value.exchange)
  pub carried : message_for (Some expected) exchange.xid heard ≡ Some message
  pub grants : read_lease message ≡ Ok lease

-- each lease that a poll of a client with this configuration reports at this moment is granted so
abbrev pub LeasesAreGranted : Config → ℕ → Type 0
LeasesAreGranted config now = (refuse : Bool) (packet : Option Packet) (turns : List Turn)
    (lease : Lease) (old new : View ClientState Exchange) →
    IsPollBy (protocol config) now refuse packet turns (Ok (Some (plain.Done lease))) old new →
    plain.Done lease ≡ public_state new.state → IsGranted config now refuse packet lease old

-- the lease was read from the packet that the link gave last
abbrev pub HeardLease : {Source Link : Type 0} → (ℕ → Source → Source → Type 0) →
    (Turn → Link → Link → Type 0) → ℕ → Lease → ClientParts → Source → Source → Link → Link → Type 0
HeardLease gives moves now lease old = IsGrantedLast gives moves
    (λ refuse packet before. IsGranted old.config now refuse packet lease before) old.client
