-- Where a lease that a poll reports comes from, over every link.
use Rattle.std.specs.Prelude.{ℕ, ◌≡◌, Bool, true, List, Option, Some, Ok}
use Rattle.dhcp_clock.specs.declared.link.Packet.{Packet}
use Rattle.dhcp_clock.specs.Link.{Turn}
use Rattle.dhcp_history.specs.HeardBy.{IsGrantedLast}
use Rattle.dhcp4_msg.specs.declared.message.DhcpV4Message.{DhcpV4Message}
use Rattle.dhcp4_lease.specs.Lease.{Lease, HasFieldsOf}
use Rattle.dhcp_history.specs.Machine.{View}
use Rattle.dhcp4_lease.specs.Config.{Config}
use Rattle.dhcp4_client.specs.declared.answer.Awaited.{Awaited}
use Rattle.dhcp4_client.specs.declared.client_state.ClientState.{ClientState}
use Rattle.dhcp4_client.specs.declared.client_state.Exchange.{Exchange}
use Rattle.dhcp4_client.specs.declared.state.PlainState.TheVariants as plain
use Rattle.dhcp_history.specs.Traced.{IsPollBy, asks}
use Rattle.dhcp4_client.specs.Answer.{awaited, is_of_type, message_for}
use Rattle.dhcp4_client.specs.Client.{ClientParts}
use Rattle.dhcp4_client.specs.Rules.{protocol, public_state}

-- This very poll asked its link for a packet and was given this one. It is carried as the state
-- awaits, and comes to the client's port; its message has the client's transaction id and the type
-- that is awaited; and each field of the lease but its times is that of the message.
pub record IsGranted (config : Config) (now : ℕ) (refuse : Bool) (packet : Option Packet)
    (lease : Lease) (old : View ClientState Exchange) : Type 0 where
  pub heard : Packet
  pub message : DhcpV4Message
  pub expected : Awaited
  pub asked : asks (protocol config) now refuse old ≡ true
  pub given : packet ≡ Some heard
  pub awaits : awaited config.message_forms old.state ≡ Some expected
  pub carried : message_for (Some expected) old.exchange.xid heard ≡ Some message
  pub grants : is_of_type expected.grant message ≡ true
  pub fields : HasFieldsOf message lease

-- each lease that a poll of a client with this configuration reports at this moment is granted so
abbrev pub LeasesAreGranted : Config → ℕ → Type 0
LeasesAreGranted config now = (refuse : Bool) (packet : Option Packet) (turns : List Turn)
    (lease : Lease) (old new : View ClientState Exchange) →
    IsPollBy (protocol config) now refuse packet turns (Ok (Some (plain.Done lease))) old new →
    plain.Done lease ≡ public_state new.state → IsGranted config now refuse packet lease old

-- the lease was read from the packet that the link gave last
abbrev pub HeardLease : {Source Link : Type 0} → (ℕ → Source → Source → Type 0) →
    (Turn → Link → Link → Type 0) → ℕ → Lease → ClientParts → Source → Source → Link → Link → Type 0
HeardLease gives moves now lease old = IsGrantedLast gives moves
    (λ refuse packet before. IsGranted old.config now refuse packet lease before) old.client
