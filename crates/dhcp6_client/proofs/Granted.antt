-- A lease that a poll reports was read from a packet that the poll was given.
use Rattle.std.proofs.Common.{◌≡◌, ℕ, Bool, refl, ap, sym, ◌∙◌, ◌⊎◌, inl, inr}
use Rattle.std.specs.Prelude.{Option, Some, None, Result, Ok, Err}
use Rattle.dhcp_wire.specs.declared.error.ErrorKind.{ErrorKind}
use Rattle.dhcp_clock.specs.declared.link.Packet.{Packet}
use Rattle.dhcp_history.specs.BoundLease.{Bound}
use Rattle.dhcp_history.specs.HeardBy.{IsHeard, IsEnded}
use Rattle.dhcp_history.specs.Machine.{View}
use Rattle.dhcp6_msg.specs.Config.{Config}
use Rattle.dhcp6_msg.specs.Lease.{Lease, read_lease}
use Rattle.dhcp6_msg.specs.declared.message.DhcpV6Message.{DhcpV6Message}
use Rattle.dhcp6_msg.specs.declared.message_type.DhcpV6MessageType.{DhcpV6MessageType}
use Rattle.dhcp6_msg.specs.declared.mode.DhcpV6Mode.{DhcpV6Mode}
use Rattle.dhcp6_msg.specs.declared.mode.DhcpV6Mode.TheVariants.{NonTemporaryAddresses, TemporaryAddresses, PrefixDelegation}
use Rattle.dhcp6_client.specs.declared.client_state.ClientState.{ClientState}
use Rattle.dhcp6_client.specs.declared.client_state.ClientState.TheVariants.{Solicit, Request, Done, Temporary, Renew, Rebind}
use Rattle.dhcp6_client.specs.declared.client_state.Exchange.{Exchange}
use Rattle.dhcp6_client.specs.declared.state.PlainState.{PlainState}
use Rattle.dhcp6_client.specs.declared.state.PlainState.TheVariants as plain
use Rattle.dhcp6_client.specs.Answer.{awaited_type, message_for, answer_of, lease_if_read}
use Rattle.dhcp6_client.specs.Granted.{IsGranted}
use Rattle.dhcp6_client.specs.Rules.{protocol, public_state, after_answer, after_end, held_lease, bound_state}

lease_in : PlainState → Lease → Lease
lease_in (plain.Done lease) other = lease
lease_in plain.Solicit other = other
lease_in plain.Request other = other
lease_in plain.Renew other = other
lease_in plain.Rebind other = other

lease_of_option : Option Lease → Lease → Lease
lease_of_option None other = other
lease_of_option (Some lease) other = lease

pub same_lease : (one other : Lease) → plain.Done one ≡ plain.Done other → one ≡ other
unfolding lease_in
same_lease one other e = ap (λ (state : PlainState). lease_in state one) e

pub same_in_option : (one other : Lease) → Some one ≡ Some other → one ≡ other
unfolding lease_of_option
same_in_option one other e = ap (λ (o : Option Lease). lease_of_option o one) e

-- a client that has a lease reports it, and holds it
pub bound_reports : (mode : DhcpV6Mode) (bound : Bound Lease) → public_state (bound_state mode bound) ≡ plain.Done bound.lease
bound_reports NonTemporaryAddresses bound = refl
bound_reports TemporaryAddresses bound = refl
bound_reports (PrefixDelegation length) bound = refl

bound_holds : (mode : DhcpV6Mode) (bound : Bound Lease) → held_lease (bound_state mode bound) ≡ Some bound.lease
bound_holds NonTemporaryAddresses bound = refl
bound_holds TemporaryAddresses bound = refl
bound_holds (PrefixDelegation length) bound = refl

-- no state that ends leads to one that is reported with a lease
pub ended_has_none : (state : ClientState) (exchange : Exchange) (lease : Lease) → public_state (after_end state exchange).state ≡ plain.Done lease → ⊥
ended_has_none Solicit exchange lease e = absurd (cc e)
ended_has_none (Request offer) exchange lease e = absurd (cc e)
ended_has_none (Done bound) exchange lease e = absurd (cc e)
ended_has_none (Temporary bound) exchange lease e = absurd (cc e)
ended_has_none (Renew bound) exchange lease e = absurd (cc e)
ended_has_none (Rebind bound) exchange lease e = absurd (cc e)

-- the lease that is held after the end of a state was held before
ended_keeps : (state : ClientState) (exchange : Exchange) (lease : Lease) → held_lease (after_end state exchange).state ≡ Some lease → held_lease state ≡ Some lease
ended_keeps Solicit exchange lease e = absurd (cc e)
ended_keeps (Request offer) exchange lease e = absurd (cc e)
ended_keeps (Done bound) exchange lease e = e
ended_keeps (Temporary bound) exchange lease e = absurd (cc e)
ended_keeps (Renew bound) exchange lease e = e
ended_keeps (Rebind bound) exchange lease e = absurd (cc e)

module _ (config : Config) (now : ℕ) (exchange : Exchange) where
  abbrev bound_to : Lease → Bound Lease
  bound_to lease = record { lease = lease; since = now }

  reports : (given lease : Lease) → public_state (bound_state config.mode (bound_to given)) ≡ plain.Done lease → given ≡ lease
  reports given lease e = same_lease given lease (sym (bound_reports config.mode (bound_to given)) ∙ e)

  -- an answer after which a lease is reported is that lease
  granted_by : (state : ClientState) (given lease : Lease) → public_state (after_answer config state given now exchange).state ≡ plain.Done lease → given ≡ lease
  granted_by Solicit given lease e = absurd (cc e)
  granted_by (Request offer) given lease e = reports given lease e
  granted_by (Done bound) given lease e = reports given lease e
  granted_by (Temporary bound) given lease e = reports given lease e
  granted_by (Renew bound) given lease e = reports given lease e
  granted_by (Rebind bound) given lease e = reports given lease e

  holds : (given lease : Lease) → held_lease (bound_state config.mode (bound_to given)) ≡ Some lease → public_state (bound_state config.mode (bound_to given)) ≡ plain.Done lease
  holds given lease e =
      let same : given ≡ lease = same_in_option given lease (sym (bound_holds config.mode (bound_to given)) ∙ e) in
      bound_reports config.mode (bound_to given) ∙ ap (λ (one : Lease). plain.Done one) same

  -- the one that is held after an answer is reported
  answered_reports : (state : ClientState) (given lease : Lease) → held_lease (after_answer config state given now exchange).state ≡ Some lease →
      public_state (after_answer config state given now exchange).state ≡ plain.Done lease
  answered_reports Solicit given lease e = absurd (cc e)
  answered_reports (Request offer) given lease e = holds given lease e
  answered_reports (Done bound) given lease e = holds given lease e
  answered_reports (Temporary bound) given lease e = holds given lease e
  answered_reports (Renew bound) given lease e = holds given lease e
  answered_reports (Rebind bound) given lease e = holds given lease e

-- what was read of a message
is_read : (read : Result Lease ErrorKind) (lease : Lease) → lease_if_read read ≡ Some lease → read ≡ Ok lease
is_read (Ok given) lease e = ap (λ (one : Lease). Ok one) (same_in_option given lease e)
is_read (Err kind) lease e = absurd (cc e)

record Reads (message : Option DhcpV6Message) (lease : Lease) : Type 0 where
  of : DhcpV6Message
  is_message : message ≡ Some of
  grants : read_lease of ≡ Ok lease

read_granted : (message : Option DhcpV6Message) (lease : Lease) → answer_of message ≡ Some lease → Reads message lease
read_granted None lease e = absurd (cc e)
read_granted (Some message) lease e = record { of = message; is_message = refl; grants = is_read (read_lease message) lease e }

-- the type that is awaited
record Awaits (expected : Option DhcpV6MessageType) (xid : ℕ) (heard : Packet) (message : DhcpV6Message) : Type 0 where
  kind : DhcpV6MessageType
  is_expected : expected ≡ Some kind
  carried : message_for (Some kind) xid heard ≡ Some message

awaits_type : (expected : Option DhcpV6MessageType) (xid : ℕ) (heard : Packet) (message : DhcpV6Message) → message_for expected xid heard ≡ Some message → Awaits expected xid heard message
awaits_type None xid heard message e = absurd (cc e)
awaits_type (Some kind) xid heard message e = record { kind = kind; is_expected = refl; carried = e }

-- over every link: a lease that is reported was read from a packet that this poll was given
pub lease_is_granted : (config : Config) (now : ℕ) (refuse : Bool) (packet : Option Packet) (lease : Lease) (old new : View ClientState Exchange) →
    IsEnded (protocol config) now old new ⊎ IsHeard (protocol config) now refuse packet old new → public_state new.state ≡ plain.Done lease → IsGranted config now refuse packet lease old
lease_is_granted config now refuse packet lease old new (inl ended) says = absurd (ended_has_none old.state _ lease (sym (ap public_state ended) ∙ says))
lease_is_granted config now refuse packet lease old new (inr h) says =
    let same : h.answer ≡ lease = granted_by config now h.exchange old.state h.answer lease (sym (ap public_state h.next) ∙ says) in
    let read : answer_of (message_for (awaited_type old.state) h.exchange.xid h.heard) ≡ Some lease = h.read ∙ ap (λ (one : Lease). Some one) same in
    let of = read_granted (message_for (awaited_type old.state) h.exchange.xid h.heard) lease read in
    let awaits = awaits_type (awaited_type old.state) h.exchange.xid h.heard of.of of.is_message in
    record {
      heard = h.heard;
      message = of.of;
      expected = awaits.kind;
      exchange = h.exchange;
      asked = h.asked;
      given = h.given;
      awaits = awaits.is_expected;
      open_attempt = h.open_attempt;
      carried = awaits.carried;
      grants = of.grants;
    }

-- over every link: the lease that is held after a change was held before it, or is reported by it
pub lease_is_reported : (config : Config) (now : ℕ) (refuse : Bool) (packet : Option Packet) (lease : Lease) (old new : View ClientState Exchange) →
    IsEnded (protocol config) now old new ⊎ IsHeard (protocol config) now refuse packet old new → held_lease new.state ≡ Some lease →
    (held_lease old.state ≡ Some lease) ⊎ (public_state new.state ≡ plain.Done lease)
lease_is_reported config now refuse packet lease old new (inl ended) held = inl (ended_keeps old.state _ lease (sym (ap held_lease ended) ∙ held))
lease_is_reported config now refuse packet lease old new (inr h) held =
    inr (ap public_state h.next ∙ answered_reports config now h.exchange old.state h.answer lease (sym (ap held_lease h.next) ∙ held))
