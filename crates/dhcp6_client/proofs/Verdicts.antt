-- A packet is an answer if and only if its reading answers; no random word matters.
use Rattle.std.proofs.Common.{◌≡◌, ℕ, List, [], Bool, true, false, refl, ap, sym, ◌∙◌, inl, inr}
use Rattle.std.specs.Prelude.{◌==◌, Option, Some, None, Result, Ok, Err, IfOk, is_some}
use Rattle.dhcp_wire.specs.Error.{ErrorParts}
use Rattle.dhcp_wire.specs.Field.{◌>>=◌}
use Rattle.dhcp_wire.specs.declared.error.ErrorKind.{ErrorKind}
use Rattle.dhcp_wire.specs.declared.error.ErrorKind.TheVariants as kinds
use Rattle.dhcp_wire.specs.Outcome.{Gives}
use Rattle.dhcp_clock.specs.declared.link.Packet.{Packet}
use Rattle.dhcp_verdict.specs.OpenAttempt.{IsAnswerTest, is_open}
use Rattle.dhcp_verdict.specs.PacketVerdict.{is_answer}
use Rattle.dhcp_verdict.proofs.Opened.{answer_test}
use Rattle.dhcp6_msg.specs.declared.message.DhcpV6Message.{DhcpV6Message}
use Rattle.dhcp6_msg.specs.declared.message_type.DhcpV6MessageType.{DhcpV6MessageType}
use Rattle.dhcp6_msg.specs.Config.{Config}
use Rattle.dhcp6_msg.specs.Exchange.{concerning, payload_in}
use Rattle.dhcp6_msg.specs.Lease.{Lease, read_lease}
use Rattle.dhcp6_msg.specs.Message.{id_number, read_message}
use Rattle.dhcp_history.specs.declared.client.Client.{Client}
use Rattle.dhcp6_client.specs.declared.client_state.ClientState.{ClientState}
use Rattle.dhcp6_client.specs.declared.client_state.Exchange.{Exchange}
use Rattle.dhcp6_client.specs.Answer.{answer_of, awaited_type, lease_if_read, message_for}
use Rattle.dhcp6_client.specs.Rules.{protocol}
use Rattle.dhcp6_client.specs.Verdict.{Verdict, is_of_type, packet_verdict, verdict_by, verdict_if_read, verdict_of_lease, verdict_of_message, verdict_of_payload, verdict_of_refusal}

told_by_lease : (read : Result Lease ErrorKind) → is_answer (verdict_of_lease read) ≡ is_some (lease_if_read read)
told_by_lease (Ok lease) = refl
told_by_lease (Err kind) = refl

-- what the error of a reading says is what the definition gives
told_by_cause : (error : ErrorParts) (kind : ErrorKind) (expected : Result Lease ErrorKind) → error.kind ≡ kind → (kinds.OutOfMemory ≡ kind → ⊥) → Gives (λ (lease : Lease). lease) (Err error) expected →
    verdict_of_lease (Err kind) ≡ verdict_of_lease expected
told_by_cause error kind expected is other given =
    elim given [
      | inl same ↦ absurd (other (sym (ap (λ (e : ErrorParts). e.kind) same) ∙ is))
      | inr refused ↦ sym (ap verdict_of_lease refused ∙ ap (λ (k : ErrorKind). verdict_of_lease (Err k)) is)
    ]

told_by_kind : (error : ErrorParts) (kind : ErrorKind) (expected : Result Lease ErrorKind) → error.kind ≡ kind → Gives (λ (lease : Lease). lease) (Err error) expected → IfOk (verdict_of_refusal error kind) (λ found. found ≡ verdict_of_lease expected)
told_by_kind error kinds.OutOfMemory expected is given = tt
told_by_kind error kinds.Timeout expected is given = told_by_cause error kinds.Timeout expected is (λ same. cc same) given
told_by_kind error kinds.InvalidArgument expected is given = told_by_cause error kinds.InvalidArgument expected is (λ same. cc same) given
told_by_kind error kinds.InvalidDhcpMessage expected is given = told_by_cause error kinds.InvalidDhcpMessage expected is (λ same. cc same) given
told_by_kind error kinds.IoError expected is given = told_by_cause error kinds.IoError expected is (λ same. cc same) given
told_by_kind error kinds.NoLease expected is given = told_by_cause error kinds.NoLease expected is (λ same. cc same) given
told_by_kind error kinds.NotSupported expected is given = told_by_cause error kinds.NotSupported expected is (λ same. cc same) given
told_by_kind error kinds.Bug expected is given = told_by_cause error kinds.Bug expected is (λ same. cc same) given
told_by_kind error kinds.LeaseExpired expected is given = told_by_cause error kinds.LeaseExpired expected is (λ same. cc same) given

pub told_by_read : (read : Result Lease ErrorParts) (expected : Result Lease ErrorKind) → Gives (λ (lease : Lease). lease) read expected → IfOk (verdict_if_read read) (λ found. found ≡ verdict_of_lease expected)
told_by_read (Ok lease) expected given = sym (ap verdict_of_lease given)
told_by_read (Err error) expected given = told_by_kind error error.kind expected refl given

module _ (kind : DhcpV6MessageType) (xid : ℕ) where
  told_by_message : (message : Option DhcpV6Message) → is_answer (verdict_of_message kind xid message) ≡ is_some (answer_of (message >>= concerning kind xid))
  told_by_message None = refl
  told_by_message (Some message) = by_tests (is_of_type kind message) (id_number message.xid == xid) refl refl
    where
      by_tests : (typed same : Bool) → is_of_type kind message ≡ typed → (id_number message.xid == xid) ≡ same → is_answer (verdict_of_message kind xid (Some message)) ≡ is_some (answer_of (concerning kind xid message))
      by_tests true true e f = rw (e, f) (told_by_lease (read_lease message))
      by_tests true false e f = rw (e, f) refl
      by_tests false true e f = rw (e, f) refl
      by_tests false false e f = rw (e, f) refl

  told_by_payload : (payload : Option (List ℕ)) → is_answer (verdict_of_payload kind xid payload) ≡ is_some (answer_of (payload >>= read_message >>= concerning kind xid))
  told_by_payload None = refl
  told_by_payload (Some payload) = told_by_message (read_message payload)

-- a packet for a state that awaits this type or nothing
told_by_packet : (expected : Option DhcpV6MessageType) (xid : ℕ) (packet : Packet) → is_answer (verdict_by expected xid packet) ≡ is_some (answer_of (message_for expected xid packet))
told_by_packet None xid packet = refl
told_by_packet (Some kind) xid packet = told_by_payload kind xid (payload_in packet)

-- what the verdict on a packet says of its reading
pub verdict_tests : (config : Config) (client : Client ClientState Exchange) (now : ℕ) (packet : Packet) → IsAnswerTest (protocol config) now packet (is_answer (packet_verdict config client now packet)) client
verdict_tests config client now packet = by_open (is_open (protocol config) now client) refl
  where
    told : is_answer (verdict_by (awaited_type client.state) client.standing.exchange.xid packet) ≡ is_some (answer_of (message_for (awaited_type client.state) client.standing.exchange.xid packet))
    told = told_by_packet (awaited_type client.state) client.standing.exchange.xid packet

    by_open : (b : Bool) → is_open (protocol config) now client ≡ b → IsAnswerTest (protocol config) now packet (is_answer (packet_verdict config client now packet)) client
    by_open true e = rw e (answer_test (protocol config) now packet client _ (λ is. e) (λ is words. sym told ∙ is) (λ is going. ([], sym told ∙ is)))
    by_open false e = rw e (answer_test (protocol config) now packet client _ (λ is. absurd (cc is)) (λ is. absurd (cc is)) (λ is going. absurd (cc (e, going))))

-- the same of the verdict that a call found
pub found_tests : (result : Result Verdict ErrorParts) (config : Config) (client : Client ClientState Exchange) (now : ℕ) (packet : Packet) → IfOk result (λ found. found ≡ packet_verdict config client now packet) →
    IfOk result (λ found. IsAnswerTest (protocol config) now packet (is_answer found) client)
found_tests (Ok found) config client now packet is = rw is (verdict_tests config client now packet)
found_tests (Err error) config client now packet is = is
