-- A packet is an answer if and only if its reading answers, whatever random words are the next ones.
use Rattle.std.proofs.Common.{◌≡◌, ℕ, List, [], Bool, true, false, refl, sym, ◌∙◌}
use Rattle.std.specs.Prelude.{◌==◌, ◌||◌, Option, Some, None, is_some, option_map, Result, Ok, Err, IfOk, if◌then◌else◌}
use Rattle.dhcp_wire.specs.Error.{ErrorParts}
use Rattle.dhcp_wire.specs.Field.{◌>>=◌}
use Rattle.dhcp_clock.specs.contracts.link.PacketKindPartialEq.TheImpl as kinds
use Rattle.dhcp_clock.specs.declared.link.Packet.{Packet}
use Rattle.dhcp_clock.specs.declared.link.PacketKind.{PacketKind}
use Rattle.dhcp_clock.specs.declared.link.PacketKind.TheVariants as carriers
use Rattle.dhcp_verdict.specs.declared.packet_verdict.PacketVerdict.TheVariants as verdicts
use Rattle.dhcp_verdict.specs.OpenAttempt.{IsAnswerTest, is_open}
use Rattle.dhcp_verdict.specs.PacketVerdict.{is_answer}
use Rattle.dhcp_verdict.proofs.Opened.{answer_test}
use Rattle.dhcp4_msg.specs.declared.message.DhcpV4Message.{DhcpV4Message}
use Rattle.dhcp4_msg.specs.declared.message_type.DhcpV4MessageType.TheVariants.{Nack}
use Rattle.dhcp4_msg.specs.Message.{read_message}
use Rattle.dhcp4_lease.specs.Config.{Config}
use Rattle.dhcp4_lease.specs.Lease.{Lease, read_lease}
use Rattle.dhcp4_client.specs.declared.answer.Answer.TheVariants.{Granted}
use Rattle.dhcp_history.specs.declared.client.Client.{Client}
use Rattle.dhcp4_client.specs.declared.client_state.ClientState.{ClientState}
use Rattle.dhcp4_client.specs.declared.client_state.Exchange.{Exchange}
use Rattle.dhcp4_client.specs.declared.answer.Awaited.{Awaited}
use Rattle.dhcp4_client.specs.declared.answer.Refuser.{Refuser}
use Rattle.dhcp4_client.specs.declared.answer.Refuser.TheVariants.{Nobody, AnyServer, Server}
use Rattle.dhcp4_client.specs.Answer.{awaited, concerning, is_of_type, is_refusal, framed_payload, message_for, payload_by, reading_of}
use Rattle.dhcp4_client.specs.Rules.{protocol}
use Rattle.dhcp4_client.specs.Verdict.{Verdict, always_grants, packet_verdict, verdict_by, verdict_of_grant, verdict_of_message, verdict_of_other, verdict_of_payload, verdict_of_reply}
use Rattle.dhcp4_client.proofs.Granting.{always_granted, not_granted}

-- whether a packet answers whose message this is, with these words
abbrev answering : Option Awaited → Option DhcpV4Message → List ℕ → Bool
answering expected message words = is_some (reading_of expected message words).value

-- the verdict on a packet whose message this is
record Tells (expected : Option Awaited) (message : Option DhcpV4Message) (verdict : Verdict) : Type 0 where
  answers : is_answer verdict ≡ true → (words : List ℕ) → answering expected message words ≡ true
  dropped : is_answer verdict ≡ false → (words : List ℕ) × (answering expected message words ≡ false)

-- a verdict on a packet without such a message
tells_none : (expected : Option Awaited) (verdict : Verdict) → is_answer verdict ≡ false → Tells expected None verdict
tells_none None verdict e = record { answers = λ is. absurd (cc (e, is)); dropped = λ is. ([], refl) }
tells_none (Some awaits) verdict e = record { answers = λ is. absurd (cc (e, is)); dropped = λ is. ([], refl) }

-- a message that is neither of the awaited type nor a refusal is no answer
no_other : (refuser : Refuser) (message : DhcpV4Message) → is_answer (verdict_of_other refuser message) ≡ false
no_other Nobody message = refl
no_other AnyServer message = refl
no_other (Server server) message = by_type (is_of_type Nack message) refl
  where
    by_type : (b : Bool) → is_of_type Nack message ≡ b → is_answer (verdict_of_other (Server server) message) ≡ false
    by_type true e = rw e refl
    by_type false e = rw e refl

some_granted : (lease : Option Lease) → is_some (option_map Granted lease) ≡ is_some lease
some_granted None = refl
some_granted (Some lease) = refl

grant_answers : (message : DhcpV4Message) → is_answer (verdict_of_grant message) ≡ always_grants message
grant_answers message = by_grant (always_grants message) refl
  where
    by_grant : (b : Bool) → always_grants message ≡ b → is_answer (verdict_of_grant message) ≡ always_grants message
    by_grant true e = rw e refl
    by_grant false e = rw e refl

module _ (awaits : Awaited) (xid : ℕ) where
  -- a message with the transaction id
  tells_reply : (message : DhcpV4Message) (is_grant refuses : Bool) → is_of_type awaits.grant message ≡ is_grant → is_refusal awaits.refuser message ≡ refuses →
      Tells (Some awaits) (if is_of_type awaits.grant message || is_refusal awaits.refuser message then Some message else None) (verdict_of_reply awaits message)
  tells_reply message true refuses grant refusal =
      rw grant
      (record {
        answers = λ is words. rw grant (some_granted (read_lease message words).value ∙ always_granted message (sym (grant_answers message) ∙ is) words);
        dropped = λ is. let found = not_granted message (sym (grant_answers message) ∙ is) in (found.0, rw grant (some_granted (read_lease message found.0).value ∙ found.1));
      })
  tells_reply message false true grant refusal = rw (grant, refusal) (record { answers = λ is words. rw grant refl; dropped = λ is. absurd (cc is) })
  tells_reply message false false grant refusal = rw (grant, refusal) (tells_none (Some awaits) (verdict_of_other awaits.refuser message) (no_other awaits.refuser message))

  tells_message : (message : Option DhcpV4Message) → Tells (Some awaits) (message >>= concerning awaits xid) (verdict_of_message awaits xid message)
  tells_message None = tells_none (Some awaits) (verdict_of_message awaits xid None) refl
  tells_message (Some message) = by_id (message.xid == xid) refl
    where
      by_id : (b : Bool) → (message.xid == xid) ≡ b → Tells (Some awaits) (concerning awaits xid message) (verdict_of_message awaits xid (Some message))
      by_id true e = rw e (tells_reply message (is_of_type awaits.grant message) (is_refusal awaits.refuser message) refl refl)
      by_id false e = rw e (tells_none (Some awaits) verdicts.OtherTransactionId refl)

  tells_payload : (payload : Option (List ℕ)) → Tells (Some awaits) (payload >>= read_message >>= concerning awaits xid) (verdict_of_payload awaits xid payload)
  tells_payload None = tells_none (Some awaits) (verdict_of_payload awaits xid None) refl
  tells_payload (Some payload) = tells_message (read_message payload)

  -- a packet that is carried so
  tells_carried : (carrier kind : PacketKind) (bytes : List ℕ) → Tells (Some awaits) (payload_by carrier kind bytes >>= read_message >>= concerning awaits xid)
      (if kinds.ghosts.eq kind carrier then verdict_of_payload awaits xid (payload_by carrier kind bytes) else verdicts.OtherCarrier)
  tells_carried carriers.Frame carriers.Frame bytes = tells_payload (framed_payload bytes)
  tells_carried carriers.Frame carriers.Payload bytes = tells_none (Some awaits) verdicts.OtherCarrier refl
  tells_carried carriers.Payload carriers.Frame bytes = tells_none (Some awaits) verdicts.OtherCarrier refl
  tells_carried carriers.Payload carriers.Payload bytes = tells_payload (Some bytes)

-- a packet for a state that awaits this or nothing
tells_packet : (expected : Option Awaited) (xid : ℕ) (packet : Packet) → Tells expected (message_for expected xid packet) (verdict_by expected xid packet)
tells_packet None xid packet = tells_none None (verdict_by None xid packet) refl
tells_packet (Some awaits) xid packet = tells_carried awaits xid awaits.carrier packet.kind packet.bytes

-- what the verdict on a packet says of its reading
pub verdict_tests : (config : Config) (client : Client ClientState Exchange) (now : ℕ) (packet : Packet) → IsAnswerTest (protocol config) now packet (is_answer (packet_verdict config client now packet)) client
verdict_tests config client now packet = by_open (is_open (protocol config) now client) refl
  where
    told : Tells (awaited config.message_forms client.state) (message_for (awaited config.message_forms client.state) client.standing.exchange.xid packet)
        (verdict_by (awaited config.message_forms client.state) client.standing.exchange.xid packet)
    told = tells_packet (awaited config.message_forms client.state) client.standing.exchange.xid packet

    by_open : (b : Bool) → is_open (protocol config) now client ≡ b → IsAnswerTest (protocol config) now packet (is_answer (packet_verdict config client now packet)) client
    by_open true e = rw e (answer_test (protocol config) now packet client _ (λ is. e) told.answers (λ is going. told.dropped is))
    by_open false e = rw e (answer_test (protocol config) now packet client _ (λ is. absurd (cc is)) (λ is. absurd (cc is)) (λ is going. absurd (cc (e, going))))

-- the same of the verdict that a call found
pub found_tests : (result : Result Verdict ErrorParts) (config : Config) (client : Client ClientState Exchange) (now : ℕ) (packet : Packet) → IfOk result (λ found. found ≡ packet_verdict config client now packet) →
    IfOk result (λ found. IsAnswerTest (protocol config) now packet (is_answer found) client)
found_tests (Ok found) config client now packet is = rw is (verdict_tests config client now packet)
found_tests (Err error) config client now packet is = is
