-- What a client reads of a packet.
use Rattle.std.proofs.lemmas.Bool.Decides.{nat_tests}
use Rattle.std.proofs.Common.{◌≡◌, ℕ, List, arith, refl, sym, ap, Bool, true, false, ◌∙◌, subst}
use Rattle.std.specs.Prelude.{Option, Some, None, option_map, unwrap_or, ◌==◌, ◌&&◌, ◌||◌, if◌then◌else◌}
use Rattle.std.specs.Net.Addr.{IsIpv4Addr, ipv4_bits}
use Rattle.std.specs.declared.net.Ipv4Addr.{Ipv4Addr}
use Rattle.dhcp_wire.specs.Field.{◌>>=◌}
use Rattle.dhcp_clock.specs.declared.link.Packet.{Packet}
use Rattle.dhcp_clock.specs.declared.link.PacketKind.{PacketKind}
use Rattle.dhcp_clock.specs.declared.link.PacketKind.TheVariants as kinds
use Rattle.dhcp4_msg.specs.declared.message.DhcpV4Message.{DhcpV4Message}
use Rattle.dhcp4_msg.specs.declared.message_type.DhcpV4MessageType.TheVariants.{Ack}
use Rattle.dhcp4_msg.specs.Message.{no_address, read_message}
use Rattle.dhcp4_msg.specs.Options.{OptionMap, said_by}
use Rattle.dhcp4_msg.specs.Value.{address_said, seconds_said}
use Rattle.dhcp4_lease.specs.Lease.{Lease, are_in_order, lease_of, ordered_times, read_lease, read_times, times_of}
use Rattle.dhcp4_lease.specs.MessageTable.{is_unspecified}
use Rattle.dhcp4_lease.specs.declared.lease.times.LeaseTimes.{LeaseTimes}
use Rattle.dhcp4_lease.proofs.BuiltMessages.{no_address_is}
use Rattle.dhcp4_client.specs.Answer.{answer_of, concerning, concerns, is_of_type, is_refusal, message_for, payload_by, payload_in, reading_of}
use Rattle.dhcp4_client.specs.declared.answer.Answer.TheVariants.{Granted}
use Rattle.dhcp4_client.specs.declared.answer.Awaited.{Awaited}
use Rattle.dhcp4_net.specs.Grants.{HasAddresses, IsGrantedBy, IsSound, IsWhole, grant_in, grant_of, is_offer_or_ack, message_in}

pub record Bound {A B : Type 0} (read : Option A) (next : A → Option B) (y : B) : Type 0 where
  pub value : A
  pub is : read ≡ Some value
  pub next_is : next value ≡ Some y

pub bind_some : {A B : Type 0} (read : Option A) (next : A → Option B) (y : B) → (read >>= next) ≡ Some y → Bound read next y
bind_some None next y e = absurd (cc e)
bind_some (Some x) next y e = record { value = x; is = refl; next_is = e }

pub if_some : {A : Type 0} (b : Bool) (x y : A) → (if b then Some x else None) ≡ Some y → (b ≡ true) × (x ≡ y)
if_some true x y e = (refl, cc e)
if_some false x y e = absurd (cc e)

-- the payload of a packet that is carried as it is awaited is its payload
same_payload : (carrier kind : PacketKind) (bytes payload : List ℕ) → payload_by carrier kind bytes ≡ Some payload → payload_by kind kind bytes ≡ Some payload
same_payload kinds.Frame kinds.Frame bytes payload e = e
same_payload kinds.Frame kinds.Payload bytes payload e = absurd (cc e)
same_payload kinds.Payload kinds.Frame bytes payload e = absurd (cc e)
same_payload kinds.Payload kinds.Payload bytes payload e = e

-- the message that concerns an attempt is that of the packet, and has its transaction id
pub record IsFor (awaited : Awaited) (xid : ℕ) (packet : Packet) (message : DhcpV4Message) : Type 0 where
  pub read : message_in packet ≡ Some message
  pub concerns : concerns awaited xid message ≡ true

pub message_is_for : (awaited : Awaited) (xid : ℕ) (packet : Packet) (message : DhcpV4Message) → message_for (Some awaited) xid packet ≡ Some message → IsFor awaited xid packet message
message_is_for awaited xid packet message e =
    let read : Bound (payload_in awaited.carrier packet >>= read_message) (concerning awaited xid) message = bind_some (payload_in awaited.carrier packet >>= read_message) (concerning awaited xid) message e in
    let payload : Bound (payload_in awaited.carrier packet) read_message read.value = bind_some (payload_in awaited.carrier packet) read_message read.value read.is in
    let kept : (concerns awaited xid read.value ≡ true) × (read.value ≡ message) = if_some (concerns awaited xid read.value) read.value message read.next_is in
    let own : payload_in packet.kind packet ≡ Some payload.value = same_payload awaited.carrier packet.kind packet.bytes payload.value payload.is in
    record {
      read = ap (λ (found : Option (List ℕ)). found >>= read_message) own ∙ payload.next_is ∙ ap (λ (one : DhcpV4Message). Some one) kept.1;
      concerns = ap (λ (one : DhcpV4Message). concerns awaited xid one) (sym kept.1) ∙ kept.0;
    }

pub both_true : (a b : Bool) → (a && b) ≡ true → (a ≡ true) × (b ≡ true)
both_true true b e = (refl, e)
both_true false b e = absurd (cc e)

-- a packet that grants a lease has a message of the awaited type, which grants it
pub record IsRead (awaited : Awaited) (xid : ℕ) (packet : Packet) (words : List ℕ) (lease : Lease) : Type 0 where
  pub message : DhcpV4Message
  pub is_for : IsFor awaited xid packet message
  pub kind : is_of_type awaited.grant message ≡ true
  pub lease_is : (read_lease message words).value ≡ Some lease

granted_some : (found : Option Lease) (lease : Lease) → option_map Granted found ≡ Some (Granted lease) → found ≡ Some lease
granted_some None lease e = absurd (cc e)
granted_some (Some one) lease e = cc e

pub answer_is_read : (awaited : Awaited) (xid : ℕ) (packet : Packet) (words : List ℕ) (lease : Lease) →
    (reading_of (Some awaited) (message_for (Some awaited) xid packet) words).value ≡ Some (Granted lease) → IsRead awaited xid packet words lease
answer_is_read awaited xid packet words lease e = go (message_for (Some awaited) xid packet) refl e
  where
    by_type : (message : DhcpV4Message) → message_for (Some awaited) xid packet ≡ Some message → (test : Bool) → is_of_type awaited.grant message ≡ test →
        (answer_of awaited message words).value ≡ Some (Granted lease) → IsRead awaited xid packet words lease
    by_type message found true kind e = record {
      message = message;
      is_for = message_is_for awaited xid packet message found;
      kind = kind;
      lease_is = granted_some (read_lease message words).value lease (rw kind at e);
    }
    by_type message found false kind e = absurd (cc (rw kind at e))

    go : (found : Option DhcpV4Message) → message_for (Some awaited) xid packet ≡ found → (reading_of (Some awaited) found words).value ≡ Some (Granted lease) → IsRead awaited xid packet words lease
    go None found e = absurd (cc e)
    go (Some message) found e = by_type message found (is_of_type awaited.grant message) refl e

-- the times of a message have its lease time
times_said : (options : OptionMap) (words : List ℕ) (times : LeaseTimes) → (read_times options words).value ≡ Some times → said_by seconds_said options 51 ≡ Some times.lease_time_sec
unfolding read_times times_of
times_said options words times e = go (said_by seconds_said options 51) refl e
  where
    go : (said : Option ℕ) → said_by seconds_said options 51 ≡ said → (ordered_times options words said).value ≡ Some times → said_by seconds_said options 51 ≡ Some times.lease_time_sec
    go None is e = absurd (cc e)
    go (Some lease_time) is e =
        let same : (times_of options lease_time words).value ≡ times = (if_some (are_in_order (times_of options lease_time words).value) (times_of options lease_time words).value times e).1 in
        is ∙ ap (λ (all : LeaseTimes). Some all.lease_time_sec) same

-- what a lease has of its message
pub record IsLeaseOf (message : DhcpV4Message) (lease : Lease) : Type 0 where
  pub times : LeaseTimes
  pub is : lease_of message times ≡ lease
  pub said : said_by seconds_said message.options 51 ≡ Some lease.lease_time_sec

pub lease_is_of : (message : DhcpV4Message) (words : List ℕ) (lease : Lease) → (read_lease message words).value ≡ Some lease → IsLeaseOf message lease
lease_is_of message words lease e = go (read_times message.options words).value refl e
  where
    go : (found : Option LeaseTimes) → (read_times message.options words).value ≡ found → option_map (lease_of message) found ≡ Some lease → IsLeaseOf message lease
    go None is e = absurd (cc e)
    go (Some times) is e =
        let same : lease_of message times ≡ lease = cc e in
        record {
          times = times;
          is = same;
          said = times_said message.options words times is ∙ ap (λ (one : Lease). Some one.lease_time_sec) same;
        }

-- the lease of a message with such addresses has such addresses
pub lease_whole : (message : DhcpV4Message) (lease : Lease) → IsLeaseOf message lease → HasAddresses message → IsWhole lease
lease_whole message lease has addresses = subst IsWhole has.is (record { yiaddr = addresses.yiaddr; server = go (is_unspecified (lease_of message has.times).srv_id) })
  where
    server_is : (said : Option Ipv4Addr) → said_by address_said message.options 54 ≡ said → IsIpv4Addr (unwrap_or said no_address)
    server_is None is = no_address_is
    server_is (Some address) is = addresses.server address is

    go : (test : Bool) → IsIpv4Addr (if test then (lease_of message has.times).siaddr else (lease_of message has.times).srv_id)
    go true = addresses.siaddr
    go false = server_is (said_by address_said message.options 54) refl

same_number : (a b : ℕ) → (a == b) ≡ true → a ≡ b
same_number a b e = grind (arith, nat_tests)

-- what a sound packet grants: an Ack its address, for its lease time
pub read_granted : (lease_sec : ℕ) (awaited : Awaited) (xid : ℕ) (packet : Packet) (words : List ℕ) (lease : Lease) → IsSound lease_sec packet → awaited.grant ≡ Ack → IsRead awaited xid packet words lease → IsGrantedBy lease_sec xid packet lease
unfolding grant_of
read_granted lease_sec awaited xid packet words lease sound grants read =
    let message : DhcpV4Message = read.message in
    let has : IsLeaseOf message lease = lease_is_of message words lease read.lease_is in
    let is_ack : is_of_type Ack message ≡ true = subst (λ kind. is_of_type kind message ≡ true) grants read.kind in
    let own : message.xid ≡ xid = same_number message.xid xid (both_true (message.xid == xid) (is_of_type awaited.grant message || is_refusal awaited.refuser message) read.is_for.concerns).0 in
    let said : Some lease.lease_time_sec ≡ Some lease_sec = sym has.said ∙ sound.lease message read.is_for.read is_ack in
    record {
      grant = ap (λ (found : Option DhcpV4Message). found >>= grant_in) read.is_for.read
          ∙ ap (λ (test : Bool). if test then Some (record { xid = message.xid; address = ipv4_bits message.yiaddr }) else None) is_ack
          ∙ ap (λ (id : ℕ). Some (record { xid = id; address = ipv4_bits message.yiaddr })) own
          ∙ ap (λ (one : Lease). Some (record { xid = xid; address = ipv4_bits one.yiaddr })) has.is;
      time = cc said;
    }

-- and its lease is whole, as is the offer of an Offer
pub read_whole : (lease_sec : ℕ) (awaited : Awaited) (xid : ℕ) (packet : Packet) (words : List ℕ) (lease : Lease) → IsSound lease_sec packet → (read : IsRead awaited xid packet words lease) → is_offer_or_ack read.message ≡ true → IsWhole lease
read_whole lease_sec awaited xid packet words lease sound read kind =
    lease_whole read.message lease (lease_is_of read.message words lease read.lease_is) (sound.addresses read.message read.is_for.read kind)

pub first_of_two : (a b : Bool) → a ≡ true → (a || b) ≡ true
first_of_two true b e = refl
first_of_two false b e = absurd (cc e)

pub second_of_two : (a b : Bool) → b ≡ true → (a || b) ≡ true
second_of_two true b e = refl
second_of_two false b e = e
