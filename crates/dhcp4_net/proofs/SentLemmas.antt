-- What a client sends grants nothing: its frames go to another port, and its payloads are no Acks.
use Rattle.std.proofs.Common.{◌≡◌, ℕ, zero, suc, ◌<◌, ◌≤◌, ◌^◌, List, [], length, replicate, slice_index, refl, sym, ap, arith, Bool, true, false, ◌∙◌, subst, lit<, IsTrue, append-nil, length-append}
use Rattle.std.specs.Prelude.{Option, Some, None, ◌==◌, ◌||◌, if◌then◌else◌}
use Rattle.std.specs.Net.Addr.{IsIpv4Addr, ipv4_bits, ipv4_octets}
use Rattle.dhcp_wire.specs.Field.{◌>>=◌}
use Rattle.std.specs.declared.net.Ipv4Addr.{Ipv4Addr}
use Rattle.dhcp_clock.specs.declared.link.Handed.TheVariants as handed
use Rattle.dhcp_clock.specs.declared.link.Packet.{Packet}
use Rattle.dhcp_frame.specs.View.{read_frame}
use Rattle.dhcp_frame.specs.Write.{frame_bytes}
use Rattle.dhcp_frame.specs.declared.frame.Frame.{Frame}
use Rattle.dhcp_frame.proofs.Back.{read_frame-frame_bytes}
use Rattle.dhcp4_msg.specs.declared.message.DhcpV4Message.{DhcpV4Message}
use Rattle.dhcp4_msg.specs.declared.message_type.DhcpV4MessageType.TheVariants.{Request, Release, Offer, Ack}
use Rattle.dhcp4_msg.specs.MessageType.{type_number}
use Rattle.dhcp4_msg.specs.Laws.{MessageReadsBack, read_back}
use Rattle.dhcp4_msg.specs.Message.{no_address, read_message, written_message}
use Rattle.dhcp4_msg.proofs.MessageLaw.{message_back}
use Rattle.dhcp4_lease.specs.declared.message_table.Row.{Row}
use Rattle.dhcp4_lease.specs.declared.message_forms.DhcpV4MessageForms.{DhcpV4MessageForms}
use Rattle.dhcp4_lease.specs.declared.message_forms.DhcpV4MessageForms.TheVariants.{Mozim, Rfc2131}
use Rattle.dhcp4_lease.specs.Config.{Config, is_within_limits}
use Rattle.dhcp4_lease.specs.Laws.{IsRow, IsTyped}
use Rattle.dhcp4_lease.specs.Lease.{Lease}
use Rattle.dhcp4_lease.specs.MessageTable as table
use Rattle.dhcp4_lease.proofs.BuiltMessages.{no_address_is, row_reads_back}
use Rattle.dhcp4_lease.proofs.ShortMessages.{row_is_short}
use Rattle.dhcp4_client.specs.Answer.{payload_to_client, is_of_type}
use Rattle.dhcp4_client.specs.Message.{attempt_message, broadcast, everyone, frame, framed_release, held_release, message_bytes, payload_release, renewal, renewal_of, renewal_server, release_server}
use Rattle.dhcp4_client.specs.declared.client_state.ClientState.{ClientState}
use Rattle.dhcp4_client.specs.declared.client_state.ClientState.TheVariants as states
use Rattle.dhcp4_client.specs.Rules.{held_lease}
use Rattle.dhcp4_server.specs.Request.{CanBeAnswered, message_to_server, payload_to_server}
use Rattle.dhcp4_net.specs.Grants.{GrantsNothing, HoldsWhole, IsAnswerable, IsSound, IsWhole, grant_in, grant_of, is_offer_or_ack, message_in, packet_of}
use Rattle.dhcp4_net.proofs.OptionLemmas.{other_type, type_of_row}
use Rattle.dhcp4_net.proofs.AnswerLemmas.{second_of_two}

-- a packet without a message grants nothing
pub no_message_sound : (lease_sec : ℕ) (packet : Packet) → message_in packet ≡ None → IsAnswerable packet → IsSound lease_sec packet
no_message_sound lease_sec packet none answerable = record {
  addresses = λ message is kind. absurd (cc (none, is));
  lease = λ message is kind. absurd (cc (none, is));
  answerable = answerable;
}

pub no_message_grants : (packet : Packet) → message_in packet ≡ None → grant_of packet ≡ None
unfolding grant_of
no_message_grants packet none = ap (λ (found : Option DhcpV4Message). found >>= grant_in) none

-- nor does one whose message is neither an Offer nor an Ack
pub other_sound : (lease_sec : ℕ) (packet : Packet) (one : DhcpV4Message) → message_in packet ≡ Some one → is_offer_or_ack one ≡ false → IsAnswerable packet → IsSound lease_sec packet
other_sound lease_sec packet one found other answerable = record {
  addresses = λ message is kind. absurd (clash (ap is_offer_or_ack (same message is)) kind);
  lease = λ message is kind. absurd (clash (ap is_offer_or_ack (same message is)) (second_of_two (is_of_type Offer message) (is_of_type Ack message) kind));
  answerable = answerable;
}
  where
    same : (message : DhcpV4Message) → message_in packet ≡ Some message → one ≡ message
    same message is = cc (found, is)

    clash : {b : Bool} → is_offer_or_ack one ≡ b → b ≡ true → ⊥
    clash e t = cc (other, e, t)

not_ack : (a b : Bool) → (a || b) ≡ false → b ≡ false
not_ack true b e = absurd (cc e)
not_ack false b e = e

pub other_grants : (packet : Packet) (one : DhcpV4Message) → message_in packet ≡ Some one → is_offer_or_ack one ≡ false → grant_of packet ≡ None
unfolding grant_of
other_grants packet one found other =
    ap (λ (read : Option DhcpV4Message). read >>= grant_in) found
    ∙ ap (λ (test : Bool). if test then Some (record { xid = one.xid; address = ipv4_bits one.yiaddr }) else None) (not_ack (is_of_type Offer one) (is_of_type Ack one) other)

-- 255.255.255.255 is an address
pub everyone_is : IsIpv4Addr everyone
everyone_is = (refl, small)
  where
    small : (k : ℕ) → slice_index (ipv4_octets everyone) k < 2 ^ 8
    small zero = lit< tt
    small (suc zero) = lit< tt
    small (suc (suc zero)) = lit< tt
    small (suc (suc (suc zero))) = lit< tt
    small (suc (suc (suc (suc k)))) = lit< tt

-- messages read back as they are written
back : (message : DhcpV4Message) → MessageReadsBack message → read_message (written_message message) ≡ Some (read_back message)
back message reads = subst (λ (bytes : List ℕ). read_message bytes ≡ Some (read_back message)) (append-nil (written_message message)) (message_back message [] reads)

-- the rows are those of IPv4 addresses
discover_is : IsRow table.discover
discover_is = record { ciaddr = no_address_is; requested = tt; server = tt }

request_is : (lease : Lease) → IsWhole lease → IsRow (table.request lease)
request_is lease whole = record { ciaddr = no_address_is; requested = whole.yiaddr; server = whole.server }

reboot_is : (lease : Lease) → IsWhole lease → IsRow (table.reboot lease)
reboot_is lease whole = record { ciaddr = no_address_is; requested = whole.yiaddr; server = tt }

extend_is : (forms : DhcpV4MessageForms) (lease : Lease) → IsWhole lease → IsRow (table.extend forms lease)
extend_is Mozim lease whole = record { ciaddr = whole.yiaddr; requested = whole.yiaddr; server = whole.server }
extend_is Rfc2131 lease whole = record { ciaddr = whole.yiaddr; requested = tt; server = tt }

release_is : (forms : DhcpV4MessageForms) (lease : Lease) → IsWhole lease → IsRow (table.release forms lease)
release_is Mozim lease whole = record { ciaddr = no_address_is; requested = whole.yiaddr; server = whole.server }
release_is Rfc2131 lease whole = record { ciaddr = whole.yiaddr; requested = tt; server = whole.server }

request_other : ((type_number Request == type_number Offer) || (type_number Request == type_number Ack)) ≡ false
unfolding type_number
request_other = refl

release_other : ((type_number Release == type_number Offer) || (type_number Release == type_number Ack)) ≡ false
unfolding type_number
release_other = refl

-- by either form a renewal is a Request and a release a Release
extend_other : (forms : DhcpV4MessageForms) (lease : Lease) → ((type_number (table.extend forms lease).message_type == type_number Offer) || (type_number (table.extend forms lease).message_type == type_number Ack)) ≡ false
extend_other Mozim lease = request_other
extend_other Rfc2131 lease = request_other

row_release_other : (forms : DhcpV4MessageForms) (lease : Lease) → ((type_number (table.release forms lease).message_type == type_number Offer) || (type_number (table.release forms lease).message_type == type_number Ack)) ≡ false
row_release_other Mozim lease = release_other
row_release_other Rfc2131 lease = release_other

module _ (config : Config) (within : IsTrue (is_within_limits config)) (typed : IsTyped config) (xid : ℕ) (small : xid < 2 ^ 32) where
  -- the message of a row reads back, and a server can answer it
  row_back : (one : Row) → IsRow one → read_message (message_bytes xid config one) ≡ Some (read_back (table.table_message xid config one))
  row_back one is = row_reads_back back config one within typed is xid small

  row_answered : (one : Row) → CanBeAnswered (read_back (table.table_message xid config one))
  unfolding table.table_message
  row_answered one = record { xid = small; chaddr = omega (arith, typed.src_mac, length-append config.src_mac (replicate 10 0)) }

  -- a broadcast has no message for a client
  broadcast_row : (one : Row) → IsRow one → GrantsNothing (broadcast config (message_bytes xid config one))
  broadcast_row one is =
      let payload : List ℕ = message_bytes xid config one in
      let sent : Frame = frame config (replicate 6 255) no_address everyone payload in
      let short : length payload ≤ 1027 = row_is_short config one within typed is xid in
      let read : read_frame (frame_bytes sent) ≡ Some sent =
      read_frame-frame_bytes sent (record { destination = refl; source = typed.src_mac }) (record { source = no_address_is; destination = everyone_is })
      (record { source = lit< tt; destination = lit< tt }) (omega (arith, short)) in
      let packet : Packet = packet_of (broadcast config payload) in
      let none : message_in packet ≡ None = ap (λ (found : Option Frame). found >>= payload_to_client >>= read_message) read in
      let to_server_is : message_to_server packet ≡ Some (read_back (table.table_message xid config one)) =
      ap (λ (found : Option Frame). found >>= payload_to_server >>= read_message) read ∙ row_back one is in
      let answerable : IsAnswerable packet = λ message found. subst CanBeAnswered (cc (to_server_is, found)) (row_answered one) in
      record { none = no_message_grants packet none; sound = λ lease_sec. no_message_sound lease_sec packet none answerable }

  -- a payload with the message of a row that is neither an Offer nor an Ack
  payload_nothing : (here there : Ipv4Addr) (one : Row) → IsRow one → ((type_number one.message_type == type_number Offer) || (type_number one.message_type == type_number Ack)) ≡ false →
      GrantsNothing (handed.Udp4 here there (message_bytes xid config one))
  payload_nothing here there one is other =
      let packet : Packet = packet_of (handed.Udp4 here there (message_bytes xid config one)) in
      let reply : DhcpV4Message = read_back (table.table_message xid config one) in
      let found : read_message (message_bytes xid config one) ≡ Some reply = row_back one is in
      let kind : is_offer_or_ack reply ≡ false = other_type reply one.message_type (type_of_row xid config one) other in
      let answerable : IsAnswerable packet = λ message read. subst CanBeAnswered (cc (found, read)) (row_answered one) in
      record { none = other_grants packet reply found kind; sound = λ lease_sec. other_sound lease_sec packet reply found kind answerable }

  renewal_nothing : (lease : Lease) → IsWhole lease → GrantsNothing (renewal_of config lease (message_bytes xid config (table.extend config.message_forms lease)))
  renewal_nothing lease whole = go (renewal_server config.message_forms lease)
    where
      go : (server : Option Ipv4Addr) → GrantsNothing (renewal config lease server (message_bytes xid config (table.extend config.message_forms lease)))
      go None = broadcast_row (table.extend config.message_forms lease) (extend_is config.message_forms lease whole)
      go (Some server) = payload_nothing lease.yiaddr server (table.extend config.message_forms lease) (extend_is config.message_forms lease whole) (extend_other config.message_forms lease)

  -- each message of an attempt, and the release of a lease, grants nothing
  pub attempt_nothing : (state : ClientState) → HoldsWhole state → GrantsNothing (attempt_message xid config state)
  attempt_nothing states.InitReboot whole = broadcast_row table.discover discover_is
  attempt_nothing (states.Selecting offer) whole = broadcast_row (table.request offer) (request_is offer whole)
  attempt_nothing (states.Rebooting held) whole = broadcast_row (table.reboot held) (reboot_is held whole)
  attempt_nothing (states.Done bound) whole = renewal_nothing bound.lease whole
  attempt_nothing (states.Renewing bound) whole = renewal_nothing bound.lease whole
  attempt_nothing (states.Rebinding bound) whole = broadcast_row (table.extend config.message_forms bound.lease) (extend_is config.message_forms bound.lease whole)

  pub release_nothing : config.is_proxy ≡ false → (lease : Lease) → IsWhole lease → GrantsNothing (held_release xid config lease)
  release_nothing no_proxy lease whole =
      subst (λ (proxy : Bool). GrantsNothing (if proxy then framed_release xid config lease else payload_release xid config lease lease)) (sym no_proxy)
      (payload_nothing lease.yiaddr (release_server config.message_forms lease.siaddr lease) (table.release config.message_forms lease) (release_is config.message_forms lease whole) (row_release_other config.message_forms lease))

-- the lease of a state whose lease is whole is whole
pub held_whole : (state : ClientState) (lease : Lease) → HoldsWhole state → held_lease state ≡ Some lease → IsWhole lease
held_whole states.InitReboot lease whole is = absurd (cc is)
held_whole (states.Selecting offer) lease whole is = absurd (cc is)
held_whole (states.Rebooting held) lease whole is = subst IsWhole (cc is) whole
held_whole (states.Done bound) lease whole is = subst IsWhole (cc is) whole
held_whole (states.Renewing bound) lease whole is = subst IsWhole (cc is) whole
held_whole (states.Rebinding bound) lease whole is = subst IsWhole (cc is) whole
