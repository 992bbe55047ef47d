-- The server grants an address only where it is free, and what it sends is sound.
use Rattle.std.proofs.Common.{◌≡◌, ℕ, ◌<◌, ◌≤◌, ◌^◌, List, length, refl, sym, ap, arith, Bool, true, false, inl, inr, ◌∙◌, subst, lit<}
use Rattle.std.specs.Prelude.{Option, Some, None, option_map, ◌==◌, ◌&&◌, ◌||◌, if◌then◌else◌}
use Rattle.std.specs.FinMap.{get}
use Rattle.std.specs.Ordering.{nat_cmp, eq_by_cmp}
use Rattle.std.specs.Net.Addr.{IsIpv4Addr, ipv4_bits}
use Rattle.std.specs.declared.net.Ipv4Addr.{Ipv4Addr}
use Rattle.std.proofs.lemmas.Bool.Decides.{nat_tests}
use Rattle.dhcp_wire.specs.Field.{◌>>=◌}
use Rattle.dhcp_clock.specs.declared.link.Packet.{Packet}
use Rattle.dhcp_clock.specs.declared.link.PacketKind.{PacketKind}
use Rattle.dhcp_clock.specs.declared.link.PacketKind.TheVariants as kinds
use Rattle.dhcp_frame.specs.View.{read_frame}
use Rattle.dhcp_frame.specs.Write.{frame_bytes}
use Rattle.dhcp_frame.specs.declared.frame.Frame.{Frame}
use Rattle.dhcp_frame.proofs.Back.{read_frame-frame_bytes}
use Rattle.dhcp4_server.specs.Ack.{Ack, is_free, last_ack}
use Rattle.dhcp4_server.specs.declared.decision.Query.{Query}
use Rattle.dhcp4_server.specs.declared.decision.Query.TheVariants as asks
use Rattle.dhcp4_server.specs.declared.decision.Decision.{Decision}
use Rattle.dhcp4_server.specs.declared.decision.Decision.TheVariants as decisions
use Rattle.dhcp4_server.specs.Decision.{Pool, decide, grant_if, is_in_pool, is_to, lowest, offer_or}
use Rattle.dhcp4_msg.specs.declared.message.DhcpV4Message.{DhcpV4Message}
use Rattle.dhcp4_msg.specs.declared.message_type.DhcpV4MessageType.{DhcpV4MessageType}
use Rattle.dhcp4_msg.specs.declared.message_type.DhcpV4MessageType.TheVariants as types
use Rattle.dhcp4_msg.specs.declared.option.DhcpV4Option.{DhcpV4Option}
use Rattle.dhcp4_msg.specs.declared.option.DhcpV4Option.TheVariants.{IpAddressLeaseTime, MessageType, ServerIdentifier}
use Rattle.dhcp4_msg.specs.Laws.{read_back, with_names}
use Rattle.dhcp4_msg.specs.Message.{no_address, read_message, written_message}
use Rattle.dhcp4_msg.specs.MessageType.{type_number}
use Rattle.dhcp4_msg.specs.Options.{message_type, said_by}
use Rattle.dhcp4_msg.specs.Value.{address_said, seconds_said, type_said}
use Rattle.dhcp4_client.specs.Answer.{is_of_type, payload_to_client}
use Rattle.dhcp4_server.specs.Answer.{Answer as Served, answer_to as serve, answer_query, answer_decided, answer_message}
use Rattle.dhcp4_server.specs.Reply.{address_of_bits, granting, granting_options, packet_of, refusing, refusing_options, reply_frame}
use Rattle.dhcp4_server.specs.Request.{CanBeAnswered, query_of, message_to_server, payload_to_server}
use Rattle.dhcp4_server.specs.Config.{is_lawful, kept_ms, pool_of}
use Rattle.dhcp4_server.specs.declared.config.ServerConfig.{ServerConfig}
use Rattle.dhcp4_server.specs.Config.{IsTyped}
use Rattle.dhcp4_server.proofs.ReplyLemmas.{HasFields, address_is, bits_of_address, granting_back, granting_lease, granting_says, granting_server, granting_short, granting_type, look, no_options, refusing_back, refusing_says, refusing_short, refusing_type, reply_answered, reply_fields}
use Rattle.dhcp4_net.specs.Grants.{HasAddresses, IsAnswerable, IsSound, grant_in, grant_of, is_offer_or_ack, message_in}
use Rattle.dhcp4_net.specs.OneAddress.{ServesBy, ServesSoundly}
use Rattle.dhcp4_net.proofs.AnswerLemmas.{both_true}
use Rattle.dhcp4_net.proofs.OptionLemmas.{get-options_read_back, other_type}
use Rattle.dhcp4_net.proofs.SentLemmas.{everyone_is, other_grants, other_sound}

-- what is granted is in the pool, and free
record IsGrant (kept : ℕ) (pool : Pool) (acks : List Ack) (xid now address : ℕ) : Type 0 where
  in_pool : is_in_pool pool address ≡ true
  free : is_free kept acks xid address now ≡ true

decided_grant : (kept : ℕ) (pool : Pool) (acks : List Ack) (xid now : ℕ) (asked : Query) (address : ℕ) → decide kept pool acks xid now asked ≡ decisions.Grant address → IsGrant kept pool acks xid now address
decided_grant kept pool acks xid now asks.Discover address e =
    absurd (offers (lowest (λ a. is_to (last_ack a acks) xid) pool.first pool.count) (lowest (λ a. is_free kept acks xid a now) pool.first pool.count) e)
  where
    offers : (own free : Option ℕ) → offer_or own free ≡ decisions.Grant address → ⊥
    offers None None e = cc e
    offers None (Some one) e = cc e
    offers (Some own) free e = cc e
decided_grant kept pool acks xid now (asks.Request wanted) address e = go (is_in_pool pool wanted && is_free kept acks xid wanted now) refl e
  where
    go : (test : Bool) → (is_in_pool pool wanted && is_free kept acks xid wanted now) ≡ test → grant_if test wanted ≡ decisions.Grant address → IsGrant kept pool acks xid now address
    go false t e = absurd (cc e)
    go true t e =
        let same : wanted ≡ address = cc e in
        let parts : (is_in_pool pool wanted ≡ true) × (is_free kept acks xid wanted now ≡ true) = both_true (is_in_pool pool wanted) (is_free kept acks xid wanted now) t in
        subst (IsGrant kept pool acks xid now) same (record { in_pool = parts.0; free = parts.1 })

-- an address of the pool is a number of 32 bits
in_pool_small : (config : ServerConfig) (address : ℕ) → is_lawful config ≡ true → is_in_pool (pool_of config) address ≡ true → address < 2 ^ 32
in_pool_small config address lawful inside = grind (arith, nat_tests)

module _ (config : ServerConfig) (typed : IsTyped config) where
  -- 1. A reply as a client reads it, and as the server itself would.
  frame_read : (payload : List ℕ) → length payload ≤ 300 → read_frame (frame_bytes (reply_frame config payload)) ≡ Some (reply_frame config payload)
  frame_read payload short =
      read_frame-frame_bytes (reply_frame config payload) (record { destination = refl; source = typed.mac }) (record { source = typed.ip; destination = everyone_is })
      (record { source = lit< tt; destination = lit< tt }) (omega (arith, short))

  carried_in : (kind : PacketKind) (message found : DhcpV4Message) → length (written_message message) ≤ 300 → read_message (written_message message) ≡ Some found → message_in (packet_of config kind message) ≡ Some found
  carried_in kinds.Frame message found short read = ap (λ (sent : Option Frame). sent >>= payload_to_client >>= read_message) (frame_read (written_message message) short) ∙ read
  carried_in kinds.Payload message found short read = read

  carried_answerable : (kind : PacketKind) (message found : DhcpV4Message) → length (written_message message) ≤ 300 → read_message (written_message message) ≡ Some found → CanBeAnswered found → IsAnswerable (packet_of config kind message)
  carried_answerable kinds.Frame message found short read can one is =
      absurd (none_is_some (ap (λ (sent : Option Frame). sent >>= payload_to_server >>= read_message) (frame_read (written_message message) short)) is)
    where
      none_is_some : {o : Option DhcpV4Message} → o ≡ None → o ≡ Some one → ⊥
      none_is_some e f = cc (e, f)
  carried_answerable kinds.Payload message found short read can one is = subst CanBeAnswered (cc (read, is)) can

  -- 2. An Offer and an Ack.
  module _ (message : DhcpV4Message) (can : CanBeAnswered message) (kind : PacketKind) (type : DhcpV4MessageType) (address : ℕ) where
    abbrev reply : DhcpV4Message
    reply = granting config message type address

    abbrev found : DhcpV4Message
    found = read_back reply

    abbrev packet : Packet
    packet = packet_of config kind reply

    found_in : message_in packet ≡ Some found
    found_in = carried_in kind reply found (granting_short config typed message type address can) (granting_back config typed message type address can)

    same_found : (one : DhcpV4Message) → message_in packet ≡ Some one → found ≡ one
    same_found one is = cc (found_in, is)

    says : (q : ℕ) (option : DhcpV4Option) → eq_by_cmp nat_cmp q 255 ≡ false → look (granting_options config type) (get no_options q) q ≡ Some option → get found.options q ≡ Some (with_names option)
    says q option other looked =
        get-options_read_back reply.options q other
        ∙ ap (λ (one : Option DhcpV4Option). option_map with_names one) (granting_says config message type address q ∙ looked)

    found_type : message_type found.options ≡ Some type
    unfolding message_type
    found_type = ap (λ (one : Option DhcpV4Option). one >>= type_said) (says 53 (MessageType type) refl (granting_type config type (get no_options 53)))

    found_lease : said_by seconds_said found.options 51 ≡ Some config.lease_sec
    found_lease = ap (λ (one : Option DhcpV4Option). one >>= seconds_said) (says 51 (IpAddressLeaseTime config.lease_sec) refl (granting_lease config type (get no_options 51)))

    found_server : said_by address_said found.options 54 ≡ Some config.ip
    found_server = ap (λ (one : Option DhcpV4Option). one >>= address_said) (says 54 (ServerIdentifier config.ip) refl (granting_server config type (get no_options 54)))

    fields : HasFields message found (address_of_bits address) config.ip
    fields = reply_fields message (address_of_bits address) config.ip (granting_options config type)

    found_addresses : HasAddresses found
    found_addresses = record {
      yiaddr = subst IsIpv4Addr (sym fields.yiaddr_is) (address_is address);
      siaddr = subst IsIpv4Addr (sym fields.siaddr_is) typed.ip;
      server = λ one is. subst IsIpv4Addr (cc (found_server, is)) typed.ip;
    }

    reply_sound : IsSound config.lease_sec packet
    reply_sound = record {
      addresses = λ one is offers. subst HasAddresses (same_found one is) found_addresses;
      lease = λ one is acks. subst (λ (each : DhcpV4Message). said_by seconds_said each.options 51 ≡ Some config.lease_sec) (same_found one is) found_lease;
      answerable = carried_answerable kind reply found (granting_short config typed message type address can) (granting_back config typed message type address can)
          (reply_answered message (address_of_bits address) config.ip (granting_options config type) can);
    }

    is_type : (other : DhcpV4MessageType) → is_of_type other found ≡ (type_number type == type_number other)
    is_type other = rw found_type

    grants_if : (test : Bool) → is_of_type types.Ack found ≡ test → grant_of packet ≡ (if test then Some (record { xid = found.xid; address = ipv4_bits found.yiaddr }) else None)
    unfolding grant_of
    grants_if test is = ap (λ (one : Option DhcpV4Message). one >>= grant_in) found_in ∙ ap (λ (b : Bool). if b then Some (record { xid = found.xid; address = ipv4_bits found.yiaddr }) else None) is

  offer_is_no_ack : (type_number types.Offer == type_number types.Ack) ≡ false
  unfolding type_number
  offer_is_no_ack = refl

  ack_is_ack : (type_number types.Ack == type_number types.Ack) ≡ true
  unfolding type_number
  ack_is_ack = refl

  nack_is_neither : ((type_number types.Nack == type_number types.Offer) || (type_number types.Nack == type_number types.Ack)) ≡ false
  unfolding type_number
  nack_is_neither = refl

  offer_denies : (message : DhcpV4Message) (can : CanBeAnswered message) (kind : PacketKind) (address : ℕ) → grant_of (packet_of config kind (granting config message types.Offer address)) ≡ None
  offer_denies message can kind address = grants_if message can kind types.Offer address false (is_type message can kind types.Offer address types.Ack ∙ offer_is_no_ack)

  ack_grants : (message : DhcpV4Message) (can : CanBeAnswered message) (kind : PacketKind) (address : ℕ) → address < 2 ^ 32 →
      grant_of (packet_of config kind (granting config message types.Ack address)) ≡ Some (record { xid = message.xid; address = address })
  ack_grants message can kind address small =
      let has : HasFields message (found message can kind types.Ack address) (address_of_bits address) config.ip = fields message can kind types.Ack address in
      grants_if message can kind types.Ack address true (is_type message can kind types.Ack address types.Ack ∙ ack_is_ack)
      ∙ ap (λ (id : ℕ). Some (record { xid = id; address = ipv4_bits (found message can kind types.Ack address).yiaddr })) has.xid
      ∙ ap (λ (one : Ipv4Addr). Some (record { xid = message.xid; address = ipv4_bits one })) has.yiaddr_is
      ∙ ap (λ (bits : ℕ). Some (record { xid = message.xid; address = bits })) (bits_of_address address small)

  -- 3. A Nack.
  module _ (message : DhcpV4Message) (can : CanBeAnswered message) (kind : PacketKind) where
    nack_in : message_in (packet_of config kind (refusing config message)) ≡ Some (read_back (refusing config message))
    nack_in = carried_in kind (refusing config message) (read_back (refusing config message)) (refusing_short config typed message can) (refusing_back config typed message can)

    nack_type : message_type (read_back (refusing config message)).options ≡ Some types.Nack
    unfolding message_type
    nack_type = ap (λ (one : Option DhcpV4Option). one >>= type_said)
        (get-options_read_back (refusing config message).options 53 refl
        ∙ ap (λ (one : Option DhcpV4Option). option_map with_names one) (refusing_says config message 53 ∙ refusing_type config (get no_options 53)))

    nack_other : is_offer_or_ack (read_back (refusing config message)) ≡ false
    nack_other = other_type (read_back (refusing config message)) types.Nack nack_type nack_is_neither

    nack_sound : IsSound config.lease_sec (packet_of config kind (refusing config message))
    nack_sound = other_sound config.lease_sec (packet_of config kind (refusing config message)) (read_back (refusing config message)) nack_in nack_other
        (carried_answerable kind (refusing config message) (read_back (refusing config message)) (refusing_short config typed message can) (refusing_back config typed message can)
        (reply_answered message no_address no_address (refusing_options config) can))

    nack_denies : grant_of (packet_of config kind (refusing config message)) ≡ None
    nack_denies = other_grants (packet_of config kind (refusing config message)) (read_back (refusing config message)) nack_in nack_other

  -- 4. The server.
  module _ (lawful : is_lawful config ≡ true) where
    abbrev By : List Ack → ℕ → Served → Type 0
    By acks now served = ServesBy (kept_ms config) config.lease_sec acks now served.reply served.acks

    decided : (acks : List Ack) (now : ℕ) (kind : PacketKind) (message : DhcpV4Message) → CanBeAnswered message → (asked : Query) (decision : Decision) →
        decide (kept_ms config) (pool_of config) acks message.xid now asked ≡ decision → By acks now (answer_decided config acks now kind message decision)
    decided acks now kind message can asked decisions.Silence e = refl
    decided acks now kind message can asked (decisions.Offer address) e =
        (reply_sound message can kind types.Offer address, inr (record { none = offer_denies message can kind address; unchanged = refl }))
    decided acks now kind message can asked (decisions.Grant address) e =
        let grant : IsGrant (kept_ms config) (pool_of config) acks message.xid now address = decided_grant (kept_ms config) (pool_of config) acks message.xid now asked address e in (
          reply_sound message can kind types.Ack address,
          inl (record {
            xid = message.xid;
            address = address;
            grant = ack_grants message can kind address (in_pool_small config address lawful grant.in_pool);
            free = grant.free;
            noted = refl;
          }),
        )
    decided acks now kind message can asked decisions.Refuse e = (nack_sound message can kind, inr (record { none = nack_denies message can kind; unchanged = refl }))

    asked_serves : (acks : List Ack) (now : ℕ) (kind : PacketKind) (message : DhcpV4Message) → CanBeAnswered message → (asked : Option Query) → By acks now (answer_query config acks now kind message asked)
    asked_serves acks now kind message can None = refl
    asked_serves acks now kind message can (Some asked) = decided acks now kind message can asked (decide (kept_ms config) (pool_of config) acks message.xid now asked) refl

    message_serves : (acks : List Ack) (now : ℕ) (kind : PacketKind) (read : Option DhcpV4Message) → ((message : DhcpV4Message) → read ≡ Some message → CanBeAnswered message) → By acks now (answer_message config acks now kind read)
    message_serves acks now kind None can = refl
    message_serves acks now kind (Some message) can = asked_serves acks now kind message (can message refl) (query_of config message)

    pub serves_soundly : ServesSoundly (kept_ms config) config.lease_sec (serve config)
    serves_soundly acks now packet answerable = message_serves acks now packet.kind (message_to_server packet) answerable
