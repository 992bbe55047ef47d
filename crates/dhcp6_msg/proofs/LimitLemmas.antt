-- A lease that is read from a payload is one that a client may hold.
use Rattle.std.proofs.Common.{◌≡◌, ◌⊎◌, inl, inr, ℕ, ◌≤◌, Bool, true, false, not, cond, eqb, List, [], ◌∷◌, length, IsTrue, Option, Some, None, unwrap_or, option_map, Result, Ok, Err, refl, sym, ap, subst, ◌∙◌, arith}
use Rattle.std.specs.List.{cons_option, filter, filter_map}
use Rattle.std.specs.Int.{w8, w16, w32, w128}
use Rattle.std.proofs.lemmas.Bool.{and_from, and_parts, le-leb}
use Rattle.std.proofs.lemmas.Option.{none-some, same_Some, option_and_then_some}
use Rattle.dhcp_wire.specs.declared.error.ErrorKind.{ErrorKind}
use Rattle.dhcp_wire.specs.declared.error.ErrorKind.TheVariants.{InvalidDhcpMessage, NoLease}
use Rattle.dhcp_wire.specs.Field.{bytes_at, number_at}
use Rattle.dhcp_wire.specs.RawOption.{RawOptionParts, raw_options}
use Rattle.dhcp_wire.specs.declared.raw_option.OptionFormat.TheVariants.{DhcpV6}
use Rattle.dhcp_wire.proofs.FieldLemmas.{mapped}
use Rattle.dhcp6_opt.specs.declared.duid.DhcpV6Duid.{DhcpV6Duid}
use Rattle.dhcp6_opt.specs.declared.duid.DhcpV6Duid.TheVariants.{LinkLayerAddressPlusTime, EnterpriseNumber, LinkLayerAddress, UUID, Raw}
use Rattle.dhcp6_opt.specs.declared.option.DhcpV6Option.{DhcpV6Option}
use Rattle.dhcp6_opt.specs.declared.option.DhcpV6Option.TheVariants as options
use Rattle.dhcp6_opt.specs.Duid.{duid_in, enterprise_in, link_layer_in, link_layer_time_in, no_duid, typed_duid, uuid_in, written_duid}
use Rattle.dhcp6_opt.specs.declared.ia.DhcpV6OptionIaNa.{DhcpV6OptionIaNa}
use Rattle.dhcp6_opt.specs.declared.ia.DhcpV6OptionIaTa.{DhcpV6OptionIaTa}
use Rattle.dhcp6_opt.specs.declared.ia.pd.DhcpV6OptionIaPd.{DhcpV6OptionIaPd}
use Rattle.dhcp6_opt.specs.declared.ia.address.DhcpV6OptionIaAddr.{DhcpV6OptionIaAddr}
use Rattle.dhcp6_opt.specs.declared.ia.prefix.DhcpV6OptionIaPrefix.{DhcpV6OptionIaPrefix}
use Rattle.dhcp6_opt.specs.Ia.{is_delegated, is_granted, unspecified}
use Rattle.dhcp6_opt.specs.Status.{is_no_failure}
use Rattle.dhcp6_opt.specs.OptionCode.{code_of, number_of}
use Rattle.dhcp6_opt.specs.OptionIndex.{has_number}
use Rattle.dhcp6_opt.specs.Options.{OptionLists, first_in, first_of, read_options, reading_of}
use Rattle.dhcp6_opt.specs.Said.{ia_na_said, said_by, server_id_said, status_said}
use Rattle.dhcp6_opt.specs.Value.{has_short_value, option_code, said_in, value_of}
use Rattle.dhcp6_opt.proofs.OptionReadLemmas.{options_under-read_options}
use Rattle.dhcp6_opt.proofs.ValueLemmas.{fits-value_of, option_number-value_of, server_is_short}
use Rattle.dhcp6_msg.specs.declared.lease.terms.LeaseTerms.{LeaseTerms}
use Rattle.dhcp6_msg.specs.declared.message.DhcpV6Message.{DhcpV6Message}
use Rattle.dhcp6_msg.specs.declared.mode.DhcpV6IaType.TheVariants as types
use Rattle.dhcp6_msg.specs.Lease.{Lease, granted_lease, is_duid, is_grant, is_no_duid, is_typed, is_unspecified, is_within_limits, lease_of, no_terms, read_lease, terms_of, with_na, with_na_address, with_pd, with_pd_prefix, with_ta, with_ta_address}
use Rattle.dhcp6_msg.specs.Message.{read_message}
use Rattle.dhcp6_msg.specs.MessageType.{type_of}
use Rattle.dhcp6_msg.proofs.LeaseLemmas.{granted-grant}

-- what a type reads is not kept as its bytes alone
not_raw : (kind : ℕ) (rest bytes : List ℕ) → typed_duid kind rest ≡ Some (Raw bytes) → ⊥
not_raw kind rest bytes is = by_kind (eqb kind 1) (eqb kind 2) (eqb kind 3) (eqb kind 4) is
  where
    number : (b : Bool) (uuid : ℕ) → (let read : Option DhcpV6Duid = cond b (Some (UUID uuid)) None in read) ≡ Some (Raw bytes) → ⊥
    number true uuid is = cc
    number false uuid is = cc

    by_kind : (one two three four : Bool) → cond one (link_layer_time_in rest) (cond two (enterprise_in rest) (cond three (link_layer_in rest) (cond four (uuid_in rest) None))) ≡ Some (Raw bytes) → ⊥
    by_kind true two three four is = option_and_then_some _ (number_at w16 rest) _ is (λ type at_type then_time. option_and_then_some _ (number_at w32 type.1) _ then_time (λ time at_time made. cc))
    by_kind false true three four is = option_and_then_some _ (number_at w32 rest) _ is (λ number at_number made. cc)
    by_kind false false true four is = option_and_then_some _ (number_at w16 rest) _ is (λ type at_type made. cc)
    by_kind false false false true is = option_and_then_some _ (number_at w128 rest) _ is (λ uuid at_uuid made. number (eqb (length uuid.1) 0) uuid.0 made)
    by_kind false false false false is = cc

-- two bytes are there where a number of two bytes is
two_bytes : (bytes : List ℕ) (read : ℕ × List ℕ) → number_at w16 bytes ≡ Some read → 2 ≤ length bytes
unfolding bytes_at
two_bytes [] read is = cc
two_bytes (a ∷ []) read is = cc
two_bytes (a ∷ b ∷ bytes) read is = omega arith

-- an identifier that was read has two bytes or more
duid_has_type : (bytes : List ℕ) (duid : DhcpV6Duid) → duid_in bytes ≡ Some duid → 2 ≤ length (written_duid duid)
unfolding duid_in written_duid
duid_has_type bytes duid is =
    option_and_then_some _ (number_at w16 bytes) _ is (λ kind at_kind made.
    kept (typed_duid kind.0 kind.1) duid (λ raw typed. not_raw kind.0 kind.1 raw typed) (two_bytes bytes kind at_kind) (same_Some _ _ made))
  where
    long : (duid : DhcpV6Duid) → ((raw : List ℕ) → duid ≡ Raw raw → ⊥) → 2 ≤ length (written_duid duid)
    long (LinkLayerAddressPlusTime duid) other = omega arith
    long (EnterpriseNumber duid) other = omega arith
    long (LinkLayerAddress duid) other = omega arith
    long (UUID duid) other = omega arith
    long (Raw raw) other = absurd (other raw refl)

    alone : 2 ≤ length bytes → 2 ≤ length (written_duid (Raw bytes))
    alone enough = enough

    kept : (typed : Option DhcpV6Duid) (duid : DhcpV6Duid) → ((raw : List ℕ) → typed ≡ Some (Raw raw) → ⊥) → 2 ≤ length bytes → unwrap_or typed (Raw bytes) ≡ duid → 2 ≤ length (written_duid duid)
    kept None duid other enough is = subst (λ duid. 2 ≤ length (written_duid duid)) is (alone enough)
    kept (Some typed) duid other enough is = subst (λ duid. 2 ≤ length (written_duid duid)) is (long typed (λ raw same. other raw (ap Some same)))

-- what was kept is what was read
kept_option : (b : Bool) (option kept : DhcpV6Option) → (let read : Option DhcpV6Option = cond b (Some option) None in read) ≡ Some kept → option ≡ kept
kept_option true option kept is = same_Some _ _ is
kept_option false option kept is = absurd (none-some _ is)

-- the identifier of option 2 as it reads
server_of_value : (value : List ℕ) (duid : DhcpV6Duid) → value_of (code_of 2) value ≡ Some (options.ServerId duid) → 2 ≤ length (written_duid duid)
unfolding value_of said_in code_of number_of
server_of_value value duid is =
    option_and_then_some _ (option_map options.ServerId (duid_in value)) _ is (λ option at_option kept.
    let found = mapped options.ServerId (duid_in value) option at_option in
    let same : options.ServerId found.0 ≡ options.ServerId duid = found.2 ∙ kept_option (has_short_value option) option (options.ServerId duid) kept in
    duid_has_type value duid (found.1 ∙ ap Some (same_server found.0 duid same)))
  where
    same_server : (a b : DhcpV6Duid) → options.ServerId a ≡ options.ServerId b → a ≡ b
    same_server a b is = cc

-- whatever raw option it was read from, it can be sent
server_of_raw : (raw : RawOptionParts) (duid : DhcpV6Duid) → reading_of raw ≡ Some (options.ServerId duid) → IsTrue (is_duid duid)
unfolding option_code number_of
server_of_raw raw duid is =
    let number : 2 ≡ raw.code = option_number-value_of raw.code raw.value (options.ServerId duid) is in
    let long : 2 ≤ length (written_duid duid) = server_of_value raw.value duid (ap (λ code. value_of (code_of code) raw.value) number ∙ is) in
    let short : length (written_duid duid) ≤ 65535 = server_is_short duid (fits-value_of raw.code raw.value (options.ServerId duid) is) in
    and_from _ _ (le-leb _ _ long) (le-leb _ _ short)

-- an option that was read from some raw option
abbrev IsReading : DhcpV6Option → Type 0
IsReading option = (raw : RawOptionParts) × (reading_of raw ≡ Some option)

-- the first option of a number is one
first_reading : (n : ℕ) (raws : List RawOptionParts) (option : DhcpV6Option) → first_in (filter (has_number n) (filter_map reading_of raws)) ≡ Some option → IsReading option
first_reading n [] option is = absurd (none-some _ is)
first_reading n (raw ∷ raws) option is = by_reading (λ later. first_reading n raws option later) (reading_of raw) refl is
  where
    by_number : (first_in (filter (has_number n) (filter_map reading_of raws)) ≡ Some option → IsReading option) → (b : Bool) (found : DhcpV6Option) → reading_of raw ≡ Some found → first_in (cond b (found ∷ filter (has_number n) (filter_map reading_of raws)) (filter (has_number n) (filter_map reading_of raws))) ≡ Some option → IsReading option
    by_number later true found read is = (raw, read ∙ is)
    by_number later false found read is = later is

    by_reading : (first_in (filter (has_number n) (filter_map reading_of raws)) ≡ Some option → IsReading option) → (read : Option DhcpV6Option) → reading_of raw ≡ read → first_in (filter (has_number n) (cons_option read (filter_map reading_of raws))) ≡ Some option → IsReading option
    by_reading later None read is = later is
    by_reading later (Some found) read is = by_number later (has_number n found) found read is

-- which option names a server
server_id_said_is : (option : DhcpV6Option) (duid : DhcpV6Duid) → server_id_said option ≡ Some duid → option ≡ options.ServerId duid
server_id_said_is (options.ServerId server) duid is = ap options.ServerId (same_Some _ _ is)
server_id_said_is (options.ClientId x) duid is = cc
server_id_said_is (options.IANA x) duid is = cc
server_id_said_is (options.IATA x) duid is = cc
server_id_said_is (options.IAPD x) duid is = cc
server_id_said_is (options.OptionRequestOption x) duid is = cc
server_id_said_is (options.IAAddr x) duid is = cc
server_id_said_is (options.IAPrefix x) duid is = cc
server_id_said_is (options.Preference x) duid is = cc
server_id_said_is (options.ElapsedTime x) duid is = cc
server_id_said_is (options.ServerUnicast x) duid is = cc
server_id_said_is (options.StatusCode x) duid is = cc
server_id_said_is options.RapidCommit duid is = cc
server_id_said_is (options.DnsServers x) duid is = cc
server_id_said_is (options.DomainList x) duid is = cc
server_id_said_is (options.NtpServer x) duid is = cc
server_id_said_is (options.Unknown x) duid is = cc

-- the server of a list of options, if it has one, has an identifier that can be sent
server_of_bytes : (bytes : List ℕ) → IsTrue (not (is_no_duid (unwrap_or (said_by server_id_said (read_options bytes) 2) no_duid))) → IsTrue (is_duid (unwrap_or (said_by server_id_said (read_options bytes) 2) no_duid))
server_of_bytes bytes some = by_said (said_by server_id_said (read_options bytes) 2) refl some
  where
    by_said : (said : Option DhcpV6Duid) → said_by server_id_said (read_options bytes) 2 ≡ said → IsTrue (not (is_no_duid (unwrap_or said no_duid))) → IsTrue (is_duid (unwrap_or said no_duid))
    by_said None is some = cc
    by_said (Some duid) is some =
        option_and_then_some _ (first_of (read_options bytes) 2) _ is (λ option at_option says.
        let listed = sym (ap first_in (options_under-read_options bytes 2)) ∙ at_option in
        let read = first_reading 2 (raw_options DhcpV6 bytes) option listed in
        server_of_raw read.0 duid (read.1 ∙ ap Some (server_id_said_is option duid says)))

-- ---- the type of an association

-- terms whose address is not :: have a type
abbrev IsTyped : LeaseTerms → Type 0
IsTyped terms = IsTrue (is_typed terms.ia_type) ⊎ (terms.address ≡ unspecified)

na_keeps_type : (terms : LeaseTerms) (ia : DhcpV6OptionIaNa) (address : Option DhcpV6OptionIaAddr) → (with_na_address terms ia address).ia_type ≡ terms.ia_type
na_keeps_type terms ia None = refl
na_keeps_type terms ia (Some address) = refl

ta_keeps_type : (terms : LeaseTerms) (ia : DhcpV6OptionIaTa) (address : Option DhcpV6OptionIaAddr) → (with_ta_address terms ia address).ia_type ≡ terms.ia_type
ta_keeps_type terms ia None = refl
ta_keeps_type terms ia (Some address) = refl

pd_keeps_type : (terms : LeaseTerms) (ia : DhcpV6OptionIaPd) (prefix : Option DhcpV6OptionIaPrefix) → (with_pd_prefix terms ia prefix).ia_type ≡ terms.ia_type
pd_keeps_type terms ia None = refl
pd_keeps_type terms ia (Some prefix) = refl

-- of two terms with types, either has one
either : (b : Bool) (one other : LeaseTerms) → IsTrue (is_typed one.ia_type) → IsTrue (is_typed other.ia_type) → IsTrue (is_typed (let terms : LeaseTerms = cond b one other in terms).ia_type)
either true one other first second = first
either false one other first second = second

na_typed : (terms : LeaseTerms) (said : Option DhcpV6OptionIaNa) → IsTyped terms → IsTyped (with_na terms said)
unfolding with_na
na_typed terms None typed = typed
na_typed terms (Some ia) typed =
    let of_type : LeaseTerms = record terms { ia_type = Some types.NonTemporaryAddresses } in
    inl (either (is_granted ia.address ia.status) (with_na_address of_type ia ia.address) of_type (ap is_typed (na_keeps_type of_type ia ia.address)) refl)

ta_typed : (terms : LeaseTerms) (said : Option DhcpV6OptionIaTa) → IsTyped terms → IsTyped (with_ta terms said)
unfolding with_ta
ta_typed terms None typed = typed
ta_typed terms (Some ia) typed =
    let of_type : LeaseTerms = record terms { ia_type = Some types.TemporaryAddresses } in
    inl (either (is_granted ia.address ia.status) (with_ta_address of_type ia ia.address) of_type (ap is_typed (ta_keeps_type of_type ia ia.address)) refl)

pd_typed : (terms : LeaseTerms) (said : Option DhcpV6OptionIaPd) → IsTyped terms → IsTyped (with_pd terms said)
unfolding with_pd
pd_typed terms None typed = typed
pd_typed terms (Some ia) typed =
    let of_type : LeaseTerms = record terms { ia_type = Some types.PrefixDelegation } in
    inl (either (is_delegated ia.prefix ia.status) (with_pd_prefix of_type ia ia.prefix) of_type (ap is_typed (pd_keeps_type of_type ia ia.prefix)) refl)

terms_typed : (options : OptionLists) → IsTyped (terms_of options)
unfolding terms_of
terms_typed options = pd_typed _ _ (ta_typed _ _ (na_typed no_terms (said_by ia_na_said options 3) (inr refl)))

-- where the address is not ::, the type is there
typed_if_specified : (terms : LeaseTerms) → IsTyped terms → IsTrue (not (is_unspecified terms.address)) → IsTrue (is_typed terms.ia_type)
typed_if_specified terms (inl typed) some = typed
typed_if_specified terms (inr none) some = absurd (no (subst (λ address. IsTrue (not (is_unspecified address))) none some))
  where
    no : IsTrue false → ⊥
    no is = cc

-- ---- the law

-- the options of a message that was read are those of some bytes
options_of_payload : (payload : List ℕ) (message : DhcpV6Message) → read_message payload ≡ Some message → (bytes : List ℕ) × (read_options bytes ≡ message.options)
unfolding read_message
options_of_payload payload message is =
    option_and_then_some _ (number_at w8 payload) _ is (λ number at_number then_type.
    option_and_then_some _ (type_of number.0) _ then_type (λ kind at_kind then_id.
    option_and_then_some _ (bytes_at 3 number.1) _ then_id (λ xid at_xid made.
    (xid.1, ap (λ (message : DhcpV6Message). message.options) (same_Some _ _ made)))))

-- a message that grants a lease grants its own
own_lease : (message : DhcpV6Message) (lease : Lease) → read_lease message ≡ Ok lease → granted_lease (lease_of message) ≡ Ok lease
unfolding read_lease
own_lease message lease is = by_status (is_no_failure (said_by status_said message.options 13)) is
  where
    by_status : (b : Bool) → (let result : Result Lease ErrorKind = cond b (granted_lease (lease_of message)) (Err NoLease) in result) ≡ Ok lease → granted_lease (lease_of message) ≡ Ok lease
    by_status true is = is
    by_status false is = cc

-- a lease that was granted is the one that it was granted of
same_lease : (b : Bool) (own lease : Lease) → (let result : Result Lease ErrorKind = cond b (Ok own) (Err InvalidDhcpMessage) in result) ≡ Ok lease → own ≡ lease
same_lease true own lease is = same own lease is
  where
    same : (a b : Lease) → (let one : Result Lease ErrorKind = Ok a in one) ≡ Ok b → a ≡ b
    same a b is = cc
same_lease false own lease is = cc

pub within_limits : (payload : List ℕ) (message : DhcpV6Message) (lease : Lease) → read_message payload ≡ Some message → read_lease message ≡ Ok lease → IsTrue (is_within_limits lease)
unfolding is_within_limits
within_limits payload message lease reads grants =
    let granted = own_lease message lease grants in
    let same : lease_of message ≡ lease = same_lease (is_grant (lease_of message)) (lease_of message) lease granted in
    let grant : IsTrue (is_grant (lease_of message)) = subst (λ lease. IsTrue (is_grant lease)) (sym same) (granted-grant (lease_of message) lease granted) in
    let parts = and_parts _ _ grant in
    let first = and_parts _ _ parts.0 in
    let bytes = options_of_payload payload message reads in
    let server : IsTrue (is_duid (lease_of message).srv_duid) =
    subst (λ options. IsTrue (not (is_no_duid (unwrap_or (said_by server_id_said options 2) no_duid))) → IsTrue (is_duid (unwrap_or (said_by server_id_said options 2) no_duid)))
    bytes.1 (server_of_bytes bytes.0) first.1 in
    let typed : IsTrue (is_typed (lease_of message).ia_type) = typed_if_specified (terms_of message.options) (terms_typed message.options) parts.1 in
    subst (λ lease. IsTrue (is_within_limits lease)) same (and_from _ _ (and_from _ _ (and_from _ _ first.0 parts.1) typed) server)
