-- The fields of a lease of an IPv6 script are read in one way alone.
use Rattle.std.proofs.Common.{◌≡◌, ℕ, zero, suc, ◌<◌, ◌≤◌, ◌^◌, Bool, true, false, cond, List, [], ◌∷◌, ◌++◌, slice_index, Some, None, refl, sym, subst, ap, append_assoc, arith, codes}
use Rattle.std.specs.Prelude.{IfSome}
use Rattle.std.specs.Fmt.{decimal}
use Rattle.std.specs.Net.Addr.{IsIpv6Addr, ipv6_octets, ipv6_segments}
use Rattle.std.specs.Str.{bytes_eq}
use Rattle.std.specs.declared.net.Ipv6Addr.{Ipv6Addr}
use Rattle.std.proofs.lemmas.Slice.Eq.{bytes_eq-Decides}
use Rattle.hex.specs.Hex.{IsBytes}
use Rattle.dhcp_stream.specs.HexText.{address6_text, hex_text}
use Rattle.dhcp_stream.specs.TextReader.{address6_in, hex_in, in_field, number_in}
use Rattle.dhcp_stream.proofs.CodecLaws.{HasNo, HasNo-test, IsCodec, IsCodec-as, IsCodec-both, IsCodec-in_field, IsCodec-made_of, IsValue, same_read}
use Rattle.dhcp_stream.proofs.Ipv6Lemmas.{AreOctets-ipv6}
use Rattle.dhcp_stream.proofs.ValueLemmas.{IsValue-address6, IsValue-hex, IsValue-number}
use Rattle.dhcp6_opt.specs.Duid.{written_duid}
use Rattle.dhcp6_opt.specs.Ia.{unspecified}
use Rattle.dhcp6_msg.specs.Lease.{empty_lease}
use Rattle.dhcp6_msg.specs.declared.mode.DhcpV6IaType.{DhcpV6IaType}
use Rattle.dhcp6_msg.specs.declared.mode.DhcpV6IaType.TheVariants.{NonTemporaryAddresses, TemporaryAddresses, PrefixDelegation}
use Rattle.dhcp_script.specs.Field.{unless_none}
use Rattle.dhcp_script.specs.declared.lease6.Lease6.{Lease6}
use Rattle.dhcp_script.specs.declared.lease6.reader.LaterFields.{LaterFields}
use Rattle.dhcp_script.specs.declared.version.Version.{Version}
use Rattle.dhcp_script.specs.declared.version.Version.TheVariants.{One, Later}
use Rattle.dhcp_script.specs.FieldReader.{held_at, three_at}
use Rattle.dhcp_script.specs.Lease6.{HasLeaseText, IsLease6, first_alone, ia_type_text, lease_text, versioned_lease_text}
use Rattle.dhcp_script.specs.Lease6Reader.{association_at, ia_type_in, lease6_at, lease6_of, no_later_fields, server_at, times_at, later_fields_at, later_fields_of}
use Rattle.dhcp_script.specs.Version.{end_of_times}
use Rattle.dhcp_script.proofs.Clear.{HasNo-decimal, HasNo-encode_lower, HasNo-hex_text}
use Rattle.dhcp_script.proofs.HeldLaws.{BeginsOtherwise, IsCodec-held}
use Rattle.dhcp_script.proofs.ValueLaws.{IsCodec-triple, end_of_times-below, u32_field}

-- ---- the type of an association

-- the word that is read is the one that is printed
ia_type_in-sound : (field : List ℕ) (kind : DhcpV6IaType) → ia_type_in field ≡ Some kind → (ia_type_text kind ≡ field) × Unit {0}
ia_type_in-sound field kind h = by_tests kind (bytes_eq field (codes "na")) (bytes_eq field (codes "ta")) (bytes_eq field (codes "pd")) refl refl refl h
  where
    is : (word : List ℕ) → bytes_eq field word ≡ true → word ≡ field
    is word e = sym ((bytes_eq-Decides field word).0 e)

    by_tests : (kind : DhcpV6IaType) (a b c : Bool) → bytes_eq field (codes "na") ≡ a → bytes_eq field (codes "ta") ≡ b → bytes_eq field (codes "pd") ≡ c
        → cond a (Some NonTemporaryAddresses) (cond b (Some TemporaryAddresses) (cond c (Some PrefixDelegation) None)) ≡ Some kind → (ia_type_text kind ≡ field) × Unit {0}
    by_tests NonTemporaryAddresses true b c ea eb ec h = (is (codes "na") ea, tt)
    by_tests TemporaryAddresses true b c ea eb ec h = cc h
    by_tests PrefixDelegation true b c ea eb ec h = cc h
    by_tests TemporaryAddresses false true c ea eb ec h = (is (codes "ta") eb, tt)
    by_tests NonTemporaryAddresses false true c ea eb ec h = cc h
    by_tests PrefixDelegation false true c ea eb ec h = cc h
    by_tests PrefixDelegation false false true ea eb ec h = (is (codes "pd") ec, tt)
    by_tests NonTemporaryAddresses false false true ea eb ec h = cc h
    by_tests TemporaryAddresses false false true ea eb ec h = cc h
    by_tests kind false false false ea eb ec h = cc h

IsValue-ia_type : IsValue ia_type_text (λ kind. Unit {0}) ia_type_in
IsValue-ia_type = record { sound = ia_type_in-sound; complete = λ kind fits. of kind }
  where
    of : (kind : DhcpV6IaType) → ia_type_in (ia_type_text kind) ≡ Some kind
    of NonTemporaryAddresses = refl
    of TemporaryAddresses = refl
    of PrefixDelegation = refl

-- it holds no space and no `o`
HasNo-ia_type : (end : ℕ) → HasNo end (codes "na") → HasNo end (codes "ta") → HasNo end (codes "pd") → (kind : DhcpV6IaType) → HasNo end (ia_type_text kind)
HasNo-ia_type end na ta pd NonTemporaryAddresses = na
HasNo-ia_type end na ta pd TemporaryAddresses = ta
HasNo-ia_type end na ta pd PrefixDelegation = pd

-- ---- the fields

ia_type_field : IsCodec (λ kind. ia_type_text kind ++ 32 ∷ []) (λ kind. Unit {0}) (in_field ia_type_in 32)
ia_type_field =
    IsCodec-in_field IsValue-ia_type 32
    (λ kind fits. HasNo-ia_type 32 (HasNo-test 32 (codes "na") refl) (HasNo-test 32 (codes "ta") refl) (HasNo-test 32 (codes "pd") refl) kind)

pub address6_field : (end : ℕ) → end < 48 → IsCodec (λ address. address6_text address ++ end ∷ []) IsIpv6Addr (in_field address6_in end)
address6_field end below =
    IsCodec-in_field IsValue-address6 end (λ address fits. HasNo-encode_lower end (ipv6_octets address) (AreOctets-ipv6 address fits).1 below)

pub byte_field : IsCodec (λ n. decimal n ++ 32 ∷ []) (λ n. n ≤ 255) (in_field (number_in 255) 32)
byte_field = IsCodec-in_field (IsValue-number 255 (omega arith)) 32 (λ n small. HasNo-decimal 32 n (omega arith) (omega arith))

hex_field : IsCodec (λ bytes. hex_text bytes ++ 32 ∷ []) IsBytes (in_field hex_in 32)
hex_field = IsCodec-in_field IsValue-hex 32 (λ bytes fits. HasNo-hex_text 32 bytes fits (omega arith))

-- ---- the lease

association_print : DhcpV6IaType × ℕ × Ipv6Addr → List ℕ
association_print x = (ia_type_text x.0 ++ 32 ∷ []) ++ ((decimal x.1 ++ 32 ∷ []) ++ (address6_text x.2 ++ 32 ∷ []))

AssociationFits : DhcpV6IaType × ℕ × Ipv6Addr → Type 0
AssociationFits x = Unit {0} × ((x.1 ≤ 4294967295) × IsIpv6Addr x.2)

codec_association : IsCodec association_print AssociationFits association_at
unfolding three_at association_print AssociationFits
codec_association = IsCodec-triple ia_type_field (u32_field 32 (omega arith)) (address6_field 32 (omega arith))

server_print : ℕ × List ℕ → List ℕ
server_print x = (decimal x.0 ++ 32 ∷ []) ++ (hex_text x.1 ++ 32 ∷ [])

ServerFits : ℕ × List ℕ → Type 0
ServerFits x = (x.0 ≤ 255) × IsBytes x.1

codec_server : IsCodec server_print ServerFits server_at
unfolding server_print ServerFits
codec_server = IsCodec-both byte_field hex_field

times_print : Version → (ℕ × ℕ × ℕ) × ℕ → List ℕ
times_print version x =
    ((decimal x.0.0 ++ 32 ∷ []) ++ ((decimal x.0.1 ++ 32 ∷ []) ++ (decimal x.0.2 ++ 32 ∷ []))) ++ (decimal x.1 ++ end_of_times version ∷ [])

TimesFit : (ℕ × ℕ × ℕ) × ℕ → Type 0
TimesFit x = ((x.0.0 ≤ 4294967295) × ((x.0.1 ≤ 4294967295) × (x.0.2 ≤ 4294967295))) × (x.1 ≤ 4294967295)

codec_times : (version : Version) → IsCodec (times_print version) TimesFit (times_at version)
unfolding three_at times_print TimesFit
codec_times version =
    let spaced = u32_field 32 (omega arith) in
    IsCodec-both (IsCodec-triple spaced spaced spaced) (u32_field (end_of_times version) (end_of_times-below version))

later_parts : LaterFields → ℕ × (List ℕ × Ipv6Addr)
later_parts x = (x.xid, (x.cli_duid, x.srv_ip))

later_print : Version → LaterFields → List ℕ
later_print One x = []
later_print Later x = (decimal x.xid ++ 32 ∷ []) ++ ((hex_text x.cli_duid ++ 32 ∷ []) ++ (address6_text x.srv_ip ++ 10 ∷ []))

LaterFits : Version → LaterFields → Type 0
LaterFits One x = x ≡ no_later_fields
LaterFits Later x = (x.xid ≤ 4294967295) × (IsBytes x.cli_duid × IsIpv6Addr x.srv_ip)

codec_later : (version : Version) → IsCodec (later_print version) (LaterFits version) (later_fields_at version)
unfolding later_fields_at later_parts later_print LaterFits
codec_later One = record {
  sound = λ text x rest h. let parts = same_read no_later_fields x text rest h in (parts.1, sym parts.0);
  complete = λ x rest fits. ap (λ (fields : LaterFields). Some (fields, rest)) (sym fits);
}
codec_later Later = IsCodec-made_of (IsCodec-both (u32_field 32 (omega arith)) (IsCodec-both hex_field (address6_field 10 (omega arith)))) later_fields_of later_parts (λ x. refl) (λ y. refl)

-- what a lease has of them
later_in : Lease6 → LaterFields
later_in lease = record { xid = lease.xid; cli_duid = lease.cli_duid; srv_ip = lease.srv_ip }

lease_parts : Lease6 → (DhcpV6IaType × ℕ × Ipv6Addr) × ((ℕ × List ℕ) × (((ℕ × ℕ × ℕ) × ℕ) × LaterFields))
lease_parts lease = (
  (lease.ia_type, lease.iaid, lease.address),
  (
    (lease.prefix_len, lease.srv_duid),
    (((lease.t1_sec, lease.t2_sec, lease.preferred_time_sec), lease.valid_time_sec), later_in lease),
  ),
)

-- the line of a lease, by its parts
lease_line : (version : Version) (lease : Lease6) → List ℕ
lease_line version lease =
    association_print (lease_parts lease).0
    ++ (server_print (lease_parts lease).1.0 ++ (times_print version (lease_parts lease).1.1.0 ++ later_print version (later_in lease)))

lease_line-is : (version : Version) (lease : Lease6) → lease_line version lease ≡ versioned_lease_text version lease ++ 10 ∷ []
unfolding lease_line lease_text lease_parts later_in association_print server_print times_print later_print
lease_line-is One lease = simp append_assoc
lease_line-is Later lease = simp append_assoc

-- the address :: is one
unspecified-fits : IsIpv6Addr unspecified
unspecified-fits = (refl, zero_segment)
  where
    zero_segment : (k : ℕ) → slice_index (ipv6_segments unspecified) k < 2 ^ 16
    zero_segment zero = omega arith
    zero_segment (suc zero) = omega arith
    zero_segment (suc (suc zero)) = omega arith
    zero_segment (suc (suc (suc zero))) = omega arith
    zero_segment (suc (suc (suc (suc zero)))) = omega arith
    zero_segment (suc (suc (suc (suc (suc zero))))) = omega arith
    zero_segment (suc (suc (suc (suc (suc (suc zero)))))) = omega arith
    zero_segment (suc (suc (suc (suc (suc (suc (suc zero))))))) = omega arith
    zero_segment (suc (suc (suc (suc (suc (suc (suc (suc k)))))))) = omega arith

-- no bytes are bytes
none-fits : IsBytes []
none-fits i = omega arith

FirstFits : Lease6 → Type 0
FirstFits lease = AssociationFits (lease_parts lease).0 × (ServerFits (lease_parts lease).1.0 × TimesFit (lease_parts lease).1.1.0)

PartsFit : Version → Lease6 → Type 0
PartsFit version lease =
    AssociationFits (lease_parts lease).0
    × (ServerFits (lease_parts lease).1.0 × (TimesFit (lease_parts lease).1.1.0 × LaterFits version (later_in lease)))

-- a lease whose last fields fit too
made_fit : (lease : Lease6) → FirstFits lease → lease.xid < 2 ^ 32 → IsBytes lease.cli_duid → IsIpv6Addr lease.srv_ip → IsLease6 lease
unfolding FirstFits lease_parts AssociationFits ServerFits TimesFit
made_fit lease first xid cli_duid srv_ip = record {
  iaid = (let small = first.0.1.0 in omega arith);
  address = first.0.1.1;
  prefix_len = (let small = first.1.0.0 in omega arith);
  srv_duid = first.1.0.1;
  t1_sec = (let small = first.1.1.0.0 in omega arith);
  t2_sec = (let small = first.1.1.0.1.0 in omega arith);
  preferred_time_sec = (let small = first.1.1.0.1.1 in omega arith);
  valid_time_sec = (let small = first.1.1.1 in omega arith);
  xid = xid;
  cli_duid = cli_duid;
  srv_ip = srv_ip;
}

fits_to : (version : Version) (lease : Lease6) → PartsFit version lease → HasLeaseText version lease
unfolding PartsFit FirstFits LaterFits lease_parts later_in empty_lease written_duid
fits_to One lease fits =
    let same : lease ≡ first_alone lease = ap (λ (fields : LaterFields). lease6_of ((lease_parts lease).0, ((lease_parts lease).1.0, ((lease_parts lease).1.1.0, fields)))) fits.1.1.1 in
    (subst (λ (l : Lease6). IsLease6 l) (sym same) (made_fit (first_alone lease) (fits.0, (fits.1.0, fits.1.1.0)) (omega arith) none-fits unspecified-fits), same)
fits_to Later lease fits =
    made_fit lease (fits.0, (fits.1.0, fits.1.1.0)) (let small = fits.1.1.1.0 in omega arith) fits.1.1.1.1.0 fits.1.1.1.1.1

first_from : (lease : Lease6) → IsLease6 lease → FirstFits lease
unfolding FirstFits lease_parts AssociationFits ServerFits TimesFit
first_from lease fits = (
  (tt, ((let small = fits.iaid in omega arith), fits.address)),
  (
    ((let small = fits.prefix_len in omega arith), fits.srv_duid),
    (
      ((let small = fits.t1_sec in omega arith), ((let small = fits.t2_sec in omega arith), (let small = fits.preferred_time_sec in omega arith))),
      (let small = fits.valid_time_sec in omega arith),
    ),
  ),
)

fits_from : (version : Version) (lease : Lease6) → HasLeaseText version lease → PartsFit version lease
unfolding PartsFit FirstFits LaterFits later_in empty_lease written_duid
fits_from One lease fits =
    let first = first_from lease fits.0 in (first.0, (first.1.0, (first.1.1, ap later_in fits.1)))
fits_from Later lease fits =
    let first = first_from lease fits in
    (first.0, (first.1.0, (first.1.1, ((let small = fits.xid in omega arith), (fits.cli_duid, fits.srv_ip)))))

-- the line of a lease
pub IsCodec-lease : (version : Version) → IsCodec (λ lease. versioned_lease_text version lease ++ 10 ∷ []) (HasLeaseText version) (lease6_at version)
unfolding lease6_at lease_parts later_in lease_line PartsFit
IsCodec-lease version =
    IsCodec-as
    (IsCodec-made_of (IsCodec-both codec_association (IsCodec-both codec_server (IsCodec-both (codec_times version) (codec_later version)))) lease6_of lease_parts (λ x. refl) (λ y. refl))
    (lease_line-is version) (fits_to version) (fits_from version)

-- the text of a lease begins with the type of its association
begins_with : (version : Version) (lease : Lease6) → (more : List ℕ) × (versioned_lease_text version lease ≡ ia_type_text lease.ia_type ++ 32 ∷ more)
unfolding lease_text
begins_with One lease = (_, refl)
begins_with Later lease = (_, refl)

-- which holds no `o`
begins : (version : Version) (lease : Lease6) → HasLeaseText version lease → BeginsOtherwise (versioned_lease_text version lease)
begins version lease fits =
    let front = begins_with version lease in
    record {
      field = ia_type_text lease.ia_type;
      more = front.0;
      is = front.1;
      clear = HasNo-ia_type 111 (HasNo-test 111 (codes "na") refl) (HasNo-test 111 (codes "ta") refl) (HasNo-test 111 (codes "pd") refl) lease.ia_type;
    }

-- a lease or the word `none`, to the end of the line
pub IsCodec-held_lease : (version : Version) → IsCodec (λ o. unless_none (versioned_lease_text version) o ++ 10 ∷ []) (λ o. IfSome o (HasLeaseText version)) (held_at (lease6_at version))
IsCodec-held_lease version = IsCodec-held (IsCodec-lease version) (begins version)
