-- Statuses, addresses and associations read back as they are written.
use Rattle.std.proofs.Common.{◌≡◌, ℕ, ◌+◌, ◌<◌, ◌≤◌, ◌^◌, true, false, cond, eqb, List, [], ◌∷◌, ◌++◌, append-nil, length, length-append, Option, Some, None, option_map, IfSome, refl, sym, ap, ◌∙◌, arith}
use Rattle.std.specs.Int.{w16, w32, to_be_bytes}
use Rattle.std.specs.Net.Addr.{ipv6_octets}
use Rattle.std.proofs.lemmas.Bool.{eq-eqb}
use Rattle.std.proofs.lemmas.Option.{none-some}
use Rattle.dhcp_wire.specs.Field.{◌>>=◌, text_of}
use Rattle.dhcp_wire.specs.RawOption.{RawOptionParts, raw_option_at}
use Rattle.dhcp_wire.specs.declared.raw_option.OptionFormat.TheVariants.{DhcpV6}
use Rattle.dhcp_wire.proofs.FieldLaws.{big_endian_16, big_endian_32, ipv6_address_at-octets, number_at-byte, number_at-to_be_bytes}
use Rattle.dhcp_wire.proofs.RawOptionLemmas.{raw_option_at-nil, raw_option_at-written_raw_option}
use Rattle.dhcp_wire.proofs.Utf8.{text_of_utf8}
use Rattle.dhcp6_opt.specs.AddressKind.{AddressKind}
use Rattle.dhcp6_opt.specs.declared.ia.DhcpV6OptionIaNa.{DhcpV6OptionIaNa}
use Rattle.dhcp6_opt.specs.declared.ia.DhcpV6OptionIaTa.{DhcpV6OptionIaTa}
use Rattle.dhcp6_opt.specs.declared.ia.address.DhcpV6OptionIaAddr.{DhcpV6OptionIaAddr}
use Rattle.dhcp6_opt.specs.declared.ia.inside.InsideIa.{InsideIa}
use Rattle.dhcp6_opt.specs.declared.ia.pd.DhcpV6OptionIaPd.{DhcpV6OptionIaPd}
use Rattle.dhcp6_opt.specs.declared.ia.prefix.DhcpV6OptionIaPrefix.{DhcpV6OptionIaPrefix}
use Rattle.dhcp6_opt.specs.declared.status.DhcpV6OptionStatus.{DhcpV6OptionStatus}
use Rattle.dhcp6_opt.specs.declared.status.DhcpV6OptionStatusCode.{DhcpV6OptionStatusCode}
use Rattle.dhcp6_opt.specs.declared.status.DhcpV6OptionStatusCode.TheVariants.{Success, UnspecFail, NoAddrsAvail, NoBinding, NotOnLink, UseMulticast, NoPrefixAvail, Other}
use Rattle.dhcp6_opt.specs.Ia.{address_kind, ia_address_in, ia_na_in, ia_pd_in, ia_prefix_in, ia_ta_in, inside_in, nothing_inside, prefix_kind, with_inner, written_address_option, written_ia_address, written_ia_na, written_ia_pd, written_ia_prefix, written_ia_ta, written_prefix_option}
use Rattle.dhcp6_opt.specs.Laws.{AddressHasWidths, AddressIsInRange, HasOwnNumber, IaNaHasWidths, IaPdHasWidths, IaTaHasWidths, PrefixHasWidths, PrefixIsInRange, StatusHasWidths, StatusIsInRange}
use Rattle.dhcp6_opt.specs.Status.{status_after, status_in, status_number, status_of, written_status, written_status_option}
use Rattle.dhcp6_opt.specs.Written.{as_option, if_some}
use Rattle.dhcp6_opt.proofs.CodeLemmas.{status_number-status_of}
use Rattle.dhcp6_opt.proofs.InsideLemmas.{inside_after, inside_end, inside_more}
use Rattle.dhcp6_opt.proofs.WrittenLemmas.{length-as_option, written_ia_address-parts}

-- ---- what is written as an option

-- it is found at the front, whatever follows it
pub raw_option_at-as_option : (code : ℕ) (value rest : List ℕ) → code < 2 ^ 16 → length value < 2 ^ 16 → raw_option_at DhcpV6 (as_option code value ++ rest) ≡ Some (record { code = code; value = value }, rest)
unfolding as_option
raw_option_at-as_option code value rest small short =
    raw_option_at-written_raw_option DhcpV6 (record { code = code; value = value }) rest (record { code = small; length = short; alone = λ never. absurd (none_alone never) })
  where
    none_alone : false ≡ true → ⊥
    none_alone is = cc

-- ---- statuses

-- the code of a number that no name has is Other
other_status : (number : ℕ) (code : DhcpV6OptionStatusCode) → 7 ≤ number → status_number code ≡ number → code ≡ Other number
unfolding status_number
other_status number Success large is = absurd (omega (arith, large, is))
other_status number UnspecFail large is = absurd (omega (arith, large, is))
other_status number NoAddrsAvail large is = absurd (omega (arith, large, is))
other_status number NoBinding large is = absurd (omega (arith, large, is))
other_status number NotOnLink large is = absurd (omega (arith, large, is))
other_status number UseMulticast large is = absurd (omega (arith, large, is))
other_status number NoPrefixAvail large is = absurd (omega (arith, large, is))
other_status number (Other other) large is = ap Other is

status_of-status_number : (code : DhcpV6OptionStatusCode) → HasOwnNumber code → status_of (status_number code) ≡ code
unfolding status_of status_number
status_of-status_number Success own = refl
status_of-status_number UnspecFail own = refl
status_of-status_number NoAddrsAvail own = refl
status_of-status_number NoBinding own = refl
status_of-status_number NotOnLink own = refl
status_of-status_number UseMulticast own = refl
status_of-status_number NoPrefixAvail own = refl
status_of-status_number (Other number) own = other_status number (status_of number) own (status_number-status_of number)

-- a status reads back
pub status_back : (status : DhcpV6OptionStatus) → StatusHasWidths status → HasOwnNumber status.status → status_in (written_status status) ≡ Some status
unfolding status_in written_status
status_back status widths own =
    let made : ℕ → List ℕ → Option DhcpV6OptionStatus = λ code message. Some (record { status = status_of code; message = message }) in
    ap (λ read. read >>= λ code. text_of code.1 >>= made code.0) (number_at-to_be_bytes w16 big_endian_16 (status_number status.status) status.message widths.number)
    ∙ ap (λ read. read >>= made (status_number status.status)) (text_of_utf8 status.message widths.message)
    ∙ ap (λ code. Some (record { status = code; message = status.message })) (status_of-status_number status.status own)

-- what is said after a fixed part, where an option is at the front
status_after-option : (bytes later : List ℕ) (raw : RawOptionParts) → raw_option_at DhcpV6 bytes ≡ Some (raw, later) → status_after bytes ≡ cond (eqb raw.code 13) (option_map Some (status_in raw.value)) None
unfolding status_after
status_after-option [] later raw is = absurd (none-some _ (sym (raw_option_at-nil DhcpV6) ∙ is))
status_after-option (byte ∷ bytes) later raw is = ap (λ read. read >>= λ option. cond (eqb option.0.code 13) (option_map Some (status_in option.0.value)) None) is

-- how long a status is beside its option
length-status_option : (status : DhcpV6OptionStatus) → length (written_status_option (Some status)) ≡ length (written_status status) + 4
length-status_option status = length-as_option 13 (written_status status)

-- a status reads back after a fixed part
pub status_after_back : (status : Option DhcpV6OptionStatus) → IfSome status StatusHasWidths → StatusIsInRange status → length (written_status_option status) < 2 ^ 16 → status_after (written_status_option status) ≡ Some status
unfolding status_after
status_after_back None widths range short = refl
status_after_back (Some status) widths range short =
    let found = raw_option_at-as_option 13 (written_status status) [] (omega arith) (omega (arith, short, length-status_option status)) in
    status_after-option (written_status_option (Some status)) [] (record { code = 13; value = written_status status })
    (ap (raw_option_at DhcpV6) (sym (append-nil (as_option 13 (written_status status)))) ∙ found)
    ∙ ap (option_map Some) (status_back status widths range)

-- ---- addresses and prefixes

-- an address reads back
pub ia_address_back : (address : DhcpV6OptionIaAddr) → AddressHasWidths address → StatusIsInRange address.status → length (written_ia_address address) < 2 ^ 16 → ia_address_in (written_ia_address address) ≡ Some address
unfolding ia_address_in
ia_address_back address widths range short =
    let valid : List ℕ = to_be_bytes w32 address.valid_time_sec ++ written_status_option address.status in
    let preferred : List ℕ = to_be_bytes w32 address.preferred_time_sec ++ valid in
    let whole : length (written_ia_address address) ≡ length (ipv6_octets address.address) + (8 + length (written_status_option address.status)) =
    omega (arith, ap length (written_ia_address-parts address), length-append (ipv6_octets address.address) preferred) in
    rw (written_ia_address-parts address, ipv6_address_at-octets address.address preferred widths.whole, number_at-to_be_bytes w32 big_endian_32 address.preferred_time_sec valid widths.preferred, number_at-to_be_bytes w32 big_endian_32 address.valid_time_sec (written_status_option address.status) widths.valid, status_after_back address.status widths.status range (omega (arith, short, whole))) refl

-- a prefix by its parts
written_ia_prefix-parts : (prefix : DhcpV6OptionIaPrefix) → written_ia_prefix prefix ≡ to_be_bytes w32 prefix.preferred_time_sec ++ (to_be_bytes w32 prefix.valid_time_sec ++ (prefix.prefix_len ∷ (ipv6_octets prefix.prefix ++ written_status_option prefix.status)))
unfolding written_ia_prefix
written_ia_prefix-parts prefix = refl

-- a prefix reads back
pub ia_prefix_back : (prefix : DhcpV6OptionIaPrefix) → PrefixHasWidths prefix → StatusIsInRange prefix.status → length (written_ia_prefix prefix) < 2 ^ 16 → ia_prefix_in (written_ia_prefix prefix) ≡ Some prefix
unfolding ia_prefix_in
ia_prefix_back prefix widths range short =
    let address : List ℕ = ipv6_octets prefix.prefix ++ written_status_option prefix.status in
    let valid : List ℕ = to_be_bytes w32 prefix.valid_time_sec ++ prefix.prefix_len ∷ address in
    let whole : length (written_ia_prefix prefix) ≡ 9 + (length (ipv6_octets prefix.prefix) + length (written_status_option prefix.status)) =
    omega (arith, ap length (written_ia_prefix-parts prefix), length-append (ipv6_octets prefix.prefix) (written_status_option prefix.status)) in
    rw (written_ia_prefix-parts prefix, number_at-to_be_bytes w32 big_endian_32 prefix.preferred_time_sec valid widths.preferred, number_at-to_be_bytes w32 big_endian_32 prefix.valid_time_sec (prefix.prefix_len ∷ address) widths.valid, number_at-byte prefix.prefix_len address widths.prefix_len, ipv6_address_at-octets prefix.prefix (written_status_option prefix.status) widths.whole, status_after_back prefix.status widths.status range (omega (arith, short, whole))) refl

-- ---- what stands inside

-- with an option more, it is what the rest adds
inside_one : {X : Type 0} (kind : AddressKind X) (inside next : InsideIa X) (code : ℕ) (value later : List ℕ) → code < 2 ^ 16 → length value < 2 ^ 16 → with_inner kind inside (record { code = code; value = value }) ≡ Some next → inside_after kind inside (as_option code value ++ later) ≡ inside_after kind next later
inside_one kind inside next code value later small short reads =
    sym (inside_more kind inside next (as_option code value ++ later) later (record { code = code; value = value }) (inside_after kind inside (as_option code value ++ later)) refl (raw_option_at-as_option code value later small short) reads)

-- the status at the end
inside_status : {X : Type 0} (kind : AddressKind X) (inside : InsideIa X) (status : Option DhcpV6OptionStatus) → eqb 13 kind.code ≡ false → inside.status ≡ None → IfSome status StatusHasWidths → StatusIsInRange status → length (written_status_option status) < 2 ^ 16 → inside_after kind inside (written_status_option status) ≡ Some (record inside { status = status })
inside_status kind inside None other none widths range short =
    inside_end kind inside [] (inside_after kind inside []) refl refl ∙ ap (λ status. Some (record inside { status = status })) none
inside_status kind inside (Some status) other none widths range short =
    let next : InsideIa _ = record inside { status = Some status } in
    let reads : with_inner kind inside (record { code = 13; value = written_status status }) ≡ Some next =
    ap (λ b. cond b (option_map (λ address. record inside { address = Some address }) (kind.value_in (written_status status))) (option_map (λ status. record inside { status = Some status }) (status_in (written_status status)))) other
    ∙ ap (option_map (λ status. record inside { status = Some status })) (status_back status widths range) in
    ap (inside_after kind inside) (sym (append-nil (as_option 13 (written_status status))))
    ∙ inside_one kind inside next 13 (written_status status) [] (omega arith) (omega (arith, short, length-status_option status)) reads
    ∙ inside_end kind next [] (inside_after kind next []) refl refl

-- an address, and then a status
inside_back : {X : Type 0} (kind : AddressKind X) (written : X → List ℕ) (address : Option X) (status : Option DhcpV6OptionStatus) → kind.code < 2 ^ 16 → eqb 13 kind.code ≡ false → IfSome address (λ address. (length (written address) < 2 ^ 16) × (kind.value_in (written address) ≡ Some address)) → IfSome status StatusHasWidths → StatusIsInRange status → length (written_status_option status) < 2 ^ 16 → inside_in kind (if_some kind.code written address ++ written_status_option status) ≡ Some (record { address = address; status = status })
unfolding inside_in
inside_back kind written None status small other reads widths range short = inside_status kind nothing_inside status other refl widths range short
inside_back kind written (Some address) status small other reads widths range short =
    let next : InsideIa _ = record { address = Some address; status = None } in
    let found : with_inner kind nothing_inside (record { code = kind.code; value = written address }) ≡ Some next =
    ap (λ b. cond b (option_map (λ address. record { address = Some address; status = None }) (kind.value_in (written address))) (cond (eqb kind.code 13) (option_map (λ status. record { address = None; status = Some status }) (status_in (written address))) None)) (eq-eqb kind.code kind.code refl)
    ∙ ap (option_map (λ address. record { address = Some address; status = None })) reads.1 in
    inside_one kind nothing_inside next kind.code (written address) (written_status_option status) small reads.0 found
    ∙ inside_status kind next status other refl widths range short

-- the address of an association reads back
address_reads : (address : Option DhcpV6OptionIaAddr) (status : Option DhcpV6OptionStatus) → IfSome address AddressHasWidths → AddressIsInRange address status → length (written_address_option address) < 2 ^ 16 → IfSome address (λ address. (length (written_ia_address address) < 2 ^ 16) × (address_kind.value_in (written_ia_address address) ≡ Some address))
address_reads None status widths range short = tt
address_reads (Some address) status widths range short =
    let less : length (written_ia_address address) < 2 ^ 16 = omega (arith, short, length-as_option 5 (written_ia_address address)) in
    (less, ia_address_back address widths range.0 less)

-- so does its prefix
prefix_reads : (prefix : Option DhcpV6OptionIaPrefix) (status : Option DhcpV6OptionStatus) → IfSome prefix PrefixHasWidths → PrefixIsInRange prefix status → length (written_prefix_option prefix) < 2 ^ 16 → IfSome prefix (λ prefix. (length (written_ia_prefix prefix) < 2 ^ 16) × (prefix_kind.value_in (written_ia_prefix prefix) ≡ Some prefix))
prefix_reads None status widths range short = tt
prefix_reads (Some prefix) status widths range short =
    let less : length (written_ia_prefix prefix) < 2 ^ 16 = omega (arith, short, length-as_option 26 (written_ia_prefix prefix)) in
    (less, ia_prefix_back prefix widths range.0 less)

-- what stands inside IA_NA and IA_TA
addresses_back : (address : Option DhcpV6OptionIaAddr) (status : Option DhcpV6OptionStatus) → IfSome address AddressHasWidths → IfSome status StatusHasWidths → AddressIsInRange address status → length (written_address_option address ++ written_status_option status) < 2 ^ 16 → inside_in address_kind (written_address_option address ++ written_status_option status) ≡ Some (record { address = address; status = status })
addresses_back address status widths said range short =
    let both = length-append (written_address_option address) (written_status_option status) in
    inside_back address_kind written_ia_address address status (omega arith) refl (address_reads address status widths range (omega (arith, short, both))) said range.1 (omega (arith, short, both))

-- and inside IA_PD
prefixes_back : (prefix : Option DhcpV6OptionIaPrefix) (status : Option DhcpV6OptionStatus) → IfSome prefix PrefixHasWidths → IfSome status StatusHasWidths → PrefixIsInRange prefix status → length (written_prefix_option prefix ++ written_status_option status) < 2 ^ 16 → inside_in prefix_kind (written_prefix_option prefix ++ written_status_option status) ≡ Some (record { address = prefix; status = status })
prefixes_back prefix status widths said range short =
    let both = length-append (written_prefix_option prefix) (written_status_option status) in
    inside_back prefix_kind written_ia_prefix prefix status (omega arith) refl (prefix_reads prefix status widths range (omega (arith, short, both))) said range.1 (omega (arith, short, both))

-- ---- associations

-- An association by its parts. What stands inside it is as short as it is.
abbrev inside_na : DhcpV6OptionIaNa → List ℕ
inside_na ia = written_address_option ia.address ++ written_status_option ia.status

abbrev inside_ta : DhcpV6OptionIaTa → List ℕ
inside_ta ia = written_address_option ia.address ++ written_status_option ia.status

abbrev inside_pd : DhcpV6OptionIaPd → List ℕ
inside_pd ia = written_prefix_option ia.prefix ++ written_status_option ia.status

written_ia_na-parts : (ia : DhcpV6OptionIaNa) → written_ia_na ia ≡ to_be_bytes w32 ia.iaid ++ (to_be_bytes w32 ia.t1_sec ++ (to_be_bytes w32 ia.t2_sec ++ inside_na ia))
unfolding written_ia_na
written_ia_na-parts ia = refl

written_ia_ta-parts : (ia : DhcpV6OptionIaTa) → written_ia_ta ia ≡ to_be_bytes w32 ia.iaid ++ inside_ta ia
unfolding written_ia_ta
written_ia_ta-parts ia = refl

written_ia_pd-parts : (ia : DhcpV6OptionIaPd) → written_ia_pd ia ≡ to_be_bytes w32 ia.iaid ++ (to_be_bytes w32 ia.t1_sec ++ (to_be_bytes w32 ia.t2_sec ++ inside_pd ia))
unfolding written_ia_pd
written_ia_pd-parts ia = refl

-- an IA_NA reads back
pub ia_na_back : (ia : DhcpV6OptionIaNa) → IaNaHasWidths ia → AddressIsInRange ia.address ia.status → length (written_ia_na ia) < 2 ^ 16 → ia_na_in (written_ia_na ia) ≡ Some ia
unfolding ia_na_in
ia_na_back ia widths range short =
    let t2 : List ℕ = to_be_bytes w32 ia.t2_sec ++ inside_na ia in
    let t1 : List ℕ = to_be_bytes w32 ia.t1_sec ++ t2 in
    let whole : length (written_ia_na ia) ≡ 12 + length (inside_na ia) = omega (arith, ap length (written_ia_na-parts ia)) in
    rw (written_ia_na-parts ia, number_at-to_be_bytes w32 big_endian_32 ia.iaid t1 widths.iaid, number_at-to_be_bytes w32 big_endian_32 ia.t1_sec t2 widths.t1, number_at-to_be_bytes w32 big_endian_32 ia.t2_sec (inside_na ia) widths.t2, addresses_back ia.address ia.status widths.address widths.status range (omega (arith, short, whole))) refl

-- so does an IA_TA
pub ia_ta_back : (ia : DhcpV6OptionIaTa) → IaTaHasWidths ia → AddressIsInRange ia.address ia.status → length (written_ia_ta ia) < 2 ^ 16 → ia_ta_in (written_ia_ta ia) ≡ Some ia
unfolding ia_ta_in
ia_ta_back ia widths range short =
    let whole : length (written_ia_ta ia) ≡ 4 + length (inside_ta ia) = omega (arith, ap length (written_ia_ta-parts ia)) in
    rw (written_ia_ta-parts ia, number_at-to_be_bytes w32 big_endian_32 ia.iaid (inside_ta ia) widths.iaid, addresses_back ia.address ia.status widths.address widths.status range (omega (arith, short, whole))) refl

-- and an IA_PD
pub ia_pd_back : (ia : DhcpV6OptionIaPd) → IaPdHasWidths ia → PrefixIsInRange ia.prefix ia.status → length (written_ia_pd ia) < 2 ^ 16 → ia_pd_in (written_ia_pd ia) ≡ Some ia
unfolding ia_pd_in
ia_pd_back ia widths range short =
    let t2 : List ℕ = to_be_bytes w32 ia.t2_sec ++ inside_pd ia in
    let t1 : List ℕ = to_be_bytes w32 ia.t1_sec ++ t2 in
    let whole : length (written_ia_pd ia) ≡ 12 + length (inside_pd ia) = omega (arith, ap length (written_ia_pd-parts ia)) in
    rw (written_ia_pd-parts ia, number_at-to_be_bytes w32 big_endian_32 ia.iaid t1 widths.iaid, number_at-to_be_bytes w32 big_endian_32 ia.t1_sec t2 widths.t1, number_at-to_be_bytes w32 big_endian_32 ia.t2_sec (inside_pd ia) widths.t2, prefixes_back ia.prefix ia.status widths.prefix widths.status range (omega (arith, short, whole))) refl
