-- Identifiers are written as the bytes that they were read from, and read back.
use Rattle.std.proofs.Common.{◌≡◌, ℕ, zero, suc, ◌+◌, ◌*◌, ◌/◌, ◌%◌, ◌^◌, ◌<◌, ◌≤◌, Bool, true, false, cond, eqb, List, [], ◌∷◌, ◌++◌, append-nil, length, length-drop, take, drop, get_or, Option, Some, None, option_map, unwrap_or, refl, sym, ap, subst, ◌∙◌, arith}
use Rattle.std.specs.Int.{Width, w16, w32, w64, w128, byte_len, from_be_bytes, to_be_bytes}
use Rattle.std.proofs.lemmas.Bool.{eqb-true, le-leb}
use Rattle.std.proofs.lemmas.List.{take_at, drop_at, take-append-drop, length-take-le, get_or-take, get_or-drop}
use Rattle.std.proofs.lemmas.List.Elements.{All-drop, All-take}
use Rattle.std.proofs.lemmas.Nat.{be_bytes_2, be_bytes_4, be_bytes_8}
use Rattle.std.proofs.lemmas.Option.{none-some, same_Some, option_and_then_some}
use Rattle.dhcp_wire.specs.Field.{◌>>=◌, bytes_at, number_at}
use Rattle.dhcp_wire.proofs.FieldLaws.{big_endian_16, big_endian_32, big_endian_128, bytes_at_cut, number_at-to_be_bytes}
use Rattle.dhcp_wire.proofs.FieldLemmas.{mapped}
use Rattle.dhcp6_opt.specs.declared.duid.DhcpV6Duid.{DhcpV6Duid}
use Rattle.dhcp6_opt.specs.declared.duid.DhcpV6Duid.TheVariants.{LinkLayerAddressPlusTime, EnterpriseNumber, LinkLayerAddress, UUID, Raw}
use Rattle.dhcp6_opt.specs.Duid.{duid_in, enterprise_in, link_layer_in, link_layer_time_in, typed_duid, uuid_in, written_duid}
use Rattle.dhcp6_opt.specs.Laws.{AreBytes, DuidHasWidths, HasType, duid_read_back}

-- ---- numbers are written as they were read

each_byte : (bytes : List ℕ) → AreBytes bytes → (i : ℕ) → get_or bytes i 0 < 256
each_byte [] are i = omega arith
each_byte (byte ∷ bytes) are zero = are 0 0 (omega arith)
each_byte (byte ∷ bytes) are (suc i) = each_byte bytes (λ k d inside. are (suc k) d (omega (arith, inside))) i

are_front : (front rest : List ℕ) → AreBytes (front ++ rest) → AreBytes front
are_front front rest are = subst AreBytes (take_at front rest (length front) refl) (All-take (λ byte. byte < 2 ^ 8) (length front) (front ++ rest) are)

are_rest : (front rest : List ℕ) → AreBytes (front ++ rest) → AreBytes rest
are_rest front rest are = subst AreBytes (drop_at front rest (length front) refl) (All-drop (λ byte. byte < 2 ^ 8) (length front) (front ++ rest) are)

-- a width at which a number is written as the bytes that it was read from
record WritesAgain (width : Width) : Type 0 where
  again : (bytes : List ℕ) → length bytes ≡ byte_len width → AreBytes bytes → to_be_bytes width (from_be_bytes width bytes) ≡ bytes

two_again : WritesAgain w16
two_again = record { again = λ bytes long are. be_bytes_2 bytes (from_be_bytes w16 bytes) long (each_byte bytes are) refl }

four_again : WritesAgain w32
four_again = record { again = λ bytes long are. be_bytes_4 bytes (from_be_bytes w32 bytes) long (each_byte bytes are) refl }

-- the bytes of a number of sixteen are those of its halves
to_be_bytes-halves : (n high low : ℕ) → n ≡ high * 18446744073709551616 + low → low < 18446744073709551616 → to_be_bytes w128 n ≡ to_be_bytes w64 high ++ to_be_bytes w64 low
to_be_bytes-halves n high low is small =
    let e15 : n / 1329227995784915872903807060280344576 % 256 ≡ high / 72057594037927936 % 256 = omega arith in
    let e14 : n / 5192296858534827628530496329220096 % 256 ≡ high / 281474976710656 % 256 = omega arith in
    let e13 : n / 20282409603651670423947251286016 % 256 ≡ high / 1099511627776 % 256 = omega arith in
    let e12 : n / 79228162514264337593543950336 % 256 ≡ high / 4294967296 % 256 = omega arith in
    let e11 : n / 309485009821345068724781056 % 256 ≡ high / 16777216 % 256 = omega arith in
    let e10 : n / 1208925819614629174706176 % 256 ≡ high / 65536 % 256 = omega arith in
    let e9 : n / 4722366482869645213696 % 256 ≡ high / 256 % 256 = omega arith in
    let e8 : n / 18446744073709551616 % 256 ≡ high % 256 = omega arith in
    let e7 : n / 72057594037927936 % 256 ≡ low / 72057594037927936 % 256 = omega arith in
    let e6 : n / 281474976710656 % 256 ≡ low / 281474976710656 % 256 = omega arith in
    let e5 : n / 1099511627776 % 256 ≡ low / 1099511627776 % 256 = omega arith in
    let e4 : n / 4294967296 % 256 ≡ low / 4294967296 % 256 = omega arith in
    let e3 : n / 16777216 % 256 ≡ low / 16777216 % 256 = omega arith in
    let e2 : n / 65536 % 256 ≡ low / 65536 % 256 = omega arith in
    let e1 : n / 256 % 256 ≡ low / 256 % 256 = omega arith in
    let e0 : n % 256 ≡ low % 256 = omega arith in
    λ i. e15 i ∷ e14 i ∷ e13 i ∷ e12 i ∷ e11 i ∷ e10 i ∷ e9 i ∷ e8 i ∷ e7 i ∷ e6 i ∷ e5 i ∷ e4 i ∷ e3 i ∷ e2 i ∷ e1 i ∷ e0 i ∷ []

sixteen_again : WritesAgain w128
sixteen_again = record { again = from_halves }
  where
    from_halves : (bytes : List ℕ) → length bytes ≡ 16 → AreBytes bytes → to_be_bytes w128 (from_be_bytes w128 bytes) ≡ bytes
    from_halves bytes long are =
        let front : List ℕ = take 8 bytes in
        let back : List ℕ = drop 8 bytes in
        let split : front ++ back ≡ bytes = take-append-drop 8 bytes in
        let eight : length front ≡ 8 = length-take-le 8 bytes (omega (arith, long)) in
        let other : length back ≡ 8 = omega (arith, long, length-drop 8 bytes) in
        let first : (i : ℕ) → i < 8 → get_or front i 0 ≡ get_or bytes i 0 = λ i less. get_or-take 8 bytes i 0 less in
        let last : (i : ℕ) → get_or back i 0 ≡ get_or bytes (8 + i) 0 = λ i. get_or-drop 8 bytes i 0 in
        let small = each_byte back (All-drop (λ byte. byte < 2 ^ 8) 8 bytes are) in
        let large = each_byte front (All-take (λ byte. byte < 2 ^ 8) 8 bytes are) in
        let low : from_be_bytes w64 back < 18446744073709551616 = omega (arith, small 0, small 1, small 2, small 3, small 4, small 5, small 6, small 7) in
        let parts : from_be_bytes w128 bytes ≡ from_be_bytes w64 front * 18446744073709551616 + from_be_bytes w64 back =
        omega (arith, first 0 (omega arith), first 1 (omega arith), first 2 (omega arith), first 3 (omega arith), first 4 (omega arith), first 5 (omega arith), first 6 (omega arith), first 7 (omega arith), last 0, last 1, last 2, last 3, last 4, last 5, last 6, last 7) in
        to_be_bytes-halves (from_be_bytes w128 bytes) (from_be_bytes w64 front) (from_be_bytes w64 back) parts low
        ∙ ap (λ first. first ++ to_be_bytes w64 (from_be_bytes w64 back)) (be_bytes_8 front (from_be_bytes w64 front) eight large refl)
        ∙ ap (λ later. front ++ later) (be_bytes_8 back (from_be_bytes w64 back) other small refl)
        ∙ split

-- a number that is read, written before what follows it, is the bytes
number_written : (width : Width) → WritesAgain width → (bytes : List ℕ) (read : ℕ × List ℕ) → AreBytes bytes → number_at width bytes ≡ Some read → (to_be_bytes width read.0 ++ read.1 ≡ bytes) × AreBytes read.1
number_written width writes bytes read are is =
    let found = mapped (λ read. (from_be_bytes width read.0, read.1)) (bytes_at (byte_len width) bytes) read is in
    let cut = bytes_at_cut (byte_len width) bytes found.0.0 found.0.1 found.1 in
    let whole = subst AreBytes cut.1 are in
    let again = writes.again found.0.0 cut.0 (are_front found.0.0 found.0.1 whole) in (
      ap (λ pair. to_be_bytes width pair.0 ++ pair.1) (sym found.2) ∙ ap (λ front. front ++ found.0.1) again ∙ sym cut.1,
      subst AreBytes (ap (λ pair. pair.1) found.2) (are_rest found.0.0 found.0.1 whole),
    )

-- ---- identifiers of each type are written as they were read

time_again : (bytes : List ℕ) (duid : DhcpV6Duid) → AreBytes bytes → link_layer_time_in bytes ≡ Some duid → written_duid duid ≡ to_be_bytes w16 1 ++ bytes
unfolding written_duid
time_again bytes duid are is =
    option_and_then_some _ (number_at w16 bytes) _ is (λ hardware_type at_hardware_type then_time.
    let first = number_written w16 two_again bytes hardware_type are at_hardware_type in
    option_and_then_some _ (number_at w32 hardware_type.1) _ then_time (λ time at_time made.
    let later = number_written w32 four_again hardware_type.1 time first.1 at_time in
    ap written_duid (sym (same_Some _ _ made))
    ∙ ap (λ rest. to_be_bytes w16 1 ++ (to_be_bytes w16 hardware_type.0 ++ rest)) later.0
    ∙ ap (λ rest. to_be_bytes w16 1 ++ rest) first.0))

enterprise_again : (bytes : List ℕ) (duid : DhcpV6Duid) → AreBytes bytes → enterprise_in bytes ≡ Some duid → written_duid duid ≡ to_be_bytes w16 2 ++ bytes
unfolding written_duid
enterprise_again bytes duid are is =
    option_and_then_some _ (number_at w32 bytes) _ is (λ number at_number made.
    ap written_duid (sym (same_Some _ _ made))
    ∙ ap (λ rest. to_be_bytes w16 2 ++ rest) (number_written w32 four_again bytes number are at_number).0)

link_layer_again : (bytes : List ℕ) (duid : DhcpV6Duid) → AreBytes bytes → link_layer_in bytes ≡ Some duid → written_duid duid ≡ to_be_bytes w16 3 ++ bytes
unfolding written_duid
link_layer_again bytes duid are is =
    option_and_then_some _ (number_at w16 bytes) _ is (λ hardware_type at_hardware_type made.
    ap written_duid (sym (same_Some _ _ made))
    ∙ ap (λ rest. to_be_bytes w16 3 ++ rest) (number_written w16 two_again bytes hardware_type are at_hardware_type).0)

uuid_again : (bytes : List ℕ) (duid : DhcpV6Duid) → AreBytes bytes → uuid_in bytes ≡ Some duid → written_duid duid ≡ to_be_bytes w16 4 ++ bytes
unfolding written_duid
uuid_again bytes duid are is =
    option_and_then_some _ (number_at w128 bytes) _ is (λ uuid at_uuid made.
    by_rest uuid (eqb (length uuid.1) 0) refl made ∙ ap (λ rest. to_be_bytes w16 4 ++ rest) (number_written w128 sixteen_again bytes uuid are at_uuid).0)
  where
    none_left : (rest : List ℕ) → eqb (length rest) 0 ≡ true → rest ≡ []
    none_left [] none = refl
    none_left (byte ∷ rest) none = absurd (omega (arith, eqb-true (length (byte ∷ rest)) 0 none))

    by_rest : (uuid : ℕ × List ℕ) (none : Bool) → eqb (length uuid.1) 0 ≡ none → cond none (Some (UUID uuid.0)) None ≡ Some duid → written_duid duid ≡ to_be_bytes w16 4 ++ (to_be_bytes w128 uuid.0 ++ uuid.1)
    by_rest uuid true none made =
        ap written_duid (sym (same_Some _ _ made))
        ∙ ap (λ rest. to_be_bytes w16 4 ++ rest) (sym (ap (λ rest. to_be_bytes w128 uuid.0 ++ rest) (none_left uuid.1 none) ∙ append-nil (to_be_bytes w128 uuid.0)))
    by_rest uuid false none made = absurd (none-some _ made)

typed_again : (kind : ℕ) (bytes : List ℕ) (duid : DhcpV6Duid) → AreBytes bytes → typed_duid kind bytes ≡ Some duid → written_duid duid ≡ to_be_bytes w16 kind ++ bytes
typed_again kind bytes duid are is = by_kind (eqb kind 1) (eqb kind 2) (eqb kind 3) (eqb kind 4) refl refl refl refl is
  where
    named : (number : ℕ) → eqb kind number ≡ true → to_be_bytes w16 number ++ bytes ≡ to_be_bytes w16 kind ++ bytes
    named number at = ap (λ n. to_be_bytes w16 n ++ bytes) (sym (eqb-true kind number at))

    by_kind : (one two three four : Bool) → eqb kind 1 ≡ one → eqb kind 2 ≡ two → eqb kind 3 ≡ three → eqb kind 4 ≡ four → cond one (link_layer_time_in bytes) (cond two (enterprise_in bytes) (cond three (link_layer_in bytes) (cond four (uuid_in bytes) None))) ≡ Some duid → written_duid duid ≡ to_be_bytes w16 kind ++ bytes
    by_kind true two three four at _ _ _ is = time_again bytes duid are is ∙ named 1 at
    by_kind false true three four _ at _ _ is = enterprise_again bytes duid are is ∙ named 2 at
    by_kind false false true four _ _ at _ is = link_layer_again bytes duid are is ∙ named 3 at
    by_kind false false false true _ _ _ at is = uuid_again bytes duid are is ∙ named 4 at
    by_kind false false false false _ _ _ _ is = absurd (none-some _ is)

-- an identifier is written as the bytes that it was read from
pub written_duid-duid_in : (bytes : List ℕ) (duid : DhcpV6Duid) → AreBytes bytes → duid_in bytes ≡ Some duid → written_duid duid ≡ bytes
unfolding duid_in written_duid
written_duid-duid_in bytes duid are is =
    option_and_then_some _ (number_at w16 bytes) _ is (λ kind at_kind made.
    let first = number_written w16 two_again bytes kind are at_kind in
    ap written_duid (sym (same_Some _ _ made)) ∙ by_reading kind (typed_duid kind.0 kind.1) refl first.1 first.0)
  where
    by_reading : (kind : ℕ × List ℕ) (read : Option DhcpV6Duid) → typed_duid kind.0 kind.1 ≡ read → AreBytes kind.1 → to_be_bytes w16 kind.0 ++ kind.1 ≡ bytes → written_duid (unwrap_or read (Raw bytes)) ≡ bytes
    by_reading kind None is later whole = refl
    by_reading kind (Some duid) is later whole = typed_again kind.0 kind.1 duid later is ∙ whole

-- ---- identifiers read back

-- what is written reads back as the same bytes
pub written_duid-read_back : (duid : DhcpV6Duid) → DuidHasWidths duid → written_duid (duid_read_back duid) ≡ written_duid duid
unfolding written_duid DuidHasWidths
written_duid-read_back (LinkLayerAddressPlusTime duid) widths = refl
written_duid-read_back (EnterpriseNumber duid) widths = refl
written_duid-read_back (LinkLayerAddress duid) widths = refl
written_duid-read_back (UUID uuid) widths = refl
written_duid-read_back (Raw bytes) widths = by_reading (duid_in bytes) refl
  where
    by_reading : (read : Option DhcpV6Duid) → duid_in bytes ≡ read → written_duid (unwrap_or read (Raw bytes)) ≡ bytes
    by_reading None is = refl
    by_reading (Some duid) is = written_duid-duid_in bytes duid widths is

-- the identifier of some bytes, after its type
kind_back : (kind : ℕ) (rest raw : List ℕ) (duid : DhcpV6Duid) → kind < 2 ^ 16 → typed_duid kind rest ≡ Some duid → (number_at w16 (to_be_bytes w16 kind ++ rest) >>= λ kind. Some (unwrap_or (typed_duid kind.0 kind.1) (Raw raw))) ≡ Some duid
kind_back kind rest raw duid small is =
    ap (λ read. read >>= λ kind. Some (unwrap_or (typed_duid kind.0 kind.1) (Raw raw))) (number_at-to_be_bytes w16 big_endian_16 kind rest small)
    ∙ ap (λ read. Some (unwrap_or read (Raw raw))) is

enough : (n : ℕ) (bytes : List ℕ) → n ≤ length bytes → bytes_at n bytes ≡ Some (take n bytes, drop n bytes)
unfolding bytes_at
enough n bytes some = rw (le-leb n (length bytes) some) refl

-- an identifier of two bytes or more reads back
pub duid_back : (duid : DhcpV6Duid) → DuidHasWidths duid → HasType duid → duid_in (written_duid duid) ≡ Some (duid_read_back duid)
unfolding duid_in written_duid DuidHasWidths
duid_back (LinkLayerAddressPlusTime duid) widths typed =
    let made : ℕ → ℕ × List ℕ → Option DhcpV6Duid = λ hardware_type time. Some (LinkLayerAddressPlusTime record { hardware_type = hardware_type; time = time.0; link_layer_address = time.1 }) in
    let later : List ℕ = to_be_bytes w32 duid.time ++ duid.link_layer_address in
    kind_back 1 (to_be_bytes w16 duid.hardware_type ++ later) (written_duid (LinkLayerAddressPlusTime duid)) (LinkLayerAddressPlusTime duid) (omega arith)
    (ap (λ read. read >>= λ hardware_type. number_at w32 hardware_type.1 >>= made hardware_type.0) (number_at-to_be_bytes w16 big_endian_16 duid.hardware_type later widths.0)
    ∙ ap (λ read. read >>= made duid.hardware_type) (number_at-to_be_bytes w32 big_endian_32 duid.time duid.link_layer_address widths.1))
duid_back (EnterpriseNumber duid) widths typed =
    kind_back 2 (to_be_bytes w32 duid.enterprise_number ++ duid.identifier) (written_duid (EnterpriseNumber duid)) (EnterpriseNumber duid) (omega arith)
    (ap (λ read. read >>= λ number. Some (EnterpriseNumber (record { enterprise_number = number.0; identifier = number.1 }))) (number_at-to_be_bytes w32 big_endian_32 duid.enterprise_number duid.identifier widths))
duid_back (LinkLayerAddress duid) widths typed =
    kind_back 3 (to_be_bytes w16 duid.hardware_type ++ duid.link_layer_address) (written_duid (LinkLayerAddress duid)) (LinkLayerAddress duid) (omega arith)
    (ap (λ read. read >>= λ hardware_type. Some (LinkLayerAddress record { hardware_type = hardware_type.0; link_layer_address = hardware_type.1 })) (number_at-to_be_bytes w16 big_endian_16 duid.hardware_type duid.link_layer_address widths))
duid_back (UUID uuid) widths typed =
    kind_back 4 (to_be_bytes w128 uuid) (written_duid (UUID uuid)) (UUID uuid) (omega arith)
    (ap uuid_in (sym (append-nil (to_be_bytes w128 uuid)))
    ∙ ap (λ read. read >>= λ uuid. cond (eqb (length uuid.1) 0) (Some (UUID uuid.0)) None) (number_at-to_be_bytes w128 big_endian_128 uuid [] widths))
duid_back (Raw bytes) widths typed =
    let kind : ℕ × List ℕ = (from_be_bytes w16 (take 2 bytes), drop 2 bytes) in
    let at_kind : number_at w16 bytes ≡ Some kind = ap (option_map (λ read. (from_be_bytes w16 read.0, read.1))) (enough 2 bytes typed) in
    let read : duid_in bytes ≡ Some (unwrap_or (typed_duid kind.0 kind.1) (Raw bytes)) =
    ap (λ read. read >>= λ kind. Some (unwrap_or (typed_duid kind.0 kind.1) (Raw bytes))) at_kind in
    read ∙ ap (λ read. Some (unwrap_or read (Raw bytes))) (sym read)
