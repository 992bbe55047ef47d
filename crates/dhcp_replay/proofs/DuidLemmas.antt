-- The identifier of some bytes is written as so many bytes.
use Rattle.std.proofs.Common.{◌≡◌, ℕ, ◌+◌, Bool, true, false, List, [], length, length-append, Option, Some, None, unwrap_or, refl, sym, ap, ◌∙◌, arith}
use Rattle.std.specs.Prelude.{◌==◌, if◌then◌else◌}
use Rattle.std.specs.Int.{Width, w16, w32, w128, byte_len, from_be_bytes}
use Rattle.std.proofs.lemmas.Bool.{eqb-true}
use Rattle.std.proofs.lemmas.Option.{none-some, same_Some, option_and_then_some}
use Rattle.dhcp_wire.specs.Field.{bytes_at, number_at}
use Rattle.dhcp_wire.proofs.FieldLaws.{bytes_at_cut}
use Rattle.dhcp_wire.proofs.FieldLemmas.{mapped}
use Rattle.dhcp6_opt.specs.declared.duid.DhcpV6Duid.{DhcpV6Duid}
use Rattle.dhcp6_opt.specs.declared.duid.DhcpV6Duid.TheVariants.{UUID, Raw}
use Rattle.dhcp6_opt.specs.Duid.{duid_in, enterprise_in, link_layer_in, link_layer_time_in, typed_duid, uuid_in, written_duid}

-- a number takes the bytes of its width
number_long : (width : Width) (bytes : List ℕ) (read : ℕ × List ℕ) → number_at width bytes ≡ Some read → length bytes ≡ byte_len width + length read.1
number_long width bytes read is =
    let found = mapped (λ read. (from_be_bytes width read.0, read.1)) (bytes_at (byte_len width) bytes) read is in
    let cut = bytes_at_cut (byte_len width) bytes found.0.0 found.0.1 found.1 in
    ap length cut.1 ∙ length-append found.0.0 found.0.1 ∙ ap (λ n. n + length found.0.1) cut.0 ∙ ap (λ (pair : ℕ × List ℕ). byte_len width + length pair.1) found.2

time_long : (bytes : List ℕ) (duid : DhcpV6Duid) → link_layer_time_in bytes ≡ Some duid → length (written_duid duid) ≡ 2 + length bytes
unfolding written_duid
time_long bytes duid is =
    option_and_then_some _ (number_at w16 bytes) _ is (λ kind at_kind then_time.
    option_and_then_some _ (number_at w32 kind.1) _ then_time (λ time at_time made.
    ap (λ (duid : DhcpV6Duid). length (written_duid duid)) (sym (same_Some _ _ made)) ∙ omega (arith, number_long w16 bytes kind at_kind, number_long w32 kind.1 time at_time)))

enterprise_long : (bytes : List ℕ) (duid : DhcpV6Duid) → enterprise_in bytes ≡ Some duid → length (written_duid duid) ≡ 2 + length bytes
unfolding written_duid
enterprise_long bytes duid is =
    option_and_then_some _ (number_at w32 bytes) _ is (λ number at_number made.
    ap (λ (duid : DhcpV6Duid). length (written_duid duid)) (sym (same_Some _ _ made)) ∙ omega (arith, number_long w32 bytes number at_number))

link_layer_long : (bytes : List ℕ) (duid : DhcpV6Duid) → link_layer_in bytes ≡ Some duid → length (written_duid duid) ≡ 2 + length bytes
unfolding written_duid
link_layer_long bytes duid is =
    option_and_then_some _ (number_at w16 bytes) _ is (λ kind at_kind made.
    ap (λ (duid : DhcpV6Duid). length (written_duid duid)) (sym (same_Some _ _ made)) ∙ omega (arith, number_long w16 bytes kind at_kind))

uuid_long : (bytes : List ℕ) (duid : DhcpV6Duid) → uuid_in bytes ≡ Some duid → length (written_duid duid) ≡ 2 + length bytes
unfolding written_duid
uuid_long bytes duid is =
    option_and_then_some _ (number_at w128 bytes) _ is (λ uuid at_uuid made. by_rest uuid at_uuid (length uuid.1 == 0) refl made)
  where
    by_rest : (uuid : ℕ × List ℕ) → number_at w128 bytes ≡ Some uuid → (alone : Bool) → (length uuid.1 == 0) ≡ alone → (let found : Option DhcpV6Duid = if alone then Some (UUID uuid.0) else None in found) ≡ Some duid → length (written_duid duid) ≡ 2 + length bytes
    by_rest uuid at_uuid true e made =
        ap (λ (duid : DhcpV6Duid). length (written_duid duid)) (sym (same_Some _ _ made)) ∙ omega (arith, number_long w128 bytes uuid at_uuid, eqb-true (length uuid.1) 0 e)
    by_rest uuid at_uuid false e made = absurd (none-some _ made)

-- an identifier of a type that has a name has its type and the bytes after it
typed_long : (kind : ℕ) (bytes : List ℕ) (duid : DhcpV6Duid) → typed_duid kind bytes ≡ Some duid → length (written_duid duid) ≡ 2 + length bytes
typed_long kind bytes duid is = by_kind (kind == 1) (kind == 2) (kind == 3) (kind == 4) is
  where
    by_kind : (a b c d : Bool) → (let found : Option DhcpV6Duid = if a then link_layer_time_in bytes else if b then enterprise_in bytes else if c then link_layer_in bytes else if d then uuid_in bytes else None in found) ≡ Some duid → length (written_duid duid) ≡ 2 + length bytes
    by_kind true b c d is = time_long bytes duid is
    by_kind false true c d is = enterprise_long bytes duid is
    by_kind false false true d is = link_layer_long bytes duid is
    by_kind false false false true is = uuid_long bytes duid is
    by_kind false false false false is = absurd (none-some _ is)

raw_long : (bytes : List ℕ) → length (written_duid (Raw bytes)) ≡ length bytes
unfolding written_duid
raw_long bytes = refl

-- what no type reads is its bytes alone
or_raw_long : (typed : Option DhcpV6Duid) (bytes : List ℕ) → ((duid : DhcpV6Duid) → typed ≡ Some duid → length (written_duid duid) ≡ length bytes) → length (written_duid (unwrap_or typed (Raw bytes))) ≡ length bytes
or_raw_long None bytes long = raw_long bytes
or_raw_long (Some duid) bytes long = long duid refl

-- an identifier that is read has as many bytes as it was read from
read_long : (bytes : List ℕ) (duid : DhcpV6Duid) → duid_in bytes ≡ Some duid → length (written_duid duid) ≡ length bytes
unfolding duid_in
read_long bytes duid is =
    option_and_then_some _ (number_at w16 bytes) _ is (λ kind at_kind made.
    ap (λ (duid : DhcpV6Duid). length (written_duid duid)) (sym (same_Some _ _ made))
    ∙ or_raw_long (typed_duid kind.0 kind.1) bytes (λ typed is_typed. omega (arith, typed_long kind.0 kind.1 typed is_typed, number_long w16 bytes kind at_kind)))

pub length-duid : (bytes : List ℕ) → length (written_duid (unwrap_or (duid_in bytes) (Raw bytes))) ≡ length bytes
length-duid bytes = or_raw_long (duid_in bytes) bytes (λ duid is. read_long bytes duid is)

-- no bytes are no identifier
pub no_duid : unwrap_or (duid_in []) (Raw []) ≡ Raw []
unfolding duid_in bytes_at
no_duid = refl
