-- A script of an IPv6 client is read in one way alone.
use Rattle.std.proofs.Common.{◌≡◌, ℕ, ◌<◌, ◌≤◌, ◌^◌, List, [], ◌∷◌, ◌++◌, Option, Some, None, refl, ap, ◌∙◌, append_assoc, arith, codes}
use Rattle.std.specs.Prelude.{IfSome}
use Rattle.std.specs.Fmt.{decimal}
use Rattle.std.specs.Int.{w16}
use Rattle.std.specs.Net.Addr.{IsIpv6Addr}
use Rattle.std.specs.declared.net.Ipv6Addr.{Ipv6Addr}
use Rattle.hex.specs.Hex.{IsBytes, encode_lower}
use Rattle.dhcp_wire.specs.Field.{Read}
use Rattle.dhcp_stream.specs.HexText.{AreOfWidth, IsMac, address6_text, hex_text, number_bytes, numbers_text}
use Rattle.dhcp_stream.specs.Line.{line}
use Rattle.dhcp_stream.specs.TextReader.{after_tag, in_field, made_of, number_in, tag_at}
use Rattle.dhcp_stream.proofs.CodecLaws.{HasNo-test, IsCodec, IsCodec-after_tag, IsCodec-as, IsCodec-both, IsCodec-in_field, IsCodec-made_of, map_some, moved, same_read, tag_at-sound}
use Rattle.dhcp_stream.proofs.HexNumberLemmas.{IsBytes-number_bytes}
use Rattle.dhcp_stream.proofs.ValueLemmas.{IsValue-codes, IsValue-mac}
use Rattle.dhcp6_msg.specs.declared.mode.DhcpV6Mode.{DhcpV6Mode}
use Rattle.dhcp6_msg.specs.declared.mode.DhcpV6Mode.TheVariants.{NonTemporaryAddresses, TemporaryAddresses, PrefixDelegation}
use Rattle.dhcp_script.specs.declared.lease6.Lease6.{Lease6}
use Rattle.dhcp_script.specs.declared.life.Life.{Life}
use Rattle.dhcp_script.specs.declared.script6.Script6.{Script6}
use Rattle.dhcp_script.specs.declared.script6.reader.Iface6.{Iface6}
use Rattle.dhcp_script.specs.declared.script6.reader.Identity6.{Identity6}
use Rattle.dhcp_script.specs.declared.version.Version.{Version}
use Rattle.dhcp_script.specs.Codes.{listed_text}
use Rattle.dhcp_script.specs.Field.{unless_none}
use Rattle.dhcp_script.specs.FieldReader.{if_tag}
use Rattle.dhcp_script.specs.Lease6.{versioned_lease_text}
use Rattle.dhcp_script.specs.Life.{life_text}
use Rattle.dhcp_script.specs.Script6.{IsMode, IsScript6, iface_text, mac_text, mode_text, script6_text}
use Rattle.dhcp_script.specs.ScriptReader.{identity6_at, identity6_of, iface6_at, iface6_of, mac_or_none_in, mode_at, script6_at, script6_of}
use Rattle.dhcp_script.specs.Version.{first_line6}
use Rattle.dhcp_script.proofs.Clear.{HasNo-encode_lower, HasNo-hex, HasNo-numbers_text, HasNo-or_word, other_word}
use Rattle.dhcp_script.proofs.CodesLaws.{IsCodec-codes}
use Rattle.dhcp_script.proofs.FieldLemmas.{IsValue-word_or}
use Rattle.dhcp_script.proofs.Lease6Laws.{IsCodec-held_lease, address6_field, byte_field}
use Rattle.dhcp_script.proofs.LifeLaws.{IsCodec-life, hex_line}
use Rattle.dhcp_script.proofs.ValueLaws.{u32_field}

-- ---- what a client asks for

-- its word, and the space after it
mode_front : DhcpV6Mode → List ℕ
mode_front mode = mode_text mode ++ 32 ∷ []

mode_complete : (mode : DhcpV6Mode) (rest : List ℕ) → IsMode mode → mode_at (mode_front mode ++ rest) ≡ Some (mode, rest)
unfolding mode_at mode_front tag_at
mode_complete NonTemporaryAddresses rest fits = refl
mode_complete TemporaryAddresses rest fits = refl
mode_complete (PrefixDelegation len) rest fits =
    let small : len < 2 ^ 8 = fits in
    rw (byte_field.complete len rest (omega arith)) refl

mode_sound : (text : List ℕ) (mode : DhcpV6Mode) (rest : List ℕ) → mode_at text ≡ Some (mode, rest) → (text ≡ mode_front mode ++ rest) × IsMode mode
unfolding mode_at mode_front
mode_sound text mode rest h = by_tags (tag_at (codes "na ") text) (tag_at (codes "ta ") text) refl refl h
  where
    Is : DhcpV6Mode → List ℕ → Type 0
    Is mode rest = (text ≡ (mode_text mode ++ 32 ∷ []) ++ rest) × IsMode mode

    prefix : IsCodec (λ len. codes "pd " ++ (decimal len ++ 32 ∷ [])) (λ len. len ≤ 255) (after_tag (codes "pd ") (in_field (number_in 255) 32))
    prefix = IsCodec-after_tag (codes "pd ") byte_field

    by_tags : (na ta : Read (Unit {0})) → tag_at (codes "na ") text ≡ na → tag_at (codes "ta ") text ≡ ta
        → if_tag na (λ rest. Some (NonTemporaryAddresses, rest)) (if_tag ta (λ rest. Some (TemporaryAddresses, rest)) (made_of PrefixDelegation (after_tag (codes "pd ") (in_field (number_in 255) 32)) text)) ≡ Some (mode, rest)
        → Is mode rest
    by_tags (Some found) ta is other h =
        let parts = same_read NonTemporaryAddresses mode found.1 rest h in
        moved Is NonTemporaryAddresses mode found.1 rest parts.0 parts.1 (tag_at-sound (codes "na ") text found.1 is, tt)
    by_tags None (Some found) other is h =
        let parts = same_read TemporaryAddresses mode found.1 rest h in
        moved Is TemporaryAddresses mode found.1 rest parts.0 parts.1 (tag_at-sound (codes "ta ") text found.1 is, tt)
    by_tags None None other another h =
        let step = map_some (λ (read : ℕ × List ℕ). (PrefixDelegation read.0, read.1)) (after_tag (codes "pd ") (in_field (number_in 255) 32) text) (mode, rest) h in
        let made : PrefixDelegation step.0.0 ≡ mode = ap (λ (p : DhcpV6Mode × List ℕ). p.0) step.2 in
        let more : step.0.1 ≡ rest = ap (λ (p : DhcpV6Mode × List ℕ). p.1) step.2 in
        let one = prefix.sound text step.0.0 step.0.1 step.1 in
        let small : step.0.0 ≤ 255 = one.1 in
        let fits : step.0.0 < 2 ^ 8 = omega arith in
        moved Is (PrefixDelegation step.0.0) mode step.0.1 rest made more (one.0, fits)

IsCodec-mode : IsCodec mode_front IsMode mode_at
IsCodec-mode = record { sound = mode_sound; complete = mode_complete }

-- ---- the interface

-- a MAC address, or `-`
pub mac_field : IsCodec (λ mac. mac_text mac ++ 32 ∷ []) (λ mac. IfSome mac IsMac) (in_field mac_or_none_in 32)
mac_field =
    IsCodec-in_field (IsValue-word_or (codes "-") IsValue-mac (λ mac fits. other_word 45 [] (encode_lower mac) (HasNo-encode_lower 45 mac fits.1 (omega arith)))) 32
    (λ mac fits. HasNo-or_word encode_lower IsMac 32 (codes "-") (HasNo-test 32 (codes "-") refl) (λ mac fits. HasNo-encode_lower 32 mac fits.1 (omega arith)) mac fits)

iface_parts : Iface6 → ℕ × (Ipv6Addr × (Option (List ℕ) × (DhcpV6Mode × ℕ)))
iface_parts x = (x.index, (x.src_ip, (x.mac, (x.mode, x.timeout_sec))))

iface_print : Iface6 → List ℕ
iface_print x =
    codes "iface " ++ ((decimal x.index ++ 32 ∷ []) ++ ((address6_text x.src_ip ++ 32 ∷ []) ++ ((mac_text x.mac ++ 32 ∷ []) ++ (mode_front x.mode ++ (decimal x.timeout_sec ++ 10 ∷ [])))))

IfaceFits : Iface6 → Type 0
IfaceFits x = (x.index ≤ 4294967295) × (IsIpv6Addr x.src_ip × (IfSome x.mac IsMac × (IsMode x.mode × (x.timeout_sec ≤ 4294967295))))

codec_iface : IsCodec iface_print IfaceFits iface6_at
unfolding iface6_at iface_parts iface_print IfaceFits
codec_iface =
    IsCodec-made_of (IsCodec-after_tag (codes "iface ") (IsCodec-both (u32_field 32 (omega arith)) (IsCodec-both (address6_field 32 (omega arith)) (IsCodec-both mac_field (IsCodec-both IsCodec-mode (u32_field 10 (omega arith)))))))
    iface6_of iface_parts (λ x. refl) (λ y. refl)

-- ---- what a client says of itself

unfoldable pub identity_parts : Identity6 → List ℕ × Option (List ℕ)
identity_parts x = (x.duid, x.codes)

unfoldable pub identity_print : Identity6 → List ℕ
identity_print x = (codes "duid " ++ (hex_text x.duid ++ 10 ∷ [])) ++ (codes "codes " ++ (listed_text (numbers_text w16) x.codes ++ 10 ∷ []))

unfoldable pub IdentityFits : Identity6 → Type 0
IdentityFits x = IsBytes x.duid × IfSome x.codes (AreOfWidth w16)

pub codec_identity : IsCodec identity_print IdentityFits identity6_at
unfolding identity6_at identity_parts identity_print IdentityFits
codec_identity =
    let listed =
    IsCodec-codes IsValue-codes (λ numbers fits. HasNo-hex 117 (number_bytes w16 numbers) (IsBytes-number_bytes w16 numbers) (λ e. omega arith) refl)
    (λ numbers fits. HasNo-numbers_text w16 10 numbers (omega arith)) in
    IsCodec-made_of (IsCodec-both (IsCodec-after_tag (codes "duid ") hex_line) listed) identity6_of identity_parts (λ x. refl) (λ y. refl)

-- ---- the script

script_parts : Script6 → Iface6 × (Identity6 × (Option Lease6 × Life))
script_parts s = (
  record { index = s.iface_index; src_ip = s.src_ip; mac = s.mac; mode = s.mode; timeout_sec = s.timeout_sec },
  (
    record { duid = s.duid; codes = s.codes },
    (
      s.lease,
      record { words = s.words; start = s.start; events = s.events },
    ),
  ),
)

-- five fields of a line
five_fields : (tag a b c d e : List ℕ)
    → tag ++ ((a ++ 32 ∷ []) ++ ((b ++ 32 ∷ []) ++ ((c ++ 32 ∷ []) ++ ((d ++ 32 ∷ []) ++ (e ++ 10 ∷ []))))) ≡ (tag ++ (a ++ 32 ∷ (b ++ 32 ∷ (c ++ 32 ∷ (d ++ 32 ∷ e))))) ++ 10 ∷ []
five_fields tag a b c d e = simp append_assoc

-- five lines, and what follows them
five_lines : (a b c d e rest : List ℕ) → a ++ (b ++ ((c ++ d) ++ (e ++ rest))) ≡ a ++ b ++ c ++ d ++ e ++ rest
five_lines a b c d e rest = simp append_assoc

-- the lines of a script are its text
printed6 : (version : Version) (script : Script6)
    → first_line6 version ++ (iface_print (script_parts script).0 ++ (identity_print (script_parts script).1.0
    ++ ((codes "lease " ++ (unless_none (versioned_lease_text version) script.lease ++ 10 ∷ [])) ++ life_text script.words script.start script.events)))
    ≡ script6_text version script
unfolding script6_text script_parts iface_print identity_print mode_front
printed6 version script =
    let duid = line (codes "duid " ++ hex_text script.duid) in
    let listed = line (codes "codes " ++ listed_text (numbers_text w16) script.codes) in
    let held = line (codes "lease " ++ unless_none (versioned_lease_text version) script.lease) in
    let life = life_text script.words script.start script.events in
    ap (λ iface. first_line6 version ++ (iface ++ ((duid ++ listed) ++ (held ++ life))))
    (five_fields (codes "iface ") (decimal script.iface_index) (address6_text script.src_ip) (mac_text script.mac) (mode_text script.mode) (decimal script.timeout_sec))
    ∙ five_lines (first_line6 version) (line (codes "iface " ++ iface_text script)) duid listed held life

-- a script of an IPv6 client
pub IsCodec-script6 : (version : Version) → IsCodec (script6_text version) (IsScript6 version) (after_tag (first_line6 version) (script6_at version))
unfolding script6_at script_parts IfaceFits IdentityFits
IsCodec-script6 version =
    IsCodec-as (IsCodec-after_tag (first_line6 version) (IsCodec-made_of (IsCodec-both codec_iface (IsCodec-both codec_identity (IsCodec-both (IsCodec-after_tag (codes "lease ") (IsCodec-held_lease version)) IsCodec-life)))
    script6_of script_parts (λ x. refl) (λ y. refl)))
    (printed6 version)
    (λ script fits. record {
      iface_index = (let small = fits.0.0 in omega arith);
      src_ip = fits.0.1.0;
      mac = fits.0.1.1.0;
      mode = fits.0.1.1.1.0;
      timeout_sec = (let small = fits.0.1.1.1.1 in omega arith);
      duid = fits.1.0.0;
      codes = fits.1.0.1;
      lease = fits.1.1.0;
      life = fits.1.1.1;
    })
    (λ script fits. (
      ((let small = fits.iface_index in omega arith), (fits.src_ip, (fits.mac, (fits.mode, (let small = fits.timeout_sec in omega arith))))),
      (
        (fits.duid, fits.codes),
        (fits.lease, fits.life),
      ),
    ))
