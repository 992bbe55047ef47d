-- A script of a client for configuration alone is read in one way alone.
use Rattle.std.proofs.Common.{◌≡◌, ℕ, ◌≤◌, false, List, [], ◌∷◌, ◌++◌, Option, Some, None, refl, sym, ap, ◌∙◌, append_assoc, arith, codes}
use Rattle.std.specs.Prelude.{IfSome}
use Rattle.std.specs.Fmt.{decimal}
use Rattle.std.specs.Int.{w16}
use Rattle.std.specs.Net.Addr.{IsIpv6Addr}
use Rattle.std.specs.declared.net.Ipv6Addr.{Ipv6Addr}
use Rattle.dhcp_stream.specs.HexText.{IsMac, address6_text, hex_text, numbers_text}
use Rattle.dhcp_stream.specs.Line.{line}
use Rattle.dhcp_stream.proofs.CodecLaws.{IsCodec, IsCodec-after_tag, IsCodec-as, IsCodec-both, IsCodec-made_of, IsValue}
use Rattle.dhcp_stream.proofs.PartialCodecs.{IsCodec-made_of_some, IsCodec-unless, IsValue-whole, none-found, one-found}
use Rattle.dhcp6_msg.specs.declared.mode.DhcpV6Mode.{DhcpV6Mode}
use Rattle.dhcp_script.specs.declared.lease6.Lease6.{Lease6}
use Rattle.dhcp_script.specs.declared.life.Life.{Life}
use Rattle.dhcp_script.specs.declared.script6.Script6.{Script6}
use Rattle.dhcp_script.specs.declared.script6.reader.Identity6.{Identity6}
use Rattle.dhcp_script.specs.Codes.{listed_text}
use Rattle.dhcp_script.specs.Life.{IsLife, life_text}
use Rattle.dhcp_script.specs.Script6.{mac_text}
use Rattle.dhcp_script.proofs.Lease6Laws.{address6_field}
use Rattle.dhcp_script.proofs.LifeLaws.{IsCodec-life}
use Rattle.dhcp_script.proofs.Script6Laws.{IdentityFits, codec_identity, identity_print, mac_field}
use Rattle.dhcp_script.proofs.ValueLaws.{u32_field}
use Rattle.dhcp6_info_play.specs.declared.reader.Iface.{Iface}
use Rattle.dhcp6_info_play.specs.InfoScript.{IsInfoScript, first_line, has_release, iface_text, info_script_text}
use Rattle.dhcp6_info_play.specs.Reader.{iface_at, iface_of, life_at, script_at, script_in, script_of}

-- ---- the interface

iface_parts : Iface → ℕ × (Ipv6Addr × (Option (List ℕ) × ℕ))
iface_parts x = (x.index, (x.src_ip, (x.mac, x.timeout_sec)))

iface_print : Iface → List ℕ
iface_print x =
    codes "iface " ++ ((decimal x.index ++ 32 ∷ []) ++ ((address6_text x.src_ip ++ 32 ∷ []) ++ ((mac_text x.mac ++ 32 ∷ []) ++ (decimal x.timeout_sec ++ 10 ∷ []))))

IfaceFits : Iface → Type 0
IfaceFits x = (x.index ≤ 4294967295) × (IsIpv6Addr x.src_ip × (IfSome x.mac IsMac × (x.timeout_sec ≤ 4294967295)))

codec_iface : IsCodec iface_print IfaceFits iface_at
unfolding iface_at iface_parts iface_print IfaceFits
codec_iface =
    IsCodec-made_of (IsCodec-after_tag (codes "iface ") (IsCodec-both (u32_field 32 (omega arith)) (IsCodec-both (address6_field 32 (omega arith)) (IsCodec-both mac_field (u32_field 10 (omega arith))))))
    iface_of iface_parts (λ x. refl) (λ y. refl)

-- ---- words, start and events

life_print : Life → List ℕ
life_print life = life_text life.words life.start life.events

LifeFits : Life → Type 0
LifeFits life = IsLife life.words life.start life.events × (has_release life.events ≡ false)

codec_life : IsCodec life_print LifeFits life_at
unfolding life_at life_print LifeFits
codec_life = IsCodec-unless IsCodec-life (λ (life : Life). has_release life.events)

-- ---- the script

script_parts : Script6 → Iface × (Identity6 × Life)
script_parts s = (
  record { index = s.iface_index; src_ip = s.src_ip; mac = s.mac; timeout_sec = s.timeout_sec },
  (
    record { duid = s.duid; codes = s.codes },
    record { words = s.words; start = s.start; events = s.events },
  ),
)

-- four fields of a line
four_fields : (tag a b c d : List ℕ) → tag ++ ((a ++ 32 ∷ []) ++ ((b ++ 32 ∷ []) ++ ((c ++ 32 ∷ []) ++ (d ++ 10 ∷ [])))) ≡ (tag ++ (a ++ 32 ∷ (b ++ 32 ∷ (c ++ 32 ∷ d)))) ++ 10 ∷ []
four_fields tag a b c d = simp append_assoc

-- four lines, and what follows them
four_lines : (a b c d rest : List ℕ) → a ++ (b ++ ((c ++ d) ++ rest)) ≡ a ++ b ++ c ++ d ++ rest
four_lines a b c d rest = simp append_assoc

-- the lines of a script are its text
printed : (script : Script6) → first_line ++ (iface_print (script_parts script).0 ++ (identity_print (script_parts script).1.0 ++ life_print (script_parts script).1.1)) ≡ info_script_text script
unfolding info_script_text script_parts iface_print identity_print life_print
printed script =
    let duid = line (codes "duid " ++ hex_text script.duid) in
    let listed = line (codes "codes " ++ listed_text (numbers_text w16) script.codes) in
    let life = life_text script.words script.start script.events in
    ap (λ iface. first_line ++ (iface ++ ((duid ++ listed) ++ life)))
    (four_fields (codes "iface ") (decimal script.iface_index) (address6_text script.src_ip) (mac_text script.mac) (decimal script.timeout_sec))
    ∙ four_lines first_line (line (codes "iface " ++ iface_text script)) duid listed life

-- a script of these parts is one of a client for configuration alone
abbrev PartsFit : Iface × (Identity6 × Life) → Type 0
PartsFit parts = IfaceFits parts.0 × (IdentityFits parts.1.0 × LifeFits parts.1.1)

made_fits : (parts : Iface × (Identity6 × Life)) → PartsFit parts → IsInfoScript (script_of parts)
unfolding IfaceFits IdentityFits LifeFits
made_fits parts fits = record {
  fits = record {
    iface_index = (let small = fits.0.0 in omega arith);
    src_ip = fits.0.1.0;
    mac = fits.0.1.1.0;
    mode = tt;
    timeout_sec = (let small = fits.0.1.1.1 in omega arith);
    duid = fits.1.0.0;
    codes = fits.1.0.1;
    lease = tt;
    life = fits.1.1.0;
  };
  mode = refl;
  lease = refl;
  releases = fits.1.1.1;
}

-- and each such script has such parts
parts_fit : (script : Script6) → IsInfoScript script → PartsFit (script_parts script)
unfolding IfaceFits IdentityFits LifeFits script_parts
parts_fit script is =
    let fits = is.fits in (
      ((let small = fits.iface_index in omega arith), (fits.src_ip, (fits.mac, (let small = fits.timeout_sec in omega arith)))),
      (
        (fits.duid, fits.codes),
        (fits.life, is.releases),
      ),
    )

made_again : (script : Script6) → IsInfoScript script → script_of (script_parts script) ≡ script
unfolding script_parts
made_again script is =
    ap (λ (mode : DhcpV6Mode). record script { mode = mode; lease = None }) (sym is.mode) ∙ ap (λ (lease : Option Lease6). record script { lease = lease }) (sym is.lease)

IsCodec-script : IsCodec info_script_text IsInfoScript script_at
unfolding script_at script_parts
IsCodec-script =
    IsCodec-as (IsCodec-made_of_some (IsCodec-after_tag first_line (IsCodec-both codec_iface (IsCodec-both codec_identity codec_life))) script_of script_parts IsInfoScript
    (λ parts. refl) made_fits (λ script is. (parts_fit script is, made_again script is)))
    printed (λ script is. is) (λ script is. is)

-- the whole text
IsValue-script : IsValue info_script_text IsInfoScript script_in
unfolding script_in
IsValue-script = IsValue-whole IsCodec-script

-- what the reader returns is a reading, and the one script that has the text
pub reading-found : (text : List ℕ) (script : Script6) → script_in text ≡ Some script → (info_script_text script ≡ text) × IsInfoScript script
reading-found text script h = IsValue-script.sound text script h

pub reading-none : (text : List ℕ) → script_in text ≡ None → (script : Script6) → IsInfoScript script → info_script_text script ≡ text → ⊥
reading-none = none-found IsValue-script

pub reading-one : (text : List ℕ) (found script : Script6) → script_in text ≡ Some found → IsInfoScript script → info_script_text script ≡ text → Some found ≡ Some script
reading-one = one-found IsValue-script
