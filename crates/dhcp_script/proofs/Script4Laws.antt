-- A script of an IPv4 client is read in one way alone.
use Rattle.std.proofs.Common.{◌≡◌, ◌≢◌, ◌⊎◌, inl, inr, ℕ, ◌≤◌, Bool, true, false, List, [], ◌∷◌, ◌++◌, get_or, Option, Some, None, refl, sym, ap, ◌∙◌, append_assoc, append-nil, arith, codes}
use Rattle.std.specs.Prelude.{IfSome}
use Rattle.std.specs.Fmt.{decimal}
use Rattle.hex.specs.Hex.{IsBytes, encode_lower}
use Rattle.dhcp_stream.specs.HexText.{IsMac, hex_text}
use Rattle.dhcp_stream.specs.Line.{line}
use Rattle.dhcp_stream.specs.TextReader.{after_tag, both}
use Rattle.dhcp_stream.proofs.CodecLaws.{HasNo-test, IsCodec, IsCodec-after_tag, IsCodec-as, IsCodec-both, IsCodec-in_field, IsCodec-made_of, tag_at-none}
use Rattle.dhcp_stream.proofs.ValueLemmas.{IsValue-hex, IsValue-mac}
use Rattle.dhcp_wire.specs.Field.{◌>>=◌}
use Rattle.dhcp4_lease.specs.declared.message_forms.DhcpV4MessageForms.{DhcpV4MessageForms}
use Rattle.dhcp4_lease.specs.declared.message_forms.DhcpV4MessageForms.TheVariants.{Mozim, Rfc2131}
use Rattle.dhcp_script.specs.declared.lease4.Lease4.{Lease4}
use Rattle.dhcp_script.specs.declared.life.Life.{Life}
use Rattle.dhcp_script.specs.declared.script4.Script4.{Script4}
use Rattle.dhcp_script.specs.declared.script4.reader.Head4.{Head4}
use Rattle.dhcp_script.specs.declared.script4.reader.Iface4.{Iface4}
use Rattle.dhcp_script.specs.declared.script4.reader.Identity4.{Identity4}
use Rattle.dhcp_script.specs.declared.version.Version.{Version}
use Rattle.dhcp_script.specs.declared.version.Version.TheVariants.{Later, One}
use Rattle.dhcp_script.specs.Codes.{listed_text}
use Rattle.dhcp_script.specs.Field.{flag_text, unless_none}
use Rattle.dhcp_script.specs.Lease4.{versioned_lease_text}
use Rattle.dhcp_script.specs.Life.{life_text}
use Rattle.dhcp_script.specs.Script4.{HasFormsText, IsScript4, forms_text, iface_text, script4_text}
use Rattle.dhcp_script.specs.ScriptReader.{formless_of, forms_at, forms_of, head4_at, head4_of, identity4_at, identity4_of, iface4_at, iface4_of, number3_at, script4_at, script4_of}
use Rattle.dhcp_script.specs.Version.{family4, number4}
use Rattle.dhcp_script.proofs.ChoiceLaws.{IsCodec-choice}
use Rattle.dhcp_script.proofs.Clear.{HasNo-encode_lower, HasNo-flag, HasNo-hex, HasNo-hex_text}
use Rattle.dhcp_script.proofs.CodesLaws.{IsCodec-codes}
use Rattle.dhcp_script.proofs.FieldLemmas.{IsValue-flag}
use Rattle.dhcp_script.proofs.Lease4Laws.{IsCodec-held_lease}
use Rattle.dhcp_script.proofs.LifeLaws.{IsCodec-life, hex_line}
use Rattle.dhcp_script.proofs.ValueLaws.{u32_field}

-- ---- the interface

-- `0` is not `1`
differ : (a b : ℕ) → a ≡ 48 → b ≡ 49 → a ≡ b → ⊥
differ a b first second same = omega arith

iface_parts : Iface4 → ℕ × (List ℕ × (Bool × ℕ))
iface_parts x = (x.index, (x.mac, (x.is_proxy, x.timeout_sec)))

iface_print : Iface4 → List ℕ
iface_print x = codes "iface " ++ ((decimal x.index ++ 32 ∷ []) ++ ((encode_lower x.mac ++ 32 ∷ []) ++ ((flag_text (codes "1") (codes "0") x.is_proxy ++ 32 ∷ []) ++ (decimal x.timeout_sec ++ 10 ∷ []))))

IfaceFits : Iface4 → Type 0
IfaceFits x = (x.index ≤ 4294967295) × (IsMac x.mac × (Unit {0} × (x.timeout_sec ≤ 4294967295)))

codec_iface : IsCodec iface_print IfaceFits iface4_at
unfolding iface4_at iface_parts iface_print IfaceFits
codec_iface =
    let mac = IsCodec-in_field IsValue-mac 32 (λ mac fits. HasNo-encode_lower 32 mac fits.1 (omega arith)) in
    let other : codes "0" ≢ codes "1" = λ e. differ _ _ refl refl (ap (λ (text : List ℕ). get_or text 0 0) e) in
    let proxy = IsCodec-in_field (IsValue-flag (codes "1") (codes "0") other) 32 (λ flag fits. HasNo-flag 32 (codes "1") (codes "0") (HasNo-test 32 (codes "1") refl) (HasNo-test 32 (codes "0") refl) flag) in
    IsCodec-made_of (IsCodec-after_tag (codes "iface ") (IsCodec-both (u32_field 32 (omega arith)) (IsCodec-both mac (IsCodec-both proxy (u32_field 10 (omega arith))))))
    iface4_of iface_parts (λ x. refl) (λ y. refl)

-- ---- what a client says of itself

identity_parts : Identity4 → List ℕ × (List ℕ × Option (List ℕ))
identity_parts x = (x.host, (x.client, x.codes))

identity_print : Identity4 → List ℕ
identity_print x = (codes "host " ++ (hex_text x.host ++ 10 ∷ [])) ++ ((codes "client " ++ (hex_text x.client ++ 10 ∷ [])) ++ (codes "codes " ++ (listed_text hex_text x.codes ++ 10 ∷ [])))

IdentityFits : Identity4 → Type 0
IdentityFits x = IsBytes x.host × (IsBytes x.client × IfSome x.codes IsBytes)

codec_identity : IsCodec identity_print IdentityFits identity4_at
unfolding identity4_at identity_parts identity_print IdentityFits
codec_identity =
    let listed = IsCodec-codes IsValue-hex (λ bytes fits. HasNo-hex 117 bytes fits (λ e. omega arith) refl) (λ bytes fits. HasNo-hex_text 10 bytes fits (omega arith)) in
    IsCodec-made_of (IsCodec-both (IsCodec-after_tag (codes "host ") hex_line) (IsCodec-both (IsCodec-after_tag (codes "client ") hex_line) listed))
    identity4_of identity_parts (λ x. refl) (λ y. refl)

-- ---- the forms of the messages

is_rfc2131 : DhcpV4MessageForms → Bool
is_rfc2131 Mozim = false
is_rfc2131 Rfc2131 = true

-- `m` is not `r`
differ_word : (a b : ℕ) → a ≡ 109 → b ≡ 114 → a ≡ b → ⊥
differ_word a b first second same = omega arith

forms_print : DhcpV4MessageForms → List ℕ
forms_print forms = codes "forms " ++ (flag_text (codes "rfc2131") (codes "mozim") (is_rfc2131 forms) ++ 10 ∷ [])

codec_forms : IsCodec forms_print (λ forms. Unit {0}) forms_at
unfolding forms_at is_rfc2131 forms_print
codec_forms =
    let other : codes "mozim" ≢ codes "rfc2131" = λ e. differ_word _ _ refl refl (ap (λ (text : List ℕ). get_or text 0 0) e) in
    let word = IsCodec-in_field (IsValue-flag (codes "rfc2131") (codes "mozim") other) 10
    (λ flag fits. HasNo-flag 10 (codes "rfc2131") (codes "mozim") (HasNo-test 10 (codes "rfc2131") refl) (HasNo-test 10 (codes "mozim") refl) flag) in
    IsCodec-made_of (IsCodec-after_tag (codes "forms ") word) forms_of is_rfc2131 there back
  where
    there : (flag : Bool) → is_rfc2131 (forms_of flag) ≡ flag
    there true = refl
    there false = refl

    back : (forms : DhcpV4MessageForms) → forms_of (is_rfc2131 forms) ≡ forms
    back Mozim = refl
    back Rfc2131 = refl

-- ---- the number of the version, the interface and the forms

said_print : Option DhcpV4MessageForms → List ℕ
said_print None = []
said_print (Some forms) = forms_print forms

head_print : Version → Head4 → List ℕ
head_print version x = number4 version x.forms ++ (iface_print x.iface ++ said_print x.forms)

HeadFits : Version → Head4 → Type 0
HeadFits version x = IfaceFits x.iface × HasFormsText version x.forms

codec_said : (version : Version) → IsCodec (λ x. head_print version (head4_of x)) (λ x. HeadFits version (head4_of x)) (λ text. number3_at version text >>= λ found. both iface4_at forms_at found.1)
unfolding head_print HeadFits said_print
codec_said One = record { sound = λ text x rest h. cc h; complete = λ x rest fits. let none = fits.1 in cc none }
codec_said Later = IsCodec-as (IsCodec-after_tag (codes "3\n") (IsCodec-both codec_iface codec_forms)) (λ x. refl) (λ x fits. (fits.0, tt)) (λ x fits. (fits.0, tt))

codec_unsaid : (version : Version) → IsCodec (λ iface. head_print version (formless_of iface)) (λ iface. HeadFits version (formless_of iface)) (after_tag (number4 version None) iface4_at)
unfolding head_print HeadFits said_print
codec_unsaid version =
    IsCodec-as (IsCodec-after_tag (number4 version None) codec_iface) (λ iface. ap (λ rest. number4 version None ++ rest) (sym (append-nil (iface_print iface)))) (λ iface fits. (fits, unsaid version)) (λ iface fits. fits.0)
  where
    unsaid : (version : Version) → HasFormsText version None
    unsaid One = refl
    unsaid Later = tt

-- `2` is not `3`
differ_number : (a b : ℕ) → a ≡ 50 → b ≡ 51 → a ≡ b → ⊥
differ_number a b first second same = omega arith

unsaid_apart : (version : Version) (iface : Iface4) (rest : List ℕ) → number3_at version (head_print version (formless_of iface) ++ rest) ≡ None
unfolding head_print
unsaid_apart One iface rest = refl
unsaid_apart Later iface rest = tag_at-none (codes "3\n") (head_print Later (formless_of iface) ++ rest) (λ more e. differ_number _ _ refl refl (ap (λ (text : List ℕ). get_or text 0 0) e))

codec_head : (version : Version) → IsCodec (head_print version) (HeadFits version) (head4_at version)
unfolding head4_at
codec_head version =
    IsCodec-choice (head_print version) (HeadFits version) (number3_at version) (both iface4_at forms_at) (after_tag (number4 version None) iface4_at) head4_of formless_of (codec_said version) (codec_unsaid version) (unsaid_apart version) either
  where
    either : (x : Head4) → ((p : Iface4 × DhcpV4MessageForms) × (head4_of p ≡ x)) ⊎ ((iface : Iface4) × (formless_of iface ≡ x))
    either x = by_forms x x.forms refl
      where
        by_forms : (x : Head4) (forms : Option DhcpV4MessageForms) → x.forms ≡ forms → ((p : Iface4 × DhcpV4MessageForms) × (head4_of p ≡ x)) ⊎ ((iface : Iface4) × (formless_of iface ≡ x))
        by_forms x None is = inr (x.iface, ap (λ (said : Option DhcpV4MessageForms). record { iface = x.iface; forms = said }) (sym is))
        by_forms x (Some forms) is = inl ((x.iface, forms), ap (λ (said : Option DhcpV4MessageForms). record { iface = x.iface; forms = said }) (sym is))

-- ---- the script

script_parts : Script4 → Head4 × (Identity4 × (Option Lease4 × Life))
script_parts s = (
  record { iface = record { index = s.iface_index; mac = s.mac; is_proxy = s.is_proxy; timeout_sec = s.timeout_sec }; forms = s.forms },
  (
    record { host = s.host; client = s.client; codes = s.codes },
    (
      s.lease,
      record { words = s.words; start = s.start; events = s.events },
    ),
  ),
)

-- four fields of a line
four_fields : (tag a b c d : List ℕ)
    → tag ++ ((a ++ 32 ∷ []) ++ ((b ++ 32 ∷ []) ++ ((c ++ 32 ∷ []) ++ (d ++ 10 ∷ [])))) ≡ (tag ++ (a ++ 32 ∷ (b ++ 32 ∷ (c ++ 32 ∷ d)))) ++ 10 ∷ []
four_fields tag a b c d = simp append_assoc

-- the lines of a script, and what follows them
all_lines : (family a b said c d e f rest : List ℕ) → family ++ ((a ++ (b ++ said)) ++ ((c ++ (d ++ e)) ++ (f ++ rest))) ≡ family ++ a ++ b ++ said ++ c ++ d ++ e ++ f ++ rest
all_lines family a b said c d e f rest = simp append_assoc

-- the line of the forms
said_line : (forms : Option DhcpV4MessageForms) → said_print forms ≡ forms_text forms
unfolding said_print forms_print is_rfc2131
said_line None = refl
said_line (Some Mozim) = refl
said_line (Some Rfc2131) = refl

-- the lines of a script are its text
printed4 : (version : Version) (script : Script4)
    → family4 ++ (head_print version (script_parts script).0 ++ (identity_print (script_parts script).1.0
    ++ ((codes "lease " ++ (unless_none (versioned_lease_text version) script.lease ++ 10 ∷ [])) ++ life_text script.words script.start script.events)))
    ≡ script4_text version script
unfolding script4_text script_parts head_print iface_print identity_print
printed4 version script =
    let number = number4 version script.forms in
    let host = line (codes "host " ++ hex_text script.host) in
    let client = line (codes "client " ++ hex_text script.client) in
    let listed = line (codes "codes " ++ listed_text hex_text script.codes) in
    let held = line (codes "lease " ++ unless_none (versioned_lease_text version) script.lease) in
    let life = life_text script.words script.start script.events in
    ap (λ iface. family4 ++ ((number ++ (iface ++ said_print script.forms)) ++ ((host ++ (client ++ listed)) ++ (held ++ life))))
    (four_fields (codes "iface ") (decimal script.iface_index) (encode_lower script.mac) (flag_text (codes "1") (codes "0") script.is_proxy) (decimal script.timeout_sec))
    ∙ ap (λ said. family4 ++ ((number ++ (line (codes "iface " ++ iface_text script) ++ said)) ++ ((host ++ (client ++ listed)) ++ (held ++ life)))) (said_line script.forms)
    ∙ all_lines family4 number (line (codes "iface " ++ iface_text script)) (forms_text script.forms) host client listed held life

-- a script of an IPv4 client
pub IsCodec-script4 : (version : Version) → IsCodec (script4_text version) (IsScript4 version) (after_tag family4 (script4_at version))
unfolding script4_at script_parts HeadFits IfaceFits IdentityFits
IsCodec-script4 version =
    IsCodec-as (IsCodec-after_tag family4 (IsCodec-made_of (IsCodec-both (codec_head version) (IsCodec-both codec_identity (IsCodec-both (IsCodec-after_tag (codes "lease ") (IsCodec-held_lease version)) IsCodec-life)))
    script4_of script_parts (λ x. refl) (λ y. refl)))
    (printed4 version)
    (λ script fits. record {
      iface_index = (let small = fits.0.0.0 in omega arith);
      mac = fits.0.0.1.0;
      timeout_sec = (let small = fits.0.0.1.1.1 in omega arith);
      forms = fits.0.1;
      host = fits.1.0.0;
      client = fits.1.0.1.0;
      codes = fits.1.0.1.1;
      lease = fits.1.1.0;
      life = fits.1.1.1;
    })
    (λ script fits. (
      (((let small = fits.iface_index in omega arith), (fits.mac, (tt, (let small = fits.timeout_sec in omega arith)))), fits.forms),
      (
        (fits.host, (fits.client, fits.codes)),
        (fits.lease, fits.life),
      ),
    ))
