-- A script of either family is read in one way alone.
use Rattle.std.proofs.Common.{◌≡◌, ◌⊎◌, inl, inr, ℕ, ◌≤◌, List, ◌++◌, get_or, Option, Some, None, refl, sym, ap, arith}
use Rattle.dhcp_stream.specs.TextReader.{after_tag, tag_at}
use Rattle.dhcp_stream.proofs.CodecLaws.{IsCodec, IsValue, tag_at-none}
use Rattle.dhcp_stream.proofs.PartialCodecs.{IsValue-whole, none-found, one-found}
use Rattle.dhcp4_lease.specs.declared.message_forms.DhcpV4MessageForms.{DhcpV4MessageForms}
use Rattle.dhcp_script.specs.declared.script4.Script4.{Script4}
use Rattle.dhcp_script.specs.declared.script6.Script6.{Script6}
use Rattle.dhcp_script.specs.declared.script.Script.{Script}
use Rattle.dhcp_script.specs.declared.script.Script.TheVariants.{V4, V6}
use Rattle.dhcp_script.specs.declared.version.Version.{Version}
use Rattle.dhcp_script.specs.declared.version.Version.TheVariants.{One, Later}
use Rattle.dhcp_script.specs.Script4.{script4_text}
use Rattle.dhcp_script.specs.Script6.{script6_text}
use Rattle.dhcp_script.specs.Script.{HasTextIn, text_in}
use Rattle.dhcp_script.specs.ScriptReader.{script4_at, script6_at, script_at, script_in}
use Rattle.dhcp_script.specs.Version.{family4, first_line6}
use Rattle.dhcp_script.proofs.ChoiceLaws.{IsCodec-choice}
use Rattle.dhcp_script.proofs.Script4Laws.{IsCodec-script4}
use Rattle.dhcp_script.proofs.Script6Laws.{IsCodec-script6}

-- ---- the families

-- `4` is not `6`
differ : (a b : ℕ) → a ≡ 52 → b ≡ 54 → a ≡ b → ⊥
differ a b first second same = omega arith

-- the digit of the family
digit4 : (version : Version) (script : Script4) → get_or (script4_text version script) 4 0 ≡ 52
unfolding script4_text
digit4 One script = refl
digit4 Later script = refl

digit6 : (version : Version) (script : Script6) → get_or (script6_text version script) 4 0 ≡ 54
unfolding script6_text
digit6 One script = refl
digit6 Later script = refl

-- no text is of both families
pub families-apart : (version other : Version) (first : Script4) (second : Script6) → text_in version (V4 first) ≡ text_in other (V6 second) → ⊥
families-apart version other first second e =
    differ (get_or (script4_text version first) 4 0) (get_or (script6_text other second) 4 0) (digit4 version first) (digit6 other second)
    (ap (λ (text : List ℕ). get_or text 4 0) e)

-- a script of an IPv6 client does not begin as one of an IPv4 client does
other_family : (version : Version) (script : Script6) (rest more : List ℕ) → script6_text version script ++ rest ≡ family4 ++ more → ⊥
unfolding script6_text
other_family One script rest more e = differ 52 54 refl refl (sym (ap (λ (text : List ℕ). get_or text 4 0) e))
other_family Later script rest more e = differ 52 54 refl refl (sym (ap (λ (text : List ℕ). get_or text 4 0) e))

-- ---- a script

IsCodec-script : (version : Version) → IsCodec (text_in version) (HasTextIn version) (script_at version)
unfolding script_at
IsCodec-script version =
    IsCodec-choice (text_in version) (HasTextIn version) (tag_at family4) (script4_at version) (after_tag (first_line6 version) (script6_at version)) V4 V6 (IsCodec-script4 version) (IsCodec-script6 version)
    (λ script rest. tag_at-none family4 (script6_text version script ++ rest) (λ more e. other_family version script rest more e)) either
  where
    either : (script : Script) → ((inner : Script4) × (V4 inner ≡ script)) ⊎ ((inner : Script6) × (V6 inner ≡ script))
    either (V4 inner) = inl (inner, refl)
    either (V6 inner) = inr (inner, refl)

-- the whole text
pub IsValue-script : (version : Version) → IsValue (text_in version) (HasTextIn version) (script_in version)
unfolding script_in
IsValue-script version = IsValue-whole (IsCodec-script version)

-- what the reader returns is a reading, and the one script that has the text
pub reading-found : (version : Version) (text : List ℕ) (script : Script) → script_in version text ≡ Some script → (text_in version script ≡ text) × HasTextIn version script
reading-found version text script h = (IsValue-script version).sound text script h

pub reading-none : (version : Version) (text : List ℕ) → script_in version text ≡ None → (script : Script) → HasTextIn version script → text_in version script ≡ text → ⊥
reading-none version = none-found (IsValue-script version)

pub reading-one : (version : Version) (text : List ℕ) (found script : Script) → script_in version text ≡ Some found → HasTextIn version script → text_in version script ≡ text
    → Some found ≡ Some script
reading-one version = one-found (IsValue-script version)

-- ---- the versions

-- `2` and `3` are not `1`
differ_version : (a b : ℕ) → 50 ≤ a → b ≡ 49 → a ≡ b → ⊥
differ_version a b is other same = omega arith

-- the digit of the version
version1 : (script : Script) → get_or (text_in One script) 6 0 ≡ 49
unfolding script4_text script6_text
version1 (V4 script) = refl
version1 (V6 script) = refl

later : (script : Script) → 50 ≤ get_or (text_in Later script) 6 0
unfolding script4_text script6_text
later (V4 script) = by_forms script.forms
  where
    by_forms : (forms : Option DhcpV4MessageForms) → 50 ≤ get_or (script4_text Later (record script { forms = forms })) 6 0
    by_forms None = omega arith
    by_forms (Some forms) = omega arith
later (V6 script) = omega arith

-- no text is of version 1 and of a later one
pub versions-apart : (first second : Script) → text_in One first ≡ text_in Later second → ⊥
versions-apart first second e =
    differ_version (get_or (text_in Later second) 6 0) (get_or (text_in One first) 6 0) (later second) (version1 first)
    (sym (ap (λ (text : List ℕ). get_or text 6 0) e))
