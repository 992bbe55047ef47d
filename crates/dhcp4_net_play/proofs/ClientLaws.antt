-- The end of the line of a client, its random words and the forms of its messages, is read in one way alone.
use Rattle.std.proofs.Common.{◌≡◌, ◌≢◌, ℕ, Bool, true, false, cond, List, [], ◌∷◌, ◌++◌, Some, None, option_map, refl, sym, ap, subst, ◌∙◌, append-nil, arith, codes}
use Rattle.std.specs.Int.{w32}
use Rattle.std.specs.Str.{bytes_eq}
use Rattle.std.proofs.lemmas.Bool.{ne_eqb}
use Rattle.std.proofs.lemmas.List.Elements.{All-append, All-head, All-tail}
use Rattle.std.proofs.lemmas.Slice.Eq.{bytes_eq-Decides}
use Rattle.dhcp_wire.specs.Field.{Read}
use Rattle.dhcp_stream.specs.HexText.{AreWords, words_text}
use Rattle.dhcp_stream.specs.TextReader.{field_at, words_in}
use Rattle.dhcp_stream.proofs.CodecLaws.{HasNo, HasNo-test, IsValue, bind_some, field_at-complete, field_at-sound, map_some}
use Rattle.dhcp_stream.proofs.ValueLemmas.{IsValue-words}
use Rattle.dhcp_script.proofs.Clear.{HasNo-numbers_text}
use Rattle.dhcp4_lease.specs.declared.message_forms.DhcpV4MessageForms.{DhcpV4MessageForms}
use Rattle.dhcp4_lease.specs.declared.message_forms.DhcpV4MessageForms.TheVariants.{Mozim, Rfc2131}
use Rattle.dhcp4_net_play.specs.NetScript.{forms_text}
use Rattle.dhcp4_net_play.specs.Reader.{forms_in, parted_in, words_and_forms_in}

abbrev pub words_and_forms_text : List ℕ × DhcpV4MessageForms → List ℕ
words_and_forms_text parts = words_text parts.0 ++ forms_text parts.1

-- a field that does not hold a byte ends nowhere before one
no_field : (end : ℕ) (text : List ℕ) → HasNo end text → field_at end text ≡ None
unfolding field_at
no_field end [] whole = refl
no_field end (byte ∷ text) whole =
    let other : ℕ → Type 0 = λ byte. byte ≢ end in
    rw (ne_eqb byte end (All-head other byte text whole), no_field end text (All-tail other byte text whole)) refl

-- the word that is read is the one that is printed, after a space
forms_in-sound : (word : List ℕ) (forms : DhcpV4MessageForms) → forms_in word ≡ Some forms → forms_text forms ≡ 32 ∷ word
forms_in-sound word forms h = by_test forms (bytes_eq word (codes "rfc2131")) refl h
  where
    by_test : (forms : DhcpV4MessageForms) (test : Bool) → bytes_eq word (codes "rfc2131") ≡ test → cond test (Some Rfc2131) None ≡ Some forms → forms_text forms ≡ 32 ∷ word
    by_test Rfc2131 true is h = ap (λ xs. 32 ∷ xs) (sym ((bytes_eq-Decides word (codes "rfc2131")).0 is))
    by_test Mozim true is h = cc h
    by_test forms false is h = cc h

words_and_forms-sound : (field : List ℕ) (parts : List ℕ × DhcpV4MessageForms) → words_and_forms_in field ≡ Some parts → (words_and_forms_text parts ≡ field) × AreWords parts.0
unfolding words_and_forms_in
words_and_forms-sound field parts h = by_space (field_at 32 field) refl h
  where
    Is : List ℕ × DhcpV4MessageForms → Type 0
    Is parts = (words_and_forms_text parts ≡ field) × AreWords parts.0

    by_space : (cut : Read (List ℕ)) → field_at 32 field ≡ cut → parted_in cut field ≡ Some parts → Is parts
    by_space None cut h =
        let step = map_some (λ (words : List ℕ). (words, Mozim)) (words_in field) parts h in
        let one = IsValue-words.sound field step.0 step.1 in
        subst Is step.2 (append-nil (words_text step.0) ∙ one.0, one.1)
    by_space (Some found) cut h =
        let forms = bind_some (forms_in found.1) (λ forms. option_map (λ (words : List ℕ). (words, forms)) (words_in found.0)) parts h in
        let step = map_some (λ (words : List ℕ). (words, forms.0)) (words_in found.0) parts forms.2 in
        let one = IsValue-words.sound found.0 step.0 step.1 in
        let split = field_at-sound 32 field found.0 found.1 cut in
        let word = forms_in-sound found.1 forms.0 forms.1 in
        subst Is step.2 (ap (λ words. words ++ forms_text forms.0) one.0 ∙ ap (λ xs. found.0 ++ xs) word ∙ sym split.0, one.1)

words_and_forms-complete : (parts : List ℕ × DhcpV4MessageForms) → AreWords parts.0 → words_and_forms_in (words_and_forms_text parts) ≡ Some parts
unfolding words_and_forms_in
words_and_forms-complete parts fits = by_forms parts.0 parts.1 fits
  where
    clear : (words : List ℕ) → HasNo 32 (words_text words)
    clear words = HasNo-numbers_text w32 32 words (omega arith)

    by_forms : (words : List ℕ) (forms : DhcpV4MessageForms) → AreWords words → words_and_forms_in (words_text words ++ forms_text forms) ≡ Some (words, forms)
    by_forms words Mozim fits =
        ap words_and_forms_in (append-nil (words_text words))
        ∙ ap (λ (cut : Read (List ℕ)). parted_in cut (words_text words)) (no_field 32 (words_text words) (clear words))
        ∙ rw (IsValue-words.complete words fits) refl
    by_forms words Rfc2131 fits =
        ap (λ (cut : Read (List ℕ)). parted_in cut (words_text words ++ codes " rfc2131")) (field_at-complete 32 (words_text words) (codes "rfc2131") (clear words))
        ∙ rw (IsValue-words.complete words fits) refl

pub IsValue-words_and_forms : IsValue words_and_forms_text (λ parts. AreWords parts.0) words_and_forms_in
IsValue-words_and_forms = record { sound = words_and_forms-sound; complete = words_and_forms-complete }

-- it does not hold a line feed
pub no_line_feed : (parts : List ℕ × DhcpV4MessageForms) → HasNo 10 (words_and_forms_text parts)
no_line_feed parts = All-append (λ byte. byte ≢ 10) (words_text parts.0) (forms_text parts.1) (HasNo-numbers_text w32 10 parts.0 (omega arith)) (by_forms parts.1)
  where
    by_forms : (forms : DhcpV4MessageForms) → HasNo 10 (forms_text forms)
    by_forms Mozim = HasNo-test 10 [] refl
    by_forms Rfc2131 = HasNo-test 10 (codes " rfc2131") refl
