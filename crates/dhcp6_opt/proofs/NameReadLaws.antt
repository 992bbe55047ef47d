-- Names read back as they are written.
use Rattle.std.proofs.Common.{◌≡◌, ℕ, zero, suc, ◌+◌, ◌<◌, ◌≤◌, Bool, true, false, cond, eqb, ltb, not, List, [], ◌∷◌, ◌++◌, append-nil, append_assoc, length, length-append, length-drop, length-take, get_or, Some, None, option_map, refl, sym, ap, subst, ◌∙◌, arith}
use Rattle.std.specs.Int.{w8}
use Rattle.std.specs.List.{All, AllByRecursion, after_first, before_first, flat_map, list_all, position_or_len}
use Rattle.std.specs.Str.{IsUtf8}
use Rattle.std.proofs.lemmas.Bool.{and_from, and_parts, eqb-true, leb-true, ltb-false, ltb-true}
use Rattle.std.proofs.lemmas.List.{get_or-take}
use Rattle.std.proofs.lemmas.List.Concat.{flat_map-cons}
use Rattle.std.proofs.lemmas.List.Folds.{list_any_none}
use Rattle.std.proofs.lemmas.List.Splits.{join_with_byte-slice_split, slice_split_first, slice_split_none}
use Rattle.std.proofs.lemmas.List.Sums.{fails_before_first, passes_at_first}
use Rattle.std.proofs.lemmas.Str.{IsCharBoundary-after_ascii, IsCharBoundary-before_ascii, IsUtf8-drop, IsUtf8-take}
use Rattle.dhcp_wire.specs.Field.{◌>>=◌, text_at}
use Rattle.dhcp_wire.proofs.FieldLaws.{big_endian_8, number_at-to_be_bytes, text_at-append}
use Rattle.dhcp6_opt.specs.DomainName.{between_dots, has_label_length, is_label, label_at, labels_within, name_at, name_fits, name_in, names_in, names_within, text_of_labels, written_label, written_name}
use Rattle.dhcp6_opt.proofs.NameLemmas.{labels_at, labels_at-cons, length-written_name-some, names_in-some, written_name-nil, written_name-some}

-- ---- what stands between the dots

-- whether a byte is a dot
abbrev dot : ℕ → Bool
dot byte = eqb byte 46

-- a text of UTF-8 without a dot
record IsPart (part : List ℕ) : Type 0 where
  utf8 : IsUtf8 part
  no_dot : All (λ byte. dot byte ≡ false) part

-- what stands between the dots of a text of UTF-8 are such texts, if it is so of shorter ones
parts_of_rest : (text : List ℕ) → IsUtf8 text → ((rest : List ℕ) → IsUtf8 rest → length rest < length text → AllByRecursion IsPart (between_dots rest)) → AllByRecursion IsPart (between_dots text)
parts_of_rest text utf8 shorter =
    elim (ltb (position_or_len dot text) (length text)) as (λ b. ltb (position_or_len dot text) (length text) ≡ b → AllByRecursion IsPart (between_dots text)) [
      | true ↦ λ is.
          let at : ℕ = position_or_len dot text in
          let inside : at < length text = ltb-true _ _ is in
          let ascii : get_or text at 0 < 128 = omega (arith, eqb-true _ _ (passes_at_first dot text 0 inside)) in
          let front : List ℕ = before_first dot text in
          let rest : List ℕ = after_first dot text in
          let first : IsPart front = record {
            utf8 = IsUtf8-take text at utf8 (IsCharBoundary-before_ascii text at inside ascii);
            no_dot = λ k d less.
                let before : k < at = omega (arith, less, length-take at text) in
                ap dot (get_or-take at text k d before) ∙ fails_before_first dot text k d before;
          } in
          let later : IsUtf8 rest = IsUtf8-drop text (at + 1) utf8 (IsCharBoundary-after_ascii text at utf8 inside ascii) in
          subst (AllByRecursion IsPart) (sym (slice_split_first dot text 0 inside)) (first, shorter rest later (omega (arith, inside, length-drop (at + 1) text)))
      | false ↦ λ is.
          let none : All (λ byte. dot byte ≡ false) text = λ k d inside. fails_before_first dot text k d (omega (arith, inside, ltb-false _ _ is)) in
          subst (AllByRecursion IsPart) (sym (slice_split_none dot text none)) (record { utf8 = utf8; no_dot = none }, tt)
    ] refl

parts_of : (fuel : ℕ) (text : List ℕ) → length text ≤ fuel → IsUtf8 text → AllByRecursion IsPart (between_dots text)
parts_of zero text few utf8 = parts_of_rest text utf8 (λ rest later less. absurd (omega (arith, few, less)))
parts_of (suc fuel) text few utf8 = parts_of_rest text utf8 (λ rest later less. parts_of fuel rest (omega (arith, few, less)) later)

-- a label of UTF-8
record IsTextLabel (label : List ℕ) : Type 0 where
  utf8 : IsUtf8 label
  is : is_label label ≡ true

text_labels : (parts : List (List ℕ)) → AllByRecursion IsPart parts → list_all has_label_length parts ≡ true → AllByRecursion IsTextLabel parts
text_labels [] are fit = tt
text_labels (part ∷ parts) are fit =
    let lengths = and_parts _ _ fit in (
      record { utf8 = are.0.utf8; is = and_from _ _ lengths.0 (ap not (list_any_none dot part are.0.no_dot)) },
      text_labels parts are.1 lengths.1,
    )

-- ---- labels and names

label_length : (label : List ℕ) → is_label label ≡ true → (1 ≤ length label) × (length label ≤ 63)
label_length label is =
    let lengths = and_parts _ _ (and_parts _ _ is).0 in (leb-true _ _ lengths.0, leb-true _ _ lengths.1)

-- a label reads back, whatever follows it
label_back : (label rest : List ℕ) → IsTextLabel label → label_at (written_label label ++ rest) ≡ Some (label, rest)
label_back label rest is =
    ap (λ read. read >>= λ length. text_at length.0 length.1 >>= λ label. cond (is_label label.0) (Some label) None) (number_at-to_be_bytes w8 big_endian_8 (length label) (label ++ rest) (omega (arith, (label_length label is.is).1)))
    ∙ ap (λ read. read >>= λ label. cond (is_label label.0) (Some label) None) (text_at-append label rest is.utf8)
    ∙ ap (λ b. cond b (Some (label, rest)) None) is.is

-- so do labels, up to their zero byte
labels_back : (labels : List (List ℕ)) (rest : List ℕ) → AllByRecursion IsTextLabel labels → labels_at (flat_map written_label labels ++ 0 ∷ rest) ≡ Some (labels, rest)
unfolding labels_within
labels_back [] rest are = refl
labels_back (label ∷ labels) rest are =
    let later : List ℕ = flat_map written_label labels ++ 0 ∷ rest in
    let first = label_length label are.0.is in
    ap (λ bytes. labels_at (bytes ++ 0 ∷ rest)) (flat_map-cons written_label label labels)
    ∙ ap labels_at (append_assoc (written_label label) (flat_map written_label labels) (0 ∷ rest))
    ∙ labels_at-cons _ (label ++ later) (λ none. omega (arith, none, first.0, first.1))
    ∙ ap (λ read. read >>= λ label. labels_at label.1 >>= λ labels. Some (label.0 ∷ labels.0, labels.1)) (label_back label later are.0)
    ∙ ap (λ read. read >>= λ labels. Some (label ∷ labels.0, labels.1)) (labels_back labels rest are.1)

-- a name that can be written reads back, whatever follows it
pub name_back : (text rest : List ℕ) → IsUtf8 text → name_fits text ≡ true → name_at (written_name text ++ rest) ≡ Some (text, rest)
unfolding name_fits labels_within
name_back [] rest utf8 fit = ap (λ bytes. name_at (bytes ++ rest)) (written_name-nil [] refl)
name_back (byte ∷ text) rest utf8 fit =
    let whole : List ℕ = byte ∷ text in
    let labels = text_labels (between_dots whole) (parts_of (length whole) whole (omega arith) utf8) fit in
    ap (λ bytes. name_at (bytes ++ rest)) (written_name-some whole (λ none. omega (arith, ap length none)))
    ∙ ap name_at (append_assoc (flat_map written_label (between_dots whole)) (0 ∷ []) rest)
    ∙ ap (option_map (λ read. (text_of_labels read.0, read.1))) (labels_back (between_dots whole) rest labels)
    ∙ ap (λ made. Some (made, rest)) (join_with_byte-slice_split 46 whole)

-- so does one that is a value
pub name_in_back : (text : List ℕ) → IsUtf8 text → name_fits text ≡ true → name_in (written_name text) ≡ Some text
name_in_back text utf8 fit =
    ap (option_map (λ read. read.0)) (ap name_at (sym (append-nil (written_name text))) ∙ name_back text [] utf8 fit)

-- a name takes a byte at least
some_name : (text : List ℕ) → length (written_name text) ≡ 0 → ⊥
some_name [] none = absurd (omega (arith, none, ap length (written_name-nil [] refl)))
some_name (byte ∷ text) none = absurd (omega (arith, none, length-written_name-some (byte ∷ text) (λ zero. omega (arith, zero))))

-- the names of a value read back
pub names_back : (names : List (List ℕ)) → AllByRecursion IsUtf8 names → list_all name_fits names ≡ true → names_in (flat_map written_name names) ≡ Some names
unfolding names_within
names_back [] utf8 fit = refl
names_back (name ∷ names) utf8 fit =
    let parts = and_parts _ _ fit in
    let later : List ℕ = flat_map written_name names in
    ap names_in (flat_map-cons written_name name names)
    ∙ names_in-some (written_name name ++ later) (λ none. some_name name (omega (arith, none, length-append (written_name name) later)))
    ∙ ap (λ read. read >>= λ name. names_in name.1 >>= λ names. Some (name.0 ∷ names)) (name_back name later utf8.0 parts.0)
    ∙ ap (λ read. read >>= λ names. Some (name ∷ names)) (names_back names utf8.1 parts.1)
