-- Names that were read can be written, and are what their labels are.
use Rattle.std.proofs.Common.{◌≡◌, ◌==◌, ◌||◌, ◌<◌, get_or, ℕ, zero, suc, Bool, true, false, cond, not, List, [], ◌∷◌, length, Some, None, refl, sym, ap, subst, ◌∙◌, arith}
use Rattle.std.specs.List.{All, list_all, list_any}
use Rattle.std.proofs.lemmas.Bool.{and_parts, and_from, false≢true}
use Rattle.std.proofs.lemmas.List.Splits.{slice_split_at, slice_split_none}
use Rattle.std.proofs.lemmas.Option.{none-some, same_Some, option_and_then_some}
use Rattle.dhcp_wire.specs.Field.{number_at, text_at}
use Rattle.std.specs.Int.{w8}
use Rattle.dhcp_wire.proofs.FieldLemmas.{mapped}
use Rattle.dhcp6_opt.specs.DomainName.{between_dots, has_label_length, is_label, label_at, labels_of, labels_within, name_at, name_fits, name_in, names_in, names_within, text_of_labels}

neither : (one other : Bool) → not (one || other) ≡ true → (one ≡ false) × (not other ≡ true)
neither true other fails = absurd (false≢true fails)
neither false other none = (refl, none)

-- a text without a byte that passes a test has none that passes
all_fail : (p : ℕ → Bool) (text : List ℕ) → not (list_any p text) ≡ true → (k : ℕ) (d : ℕ) → k < length text → p (get_or text k d) ≡ false
all_fail p [] none k d inside = absurd (omega (arith, inside))
all_fail p (byte ∷ text) none zero d inside = (neither (p byte) (list_any p text) none).0
all_fail p (byte ∷ text) none (suc k) d inside = all_fail p text (neither (p byte) (list_any p text) none).1 k d (omega (arith, inside))

no_dot : (label : List ℕ) → is_label label ≡ true → All (λ byte. (byte == 46) ≡ false) label
no_dot label is = all_fail (λ byte. byte == 46) label (and_parts _ _ is).1

-- what stands between the dots of the text of some labels are these
between_dots-text_of_labels : (label : List ℕ) (labels : List (List ℕ)) → list_all is_label (label ∷ labels) ≡ true → between_dots (text_of_labels (label ∷ labels)) ≡ label ∷ labels
between_dots-text_of_labels label [] are = slice_split_none (λ byte. byte == 46) label (no_dot label (and_parts _ _ are).0)
between_dots-text_of_labels label (next ∷ labels) are =
    slice_split_at (λ byte. byte == 46) label 46 (text_of_labels (next ∷ labels)) (no_dot label (and_parts _ _ are).0) refl
    ∙ ap (λ later. label ∷ later) (between_dots-text_of_labels next labels (and_parts _ _ are).1)

-- the text of some labels is not empty
some_text : (label : List ℕ) (labels : List (List ℕ)) → is_label label ≡ true → text_of_labels (label ∷ labels) ≡ [] → ⊥
some_text [] labels is none = false≢true is
some_text (byte ∷ label) [] is none = cc
some_text (byte ∷ label) (next ∷ labels) is none = cc

of_some : (text : List ℕ) (labels : List (List ℕ)) → (text ≡ [] → ⊥) → between_dots text ≡ labels → labels_of text ≡ labels
of_some [] labels some is = absurd (some refl)
of_some (byte ∷ text) labels some is = is

-- the labels of the text of some labels are these
pub labels_of-text_of_labels : (labels : List (List ℕ)) → list_all is_label labels ≡ true → labels_of (text_of_labels labels) ≡ labels
labels_of-text_of_labels [] are = refl
labels_of-text_of_labels (label ∷ labels) are =
    of_some (text_of_labels (label ∷ labels)) (label ∷ labels) (some_text label labels (and_parts _ _ are).0) (between_dots-text_of_labels label labels are)

-- ---- names that were read

-- a label that is read is one
label_at-is_label : (bytes : List ℕ) (label : List ℕ × List ℕ) → label_at bytes ≡ Some label → is_label label.0 ≡ true
label_at-is_label bytes label is =
    option_and_then_some _ (number_at w8 bytes) _ is (λ len at_len then_text.
    option_and_then_some _ (text_at len.0 len.1) _ then_text (λ found at_found kept.
    by_test found (is_label found.0) refl kept))
  where
    by_test : (found : List ℕ × List ℕ) (test : Bool) → is_label found.0 ≡ test → cond test (Some found) None ≡ Some label → is_label label.0 ≡ true
    by_test found true is kept = subst (λ label. is_label label.0 ≡ true) (same_Some _ _ kept) is
    by_test found false is kept = absurd (none-some _ kept)

-- so are all of a name
labels_within-are : (fuel : ℕ) (bytes : List ℕ) (read : List (List ℕ) × List ℕ) → labels_within fuel bytes ≡ Some read → list_all is_label read.0 ≡ true
unfolding labels_within
labels_within-are fuel [] read is = ap (λ read. list_all is_label read.0) (sym (same_Some _ _ is))
labels_within-are fuel (zero ∷ rest) read is = ap (λ read. list_all is_label read.0) (sym (same_Some _ _ is))
labels_within-are zero (suc byte ∷ rest) read is = absurd (none-some _ is)
labels_within-are (suc fuel) (suc byte ∷ rest) read is =
    option_and_then_some _ (label_at (suc byte ∷ rest)) _ is (λ label at_label then_labels.
    option_and_then_some _ (labels_within fuel label.1) _ then_labels (λ labels at_labels made.
    subst (λ read. list_all is_label read.0 ≡ true) (same_Some _ _ made)
    (and_from _ _ (label_at-is_label (suc byte ∷ rest) label at_label) (labels_within-are fuel label.1 labels at_labels))))

-- labels have lengths of labels
have_lengths : (labels : List (List ℕ)) → list_all is_label labels ≡ true → list_all has_label_length labels ≡ true
have_lengths [] are = refl
have_lengths (label ∷ labels) are = and_from _ _ (and_parts _ _ (and_parts _ _ are).0).0 (have_lengths labels (and_parts _ _ are).1)

-- a name that was read can be written
pub name_fits-name_at : (bytes : List ℕ) (read : List ℕ × List ℕ) → name_at bytes ≡ Some read → name_fits read.0 ≡ true
unfolding name_fits
name_fits-name_at bytes read is =
    let found = mapped (λ read. (text_of_labels read.0, read.1)) (labels_within (length bytes) bytes) read is in
    let are = labels_within-are (length bytes) bytes found.0 found.1 in
    ap (λ read. list_all has_label_length (labels_of read.0)) (sym found.2)
    ∙ ap (list_all has_label_length) (labels_of-text_of_labels found.0.0 are) ∙ have_lengths found.0.0 are

pub name_fits-name_in : (bytes : List ℕ) (name : List ℕ) → name_in bytes ≡ Some name → name_fits name ≡ true
name_fits-name_in bytes name is =
    let found = mapped (λ read. read.0) (name_at bytes) name is in
    ap name_fits (sym found.2) ∙ name_fits-name_at bytes found.0 found.1

-- so can all of a value
names_within-fit : (fuel : ℕ) (bytes : List ℕ) (names : List (List ℕ)) → names_within fuel bytes ≡ Some names → list_all name_fits names ≡ true
unfolding names_within
names_within-fit fuel [] names is = ap (list_all name_fits) (sym (same_Some _ _ is))
names_within-fit zero (byte ∷ bytes) names is = absurd (none-some _ is)
names_within-fit (suc fuel) (byte ∷ bytes) names is =
    option_and_then_some _ (name_at (byte ∷ bytes)) _ is (λ name at_name then_names.
    option_and_then_some _ (names_within fuel name.1) _ then_names (λ later at_later made.
    subst (λ names. list_all name_fits names ≡ true) (same_Some _ _ made)
    (and_from _ _ (name_fits-name_at (byte ∷ bytes) name at_name) (names_within-fit fuel name.1 later at_later))))

pub names_in-fit : (value : List ℕ) (names : List (List ℕ)) → names_in value ≡ Some names → list_all name_fits names ≡ true
names_in-fit value names is = names_within-fit (length value) value names is
