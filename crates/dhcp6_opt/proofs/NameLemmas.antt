-- Domain names, one label after the other.
use Rattle.std.proofs.Common.{◌≡◌, ◌==◌, ℕ, zero, suc, ◌+◌, ◌<◌, ◌≤◌, Bool, true, false, cond, get_or, length-append, take, List, [], ◌∷◌, ◌++◌, append_assoc, append-nil, length, Option, Some, None, option_map, refl, sym, ap, subst, ◌∙◌, arith}
use Rattle.std.specs.Int.{w8, from_be_bytes}
use Rattle.std.specs.List.{flat_map, onto_first}
use Rattle.std.proofs.lemmas.Grind.{flat_map-append}
use Rattle.std.proofs.lemmas.List.{take_more}
use Rattle.std.proofs.lemmas.List.Splits.{length-slice_split}
use Rattle.std.proofs.lemmas.List.Concat.{flat_map-cons}
use Rattle.std.proofs.lemmas.Option.{none-some, same_Some, option_and_then_some}
use Rattle.dhcp_wire.specs.Field.{Read, ◌>>=◌, bytes_at, number_at, text_at, text_of}
use Rattle.dhcp_wire.proofs.FieldLemmas.{Within, Within-then, Within-map, Within-bytes_at}
use Rattle.dhcp6_opt.specs.DomainName.{is_label, label_at, labels_within, name_at, names_within, names_in, text_of_labels, with_label, written_label, written_name, between_dots}

-- ---- a label

-- at most n bytes follow a value that is kept by a test
Within-kept : {A : Type 0} (n : ℕ) (test : Bool) (read : A × List ℕ) → length read.1 ≤ n → Within n (cond test (Some read) None)
Within-kept n true read few = few
Within-kept n false read few = tt

-- what is found is kept
Within-text : (n : ℕ) (text : Option (List ℕ)) (rest : List ℕ) → length rest ≤ n → Within n (text >>= λ found. Some (found, rest))
Within-text n None rest few = tt
Within-text n (Some text) rest few = few

-- a label takes its length byte at least
pub Within-label_at : (n : ℕ) (bytes : List ℕ) → length bytes ≤ n + 1 → Within n (label_at bytes)
Within-label_at n bytes few =
    Within-then n (number_at w8 bytes) _ (Within-map n (bytes_at 1 bytes) (from_be_bytes w8) (Within-bytes_at n 1 bytes few))
    (λ len less. Within-then n (text_at len.0 len.1) _
    (Within-then n (bytes_at len.0 len.1) _ (Within-bytes_at n len.0 len.1 (omega arith)) (λ field fewer. Within-text n (text_of field.0) field.1 fewer))
    (λ label least. Within-kept n (is_label label.0) label least))

-- a label that is read has a byte
has_byte : (label : List ℕ) → is_label label ≡ true → label ≡ [] → ⊥
has_byte label is none = let empty = subst (λ label. is_label label ≡ true) none is in cc

pub label_at-some : (bytes rest label : List ℕ) → label_at bytes ≡ Some (label, rest) → label ≡ [] → ⊥
label_at-some bytes rest label is =
    option_and_then_some _ (number_at w8 bytes) _ is (λ len at_len then_text.
    option_and_then_some _ (text_at len.0 len.1) _ then_text (λ found at_found kept.
    by_test found (is_label found.0) refl kept))
  where
    by_test : (found : List ℕ × List ℕ) (test : Bool) → is_label found.0 ≡ test → cond test (Some found) None ≡ Some (label, rest) → label ≡ [] → ⊥
    by_test found true is kept none = has_byte found.0 is (ap (λ pair. pair.0) (same_Some _ _ kept) ∙ none)
    by_test found false is kept none = none-some _ kept

-- ---- labels

-- the labels of the name at the front, and the bytes after it
abbrev pub labels_at : List ℕ → Read (List (List ℕ))
labels_at bytes = labels_within (length bytes) bytes

-- a label, and the labels that follow it
abbrev after : (List ℕ → Read (List (List ℕ))) → Read (List ℕ) → Read (List (List ℕ))
after later read = read >>= λ label. later label.1 >>= λ labels. Some (label.0 ∷ labels.0, labels.1)

after_same : (n : ℕ) (one other : List ℕ → Read (List (List ℕ))) (read : Read (List ℕ)) → Within n read → ((rest : List ℕ) → length rest ≤ n → one rest ≡ other rest) → after one read ≡ after other read
after_same n one other None within same = refl
after_same n one other (Some label) within same = ap (λ labels. labels >>= λ labels. Some (label.0 ∷ labels.0, labels.1)) (same label.1 within)

-- once it is enough, more fuel changes nothing
pub labels_within-enough : (fuel more : ℕ) (bytes : List ℕ) → length bytes ≤ fuel → length bytes ≤ more → labels_within fuel bytes ≡ labels_within more bytes
unfolding labels_within
labels_within-enough fuel more [] few less = refl
labels_within-enough fuel more (zero ∷ rest) few less = refl
labels_within-enough zero more (suc byte ∷ rest) few less = absurd (omega arith)
labels_within-enough (suc fuel) zero (suc byte ∷ rest) few less = absurd (omega arith)
labels_within-enough (suc fuel) (suc more) (suc byte ∷ rest) few less =
    after_same (length rest) (labels_within fuel) (labels_within more) (label_at (suc byte ∷ rest)) (Within-label_at (length rest) (suc byte ∷ rest) (omega arith))
    (λ later within. labels_within-enough fuel more later (omega arith) (omega arith))

-- the labels of bytes that begin with a label: it, and those of the rest
pub labels_at-cons : (byte : ℕ) (rest : List ℕ) → (byte ≡ 0 → ⊥) → labels_at (byte ∷ rest) ≡ after labels_at (label_at (byte ∷ rest))
unfolding labels_within
labels_at-cons zero rest some = absurd (some refl)
labels_at-cons (suc byte) rest some =
    after_same (length rest) (labels_within (length rest)) labels_at (label_at (suc byte ∷ rest)) (Within-label_at (length rest) (suc byte ∷ rest) (omega arith))
    (λ later within. labels_within-enough (length rest) (length later) later within (omega arith))

-- what follows a label is shorter
pub label_at-shorter : (byte : ℕ) (bytes rest label : List ℕ) → label_at (byte ∷ bytes) ≡ Some (label, rest) → length rest < length (byte ∷ bytes)
label_at-shorter byte bytes rest label is =
    let within = subst (Within (length bytes)) is (Within-label_at (length bytes) (byte ∷ bytes) (omega arith)) in omega (arith, within)

-- ---- their text

-- a label after a dot
abbrev dotted : List ℕ → List ℕ
dotted label = 46 ∷ label

-- a text, and more labels
abbrev pub continued : List ℕ → List (List ℕ) → List ℕ
continued [] labels = text_of_labels labels
continued (byte ∷ text) labels = (byte ∷ text) ++ flat_map dotted labels

-- the first label, and a dot and a label for each more
text-dotted : (label : List ℕ) (labels : List (List ℕ)) → text_of_labels (label ∷ labels) ≡ label ++ flat_map dotted labels
text-dotted label [] = sym (append-nil label)
text-dotted label (next ∷ labels) =
    ap (λ text. label ++ 46 ∷ text) (text-dotted next labels) ∙ ap (λ text. label ++ text) (sym (flat_map-cons dotted next labels))

continued-nil : (text : List ℕ) → continued text [] ≡ text
continued-nil [] = refl
continued-nil (byte ∷ text) = append-nil (byte ∷ text)

continued-cons : (text label : List ℕ) (labels : List (List ℕ)) → (label ≡ [] → ⊥) → continued text (label ∷ labels) ≡ continued (with_label text label) labels
continued-cons [] [] labels some = absurd (some refl)
continued-cons [] (byte ∷ label) labels some = text-dotted (byte ∷ label) labels
continued-cons (byte ∷ text) label labels some =
    ap (λ more. (byte ∷ text) ++ more) (flat_map-cons dotted label labels) ∙ sym (append_assoc (byte ∷ text) (46 ∷ label) (flat_map dotted labels))

-- ---- The steps of a reader that keeps the text so far.

-- a text with the labels that are read
abbrev with_labels : List ℕ → Read (List (List ℕ)) → Read (List ℕ)
with_labels text read = option_map (λ read. (continued text read.0, read.1)) read

-- the text so far, and the labels that are left
abbrev pub named_after : List ℕ → List ℕ → Read (List ℕ)
named_after text bytes = with_labels text (labels_at bytes)

-- at a label,
pub name_more : (text label : List ℕ) (byte : ℕ) (bytes later : List ℕ) (all : Read (List ℕ)) → named_after text (byte ∷ bytes) ≡ all → (byte ≡ 0 → ⊥) → label_at (byte ∷ bytes) ≡ Some (label, later) → named_after (with_label text label) later ≡ all
name_more text label byte bytes later all so_far some is =
    sym (joined (labels_at later)) ∙ ap (λ read. with_labels text (after labels_at read)) (sym is)
    ∙ ap (with_labels text) (sym (labels_at-cons byte bytes some)) ∙ so_far
  where
    joined : (labels : Read (List (List ℕ))) → with_labels text (labels >>= λ labels. Some (label ∷ labels.0, labels.1)) ≡ with_labels (with_label text label) labels
    joined None = refl
    joined (Some labels) = ap (λ made. Some (made, labels.1)) (continued-cons text label labels.0 (label_at-some (byte ∷ bytes) later label is))

-- at what is no label,
pub name_refused : (text : List ℕ) (byte : ℕ) (bytes : List ℕ) (all : Read (List ℕ)) → named_after text (byte ∷ bytes) ≡ all → (byte ≡ 0 → ⊥) → label_at (byte ∷ bytes) ≡ None → all ≡ None
name_refused text byte bytes all so_far some is =
    sym so_far ∙ ap (with_labels text) (labels_at-cons byte bytes some ∙ ap (after labels_at) is)

-- at the zero byte,
pub name_ended : (text : List ℕ) (byte : ℕ) (later : List ℕ) (all : Read (List ℕ)) → named_after text (byte ∷ later) ≡ all → byte ≡ 0 → all ≡ Some (text, later)
unfolding labels_within
name_ended text zero later all so_far is = sym so_far ∙ ap (λ made. Some (made, later)) (continued-nil text)
name_ended text (suc byte) later all so_far is = absurd (omega (arith, is))

-- and at the end.
pub name_open : (text bytes : List ℕ) (all : Read (List ℕ)) → named_after text bytes ≡ all → length bytes ≡ 0 → all ≡ Some (text, bytes)
unfolding labels_within
name_open text [] all so_far is = sym so_far ∙ ap (λ made. Some (made, [])) (continued-nil text)
name_open text (byte ∷ bytes) all so_far is = absurd (omega (arith, is))

-- with no text so far it is the name
pub name_first : (bytes : List ℕ) → named_after [] bytes ≡ name_at bytes
name_first bytes = refl

-- ---- names

-- a name takes a byte at least
Within-labels_within : (fuel n : ℕ) (bytes : List ℕ) → length bytes ≤ n + 1 → Within n (labels_within fuel bytes)
unfolding labels_within
Within-labels_within fuel n [] few = omega arith
Within-labels_within fuel n (zero ∷ rest) few = omega arith
Within-labels_within zero n (suc byte ∷ rest) few = tt
Within-labels_within (suc fuel) n (suc byte ∷ rest) few =
    Within-then n (label_at (suc byte ∷ rest)) _ (Within-label_at n (suc byte ∷ rest) few)
    (λ label less. Within-then n (labels_within fuel label.1) _ (Within-labels_within fuel n label.1 (omega arith)) (λ labels least. least))

pub Within-name_at : (n : ℕ) (bytes : List ℕ) → length bytes ≤ n + 1 → Within n (name_at bytes)
Within-name_at n bytes few = Within-map n (labels_at bytes) text_of_labels (Within-labels_within (length bytes) n bytes few)

-- what follows a name is shorter
pub name_at-shorter : (bytes rest name : List ℕ) → (length bytes ≡ 0 → ⊥) → name_at bytes ≡ Some (name, rest) → length rest < length bytes
name_at-shorter [] rest name some is = absurd (some refl)
name_at-shorter (byte ∷ bytes) rest name some is =
    let within = subst (Within (length bytes)) is (Within-name_at (length bytes) (byte ∷ bytes) (omega arith)) in omega (arith, within)

-- a name, and the names that follow it
abbrev and_names : (List ℕ → Option (List (List ℕ))) → Read (List ℕ) → Option (List (List ℕ))
and_names later read = read >>= λ name. later name.1 >>= λ names. Some (name.0 ∷ names)

names_same : (n : ℕ) (one other : List ℕ → Option (List (List ℕ))) (read : Read (List ℕ)) → Within n read → ((rest : List ℕ) → length rest ≤ n → one rest ≡ other rest) → and_names one read ≡ and_names other read
names_same n one other None within same = refl
names_same n one other (Some name) within same = ap (λ names. names >>= λ names. Some (name.0 ∷ names)) (same name.1 within)

-- once it is enough, more fuel changes nothing
pub names_within-enough : (fuel more : ℕ) (bytes : List ℕ) → length bytes ≤ fuel → length bytes ≤ more → names_within fuel bytes ≡ names_within more bytes
unfolding names_within
names_within-enough zero zero bytes few less = refl
names_within-enough zero (suc more) [] few less = refl
names_within-enough zero (suc more) (byte ∷ bytes) few less = absurd (omega arith)
names_within-enough (suc fuel) zero [] few less = refl
names_within-enough (suc fuel) zero (byte ∷ bytes) few less = absurd (omega arith)
names_within-enough (suc fuel) (suc more) [] few less = refl
names_within-enough (suc fuel) (suc more) (byte ∷ bytes) few less =
    names_same (length bytes) (names_within fuel) (names_within more) (name_at (byte ∷ bytes)) (Within-name_at (length bytes) (byte ∷ bytes) (omega arith))
    (λ rest within. names_within-enough fuel more rest (omega arith) (omega arith))

-- the names of some bytes: the first, and those of the rest
pub names_in-some : (bytes : List ℕ) → (length bytes ≡ 0 → ⊥) → names_in bytes ≡ and_names names_in (name_at bytes)
unfolding names_within
names_in-some [] some = absurd (some refl)
names_in-some (byte ∷ bytes) some =
    names_same (length bytes) (names_within (length bytes)) names_in (name_at (byte ∷ bytes)) (Within-name_at (length bytes) (byte ∷ bytes) (omega arith))
    (λ rest within. names_within-enough (length bytes) (length rest) rest within (omega arith))

-- the names so far, and those of some bytes
abbrev pub names_after : List (List ℕ) → List ℕ → Option (List (List ℕ))
names_after done bytes = option_map (λ later. done ++ later) (names_in bytes)

-- The steps of a reader that keeps the names so far. With one more name,
pub names_more : (done : List (List ℕ)) (bytes rest name : List ℕ) (all : Option (List (List ℕ))) → names_after done bytes ≡ all → (length bytes ≡ 0 → ⊥) → name_at bytes ≡ Some (name, rest) → names_after (done ++ name ∷ []) rest ≡ all
names_more done bytes rest name all so_far some is =
    sym (joined (names_in rest)) ∙ ap (option_map (λ later. done ++ later)) (sym (names_in-some bytes some ∙ ap (and_names names_in) is)) ∙ so_far
  where
    joined : (later : Option (List (List ℕ))) → option_map (λ later. done ++ later) (later >>= λ names. Some (name ∷ names)) ≡ option_map (λ later. (done ++ name ∷ []) ++ later) later
    joined None = refl
    joined (Some names) = ap Some (sym (append_assoc done (name ∷ []) names))

-- at bytes that are no name,
pub names_refused : (done : List (List ℕ)) (bytes : List ℕ) (all : Option (List (List ℕ))) → names_after done bytes ≡ all → (length bytes ≡ 0 → ⊥) → name_at bytes ≡ None → all ≡ None
names_refused done bytes all so_far some is = sym so_far ∙ ap (option_map (λ later. done ++ later)) (names_in-some bytes some ∙ ap (and_names names_in) is)

-- and at the end.
pub names_end : (done : List (List ℕ)) (bytes : List ℕ) (all : Option (List (List ℕ))) → names_after done bytes ≡ all → length bytes ≡ 0 → all ≡ Some done
unfolding names_within
names_end done [] all so_far is = sym so_far ∙ ap Some (append-nil done)
names_end done (byte ∷ bytes) all so_far is = absurd (omega (arith, is))

-- ---- as they are written

-- the labels before a place are written, and then the one at it
pub written_labels-more : (old mid : List ℕ) (labels : List (List ℕ)) (i : ℕ) (label : List ℕ) → i < length labels → label ≡ get_or labels i label → mid ≡ old ++ flat_map written_label (take i labels) → mid ++ written_label label ≡ old ++ flat_map written_label (take (i + 1) labels)
written_labels-more old mid labels i label inside here so_far =
    let last : flat_map written_label (label ∷ []) ≡ written_label label = flat_map-cons written_label label [] ∙ append-nil (written_label label) in
    rw (take_more labels i label inside, ← here, flat_map-append written_label (take i labels) (label ∷ []), last, so_far) (append_assoc old (flat_map written_label (take i labels)) (written_label label))

-- how many bytes labels take: one for each, and their own
length-between_dots : (text : List ℕ) → length (flat_map written_label (between_dots text)) ≡ length text + 1
length-between_dots [] = refl
length-between_dots (byte ∷ text) =
    elim (byte == 46) as (λ dot. length (flat_map written_label (cond dot ([] ∷ between_dots text) (onto_first byte (between_dots text)))) ≡ length (byte ∷ text) + 1) [
      | true ↦ let later = length-between_dots text in ap length (flat_map-cons written_label [] (between_dots text)) ∙ omega (arith, later)
      | false ↦ let later = length-between_dots text in first byte (between_dots text) (between_dots-some text) ∙ omega (arith, later)
    ]
  where
    between_dots-some : (text : List ℕ) → between_dots text ≡ [] → ⊥
    between_dots-some text none = absurd (omega (arith, length-slice_split (λ byte. byte == 46) text, ap length none))

    first : (byte : ℕ) (labels : List (List ℕ)) → (labels ≡ [] → ⊥) → length (flat_map written_label (onto_first byte labels)) ≡ length (flat_map written_label labels) + 1
    first byte [] some = absurd (some refl)
    first byte (label ∷ labels) some =
        ap length (flat_map-cons written_label (byte ∷ label) labels) ∙ simp length-append (omega (arith)) ∙ ap (λ bytes. length bytes + 1) (sym (flat_map-cons written_label label labels))

-- a name that is not empty is written by what stands between its dots
pub written_name-some : (text : List ℕ) → (text ≡ [] → ⊥) → written_name text ≡ flat_map written_label (between_dots text) ++ 0 ∷ []
unfolding written_name
written_name-some [] some = absurd (some refl)
written_name-some (byte ∷ text) some = refl

pub written_name-nil : (text : List ℕ) → text ≡ [] → written_name text ≡ 0 ∷ []
unfolding written_name
written_name-nil text none = rw none refl

-- how many bytes a name takes
pub length-written_name-some : (text : List ℕ) → (length text ≡ 0 → ⊥) → length (written_name text) ≡ length text + 2
length-written_name-some text some =
    let labels : length (flat_map written_label (between_dots text)) ≡ length text + 1 = length-between_dots text in
    ap length (written_name-some text (λ none. some (ap length none))) ∙ length-append (flat_map written_label (between_dots text)) (0 ∷ []) ∙ omega (arith, labels)

pub length-written_name-nil : (text : List ℕ) → length text ≡ 0 → length (written_name text) ≡ 1
unfolding written_name
length-written_name-nil [] none = refl
length-written_name-nil (byte ∷ text) none = absurd (omega (arith, none))

pub empty_of_length : (text : List ℕ) → length text ≡ 0 → text ≡ []
empty_of_length [] none = refl
empty_of_length (byte ∷ text) none = absurd (omega (arith, none))
