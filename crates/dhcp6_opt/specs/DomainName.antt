-- Domain names, RFC 1035 section 3.1 and RFC 8415 section 10: labels, each with its length before
-- it, and a zero byte. Their text has a dot between any two labels. Beyond that section a name may
-- end where its value does, and may have more than 255 bytes.
use Rattle.std.specs.Prelude.{ℕ, zero, suc, ◌&&◌, Bool, not, ◌==◌, List, [], ◌∷◌, ◌++◌, length, Option, Some, None, option_map, nat_le, if◌then◌else◌}
use Rattle.std.specs.Int.{w8, to_be_bytes}
use Rattle.std.specs.List.{flat_map, join_with_byte, list_all, list_any, slice_split}
use Rattle.dhcp_wire.specs.Field.{Read, ◌>>=◌, number_at, text_at}

-- whether some bytes have the length of a label: 1 to 63
abbrev pub has_label_length : List ℕ → Bool
has_label_length bytes = nat_le 1 (length bytes) && nat_le (length bytes) 63

-- whether a text is a label: it has this length and no dot
abbrev pub is_label : List ℕ → Bool
is_label text = has_label_length text && not (list_any (λ byte. byte == 46) text)

-- the label at the front: its length, and so many bytes of text
abbrev pub label_at : List ℕ → Read (List ℕ)
label_at bytes = do
  length ← number_at w8 bytes
  label ← text_at length.0 length.1
  if is_label label.0 then Some label else None

-- the labels of the name at the front, up to its zero byte or the end, at most fuel of them
unfoldable pub labels_within : ℕ → List ℕ → Read (List (List ℕ))
labels_within fuel [] = Some ([], [])
labels_within fuel (zero ∷ rest) = Some ([], rest)
labels_within zero (suc byte ∷ rest) = None
labels_within (suc fuel) (suc byte ∷ rest) = do
  label ← label_at (suc byte ∷ rest)
  labels ← labels_within fuel label.1
  Some (label.0 ∷ labels.0, labels.1)

-- the text of these labels
abbrev pub text_of_labels : List (List ℕ) → List ℕ
text_of_labels labels = join_with_byte 46 labels

-- a text with one label more, after a dot where it is not the first
abbrev pub with_label : List ℕ → List ℕ → List ℕ
with_label [] label = label
with_label (byte ∷ text) label = (byte ∷ text) ++ 46 ∷ label

-- the name at the front: the text of its labels. There are no more labels than bytes.
abbrev pub name_at : List ℕ → Read (List ℕ)
name_at bytes =
    option_map (λ read. (text_of_labels read.0, read.1)) (labels_within (length bytes) bytes)

-- names one after the other up to the end, at most fuel of them
unfoldable pub names_within : ℕ → List ℕ → Option (List (List ℕ))
names_within fuel [] = Some []
names_within zero (byte ∷ bytes) = None
names_within (suc fuel) (byte ∷ bytes) = do
  name ← name_at (byte ∷ bytes)
  names ← names_within fuel name.1
  Some (name.0 ∷ names)

-- the names of a value, which they fill
abbrev pub names_in : List ℕ → Option (List (List ℕ))
names_in value = names_within (length value) value

-- the name at the front of a value; what follows its zero byte is ignored
abbrev pub name_in : List ℕ → Option (List ℕ)
name_in value = option_map (λ read. read.0) (name_at value)

-- what stands between the dots of a text, at one place at least
abbrev pub between_dots : List ℕ → List (List ℕ)
between_dots text = slice_split (λ byte. byte == 46) text

-- the labels of a text: what stands between its dots; the empty text has none
abbrev pub labels_of : List ℕ → List (List ℕ)
labels_of [] = []
labels_of (byte ∷ text) = between_dots (byte ∷ text)

-- a label as it is written
abbrev pub written_label : List ℕ → List ℕ
written_label label = to_be_bytes w8 (length label) ++ label

-- a name as it is written: its labels, and a zero byte
unfoldable pub written_name : List ℕ → List ℕ
written_name text = flat_map written_label (labels_of text) ++ 0 ∷ []

-- whether a name can be written: its labels have 1 to 63 bytes each
unfoldable pub name_fits : List ℕ → Bool
name_fits text = list_all has_label_length (labels_of text)
