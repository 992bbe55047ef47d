-- Fields of a line are read in one way alone.
use Rattle.std.proofs.Common.{◌≡◌, ◌≢◌, ℕ, ◌<◌, ◌==◌, eqb, Bool, true, false, cond, List, [], ◌∷◌, ◌++◌, length, Option, Some, None, option_map, Err, refl, sym, ap, ◌∙◌, append_assoc, length-append, eq-eqb, arith}
use Rattle.std.specs.Prelude.{All, IfSome}
use Rattle.std.specs.List.{slice_split}
use Rattle.std.specs.Str.{IsUtf8, bytes_eq}
use Rattle.std.proofs.lemmas.Bool.{false≢true, ne_eqb}
use Rattle.std.proofs.lemmas.Slice.Eq.{bytes_eq-Decides}
use Rattle.std.proofs.lemmas.List.Elements.{All-cons, All-nil, All-weaker}
use Rattle.std.proofs.lemmas.List.Splits.{slice_split_at, slice_split_none}
use Rattle.dhcp_wire.specs.Field.{Read, ◌>>=◌}
use Rattle.dhcp_stream.specs.declared.text_reader.ReadError.{ReadError}
use Rattle.dhcp_stream.specs.declared.text_reader.ReadError.TheVariants.{Malformed, OutOfMemory}
use Rattle.dhcp_stream.specs.TextReader.{field_at, hex_in, hex_utf8_in, Finds}
use Rattle.dhcp_stream.proofs.CodecLaws.{HasNo, IsValue, by_reading, field_at-sound, found, map_some}
use Rattle.dhcp_stream.proofs.ValueLemmas.{IsValue-hex, IsValue-hex_utf8}
use Rattle.dhcp_script.specs.Field.{flag_text, or_word}
use Rattle.dhcp_script.specs.FieldReader.{each_in, flag_in, items_in, word_or}

-- a field that is the first word, the second, or neither
pub flag_in-set : (set unset field : List ℕ) → bytes_eq field set ≡ true → flag_in set unset field ≡ Some true
flag_in-set set unset field same = rw same refl

pub flag_in-unset : (set unset field : List ℕ) → bytes_eq field set ≡ false → bytes_eq field unset ≡ true → flag_in set unset field ≡ Some false
flag_in-unset set unset field other same = rw (other, same) refl

pub flag_in-none : (set unset field : List ℕ) → bytes_eq field set ≡ false → bytes_eq field unset ≡ false → flag_in set unset field ≡ None
flag_in-none set unset field other differs = rw (other, differs) refl

-- ---- values, and what they are printed as

-- a text is equal to itself, by the test
pub same_text : (text : List ℕ) → bytes_eq text text ≡ true
same_text text = (bytes_eq-Decides text text).1 refl

-- a text that is not this one, by the test
pub other_text : (xs ys : List ℕ) → xs ≢ ys → bytes_eq xs ys ≡ false
other_text xs ys other = by_test (bytes_eq xs ys) refl
  where
    by_test : (passes : Bool) → bytes_eq xs ys ≡ passes → bytes_eq xs ys ≡ false
    by_test true e = absurd (other ((bytes_eq-Decides xs ys).0 e))
    by_test false e = e

-- one word or another
pub IsValue-flag : (set unset : List ℕ) → unset ≢ set → IsValue (flag_text set unset) (λ flag. Unit {0}) (flag_in set unset)
IsValue-flag set unset differ = record {
  sound = λ field flag h. by_tests field flag (bytes_eq field set) (bytes_eq field unset) refl refl h;
  complete = λ flag fits. of flag;
}
  where
    of : (flag : Bool) → flag_in set unset (flag_text set unset flag) ≡ Some flag
    of true = rw (same_text set) refl
    of false = rw (other_text unset set differ, same_text unset) refl

    by_tests : (field : List ℕ) (flag : Bool) (first second : Bool) → bytes_eq field set ≡ first → bytes_eq field unset ≡ second
        → cond first (Some true) (cond second (Some false) None) ≡ Some flag → (flag_text set unset flag ≡ field) × Unit {0}
    by_tests field true true second e f h = (sym ((bytes_eq-Decides field set).0 e), tt)
    by_tests field false true second e f h = cc h
    by_tests field true false true e f h = cc h
    by_tests field false false true e f h = (sym ((bytes_eq-Decides field unset).0 f), tt)
    by_tests field flag false false e f h = cc h

-- a field, or a word where there is no value
pub IsValue-word_or : {A : Type 0} {print : A → List ℕ} {Fits : A → Type 0} {value : List ℕ → Option A} (word : List ℕ) → IsValue print Fits value
    → ((x : A) → Fits x → print x ≢ word) → IsValue (or_word word print) (λ o. IfSome o Fits) (word_or word value)
IsValue-word_or {A} {print} {Fits} {value} word is other = record {
  sound = λ field o h. by_test field o (bytes_eq field word) refl h;
  complete = λ o fits. of o fits;
}
  where
    of : (o : Option A) → IfSome o Fits → word_or word value (or_word word print o) ≡ Some o
    of None fits = rw (same_text word) refl
    of (Some x) fits = rw (other_text (print x) word (other x fits), is.complete x fits) refl

    by_test : (field : List ℕ) (o : Option A) (same : Bool) → bytes_eq field word ≡ same → cond same (Some None) (option_map Some (value field)) ≡ Some o
        → (or_word word print o ≡ field) × IfSome o Fits
    by_test field None true e h = (sym ((bytes_eq-Decides field word).0 e), tt)
    by_test field (Some x) true e h = cc h
    by_test field None false e h = let step = map_some Some (value field) None h in cc step.2
    by_test field (Some x) false e h =
        let step = map_some Some (value field) (Some x) h in
        let same : step.0 ≡ x = cc step.2 in
        is.sound field x (step.1 ∙ ap Some same)

-- ---- texts in hex

-- bytes in hex that are a text
pub hex_utf8_in-text : (field bytes : List ℕ) → hex_in field ≡ Some bytes → IsUtf8 bytes → hex_utf8_in field ≡ Some bytes
hex_utf8_in-text field bytes read utf8 =
    let is = IsValue-hex.sound field bytes read in
    ap hex_utf8_in (sym is.0) ∙ IsValue-hex_utf8.complete bytes (record { are_bytes = is.1; utf8 = utf8 })

-- bytes in hex that are no text
pub hex_utf8_in-none : (field bytes : List ℕ) → hex_in field ≡ Some bytes → (IsUtf8 bytes → ⊥) → hex_utf8_in field ≡ None
hex_utf8_in-none field bytes is other = sym (by_reading IsValue-hex_utf8 None field (λ text fits spelled.
    let read : Some text ≡ Some bytes = sym (ap hex_in (sym spelled) ∙ IsValue-hex.complete text fits.are_bytes) ∙ is in
    let same : text ≡ bytes = cc read in
    other (rw (← same) fits.utf8)))

-- a field that is no bytes in hex
pub hex_utf8_in-unread : (field : List ℕ) → hex_in field ≡ None → hex_utf8_in field ≡ None
hex_utf8_in-unread field is = sym (by_reading IsValue-hex_utf8 None field (λ text fits spelled.
    let read : Some text ≡ None = sym (ap hex_in (sym spelled) ∙ IsValue-hex.complete text fits.are_bytes) ∙ is in
    cc read))

-- ---- lists

-- a field without its terminator holds none
field_at-whole : (end : ℕ) (text : List ℕ) → field_at end text ≡ None → HasNo end text
unfolding field_at
field_at-whole end [] h = All-nil (λ byte. byte ≢ end)
field_at-whole end (byte ∷ text) h = by_test (λ e. field_at-whole end text e) (eqb byte end) refl h
  where
    longer : List ℕ × List ℕ → List ℕ × List ℕ
    longer read = (byte ∷ read.0, read.1)

    none_below : (read : Read (List ℕ)) → option_map longer read ≡ None → read ≡ None
    none_below None e = refl
    none_below (Some read) e = cc e

    by_test : (field_at end text ≡ None → HasNo end text) → (same : Bool) → eqb byte end ≡ same
        → cond same (found [] text) (option_map longer (field_at end text)) ≡ None → HasNo end (byte ∷ text)
    by_test ih true same h = cc h
    by_test ih false same h =
        All-cons (λ byte. byte ≢ end) byte text (λ e. false≢true (sym same ∙ eq-eqb byte end e)) (ih (none_below (field_at end text) h))

-- bytes that are not this one fail the test
pub fail_test : (end : ℕ) (text : List ℕ) → HasNo end text → All (λ byte. (byte == end) ≡ false) text
fail_test end text whole = All-weaker (λ byte. byte ≢ end) (λ byte. (byte == end) ≡ false) (λ byte other. ne_eqb byte end other) text whole

module _ {A : Type 0} (value : List ℕ → Option A) where
  -- an item, and those after its comma
  items_in-more : (left item rest : List ℕ) → field_at 44 left ≡ Some (item, rest)
      → items_in value left ≡ (value item >>= λ x. items_in value rest >>= λ xs. Some (x ∷ xs))
  items_in-more left item rest cut =
      let split = field_at-sound 44 left item rest cut in
      ap (λ (text : List ℕ). each_in value (slice_split (λ byte. byte == 44) text)) split.0
      ∙ ap (each_in value) (slice_split_at (λ byte. byte == 44) item 44 rest (fail_test 44 item split.1) refl)

  -- the last item
  items_in-last : (left : List ℕ) → field_at 44 left ≡ None → items_in value left ≡ (value left >>= λ x. Some (x ∷ []))
  items_in-last left cut =
      ap (each_in value) (slice_split_none (λ byte. byte == 44) left (fail_test 44 left (field_at-whole 44 left cut)))

  -- items before those that are read
  abbrev pub after_items : List A → Option (List A) → Option (List A)
  after_items items read = option_map (λ later. items ++ later) read

  -- what the loop keeps
  abbrev pub HasItems : Option (List A) → List A → List ℕ → Type 0
  HasItems whole items left = after_items items (items_in value left) ≡ whole

  pub has_items-none : (field : List ℕ) → HasItems (items_in value field) [] field
  has_items-none field = none (items_in value field)
    where
      none : (read : Option (List A)) → after_items [] read ≡ read
      none None = refl
      none (Some read) = refl

  -- an item more
  pub has_items-more : (whole : Option (List A)) (items : List A) (left item rest : List ℕ) (x : A) → HasItems whole items left
      → field_at 44 left ≡ Some (item, rest) → value item ≡ Some x → HasItems whole (items ++ x ∷ []) rest
  has_items-more whole items left item rest x h cut read =
      joined (items_in value rest)
      ∙ ap (after_items items) (sym (items_in-more left item rest cut ∙ ap (λ (read : Option A). read >>= λ x. items_in value rest >>= λ xs. Some (x ∷ xs)) read)) ∙ h
    where
      joined : (later : Option (List A)) → after_items (items ++ x ∷ []) later ≡ after_items items (later >>= λ later. Some (x ∷ later))
      joined None = refl
      joined (Some later) = ap Some (append_assoc items (x ∷ []) later)

  -- an item that has no value
  pub has_items-refused : (whole : Option (List A)) (items : List A) (left item rest : List ℕ) → HasItems whole items left
      → field_at 44 left ≡ Some (item, rest) → value item ≡ None → whole ≡ None
  has_items-refused whole items left item rest h cut read =
      sym h ∙ ap (after_items items) (items_in-more left item rest cut ∙ ap (λ (read : Option A). read >>= λ x. items_in value rest >>= λ xs. Some (x ∷ xs)) read)

  -- the last item
  pub has_items-all : (whole : Option (List A)) (items : List A) (left : List ℕ) (x : A) → HasItems whole items left
      → field_at 44 left ≡ None → value left ≡ Some x → whole ≡ Some (items ++ x ∷ [])
  has_items-all whole items left x h cut read =
      sym h ∙ ap (after_items items) (items_in-last left cut ∙ ap (λ (read : Option A). read >>= λ x. Some (x ∷ [])) read)

  pub has_items-open : (whole : Option (List A)) (items : List A) (left : List ℕ) → HasItems whole items left
      → field_at 44 left ≡ None → value left ≡ None → whole ≡ None
  has_items-open whole items left h cut read =
      sym h ∙ ap (after_items items) (items_in-last left cut ∙ ap (λ (read : Option A). read >>= λ x. Some (x ∷ [])) read)

-- an item and its comma are bytes
pub item-shorter : (left item rest : List ℕ) → field_at 44 left ≡ Some (item, rest) → length rest < length left
item-shorter left item rest cut =
    let long = ap length (field_at-sound 44 left item rest cut).0 in
    let both = length-append item (44 ∷ rest) in
    omega arith

-- a field that gives nothing where another gives nothing
pub finds_err : {X Y : Type 0} (e : ReadError) (expected : Option X) (expected' : Option Y)
    → Finds {X = X} (Err e) expected → (expected ≡ None → expected' ≡ None) → Finds {X = Y} (Err e) expected'
finds_err Malformed expected expected' h so = so h
finds_err OutOfMemory expected expected' h so = tt
