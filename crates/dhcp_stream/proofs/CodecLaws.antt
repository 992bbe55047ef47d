-- Reading and printing undo each other: fields, and what is made of them.
use Rattle.std.proofs.Common.{◌≡◌, ◌≢◌, ℕ, ◌+◌, ◌<◌, ◌==◌, Bool, true, false, not, ◌&&◌, cond, eqb, List, [], ◌∷◌, ◌++◌, length, take, drop, get_or, Option, Some, None, option_map, unwrap_or, Err, refl, sym, ap, ◌∙◌, append_assoc, get_or-take, eq-eqb, arith}
use Rattle.std.specs.Prelude.{All, MatchOption, position}
use denote.Bor.{Bor}
use Rattle.std.specs.Str.{bytes_eq}
use Rattle.std.proofs.lemmas.Bool.{and_parts, eqb-true, false≢true, ne_eqb}
use Rattle.std.proofs.lemmas.Bool.Decides.{Decides-eqb, nat_tests}
use Rattle.std.proofs.lemmas.Slice.Eq.{bytes_eq-Decides, strip_prefix_is}
use Rattle.std.specs.Cmp.Lexicographic.{pointwise}
use Rattle.std.proofs.lemmas.List.Elements.{All-nil, All-cons, All-head, All-tail, All-from_get_or, All-weaker}
use Rattle.std.proofs.lemmas.List.Sums.{AllPass-from_list_all}
use Rattle.std.specs.List.{list_all}
use Rattle.std.proofs.lemmas.List.{length-take-le, take-append-drop, drop_more}
use Rattle.std.proofs.lemmas.List.Quantifiers.{position-Some}
use Rattle.dhcp_stream.proofs.SearchLemmas.{position-found}
use Rattle.dhcp_wire.specs.Field.{Read, ◌>>=◌}
use Rattle.dhcp_stream.specs.Reading.{IsReading}
use Rattle.dhcp_stream.specs.declared.text_reader.ReadError.{ReadError}
use Rattle.dhcp_stream.specs.declared.text_reader.ReadError.TheVariants.{Malformed, OutOfMemory}
use Rattle.dhcp_stream.specs.TextReader.{Skips, Takes, after_tag, both, checked, field_at, first_of, in_field, made_of, tag_at}

-- no byte of a text is this one
abbrev pub HasNo : ℕ → List ℕ → Type 0
HasNo end text = All (λ byte. byte ≢ end) text

-- what fields give, and how values are printed as fields, undo each other
pub record IsValue {A : Type 0} (print : A → List ℕ) (Fits : A → Type 0) (value : List ℕ → Option A) : Type 0 where
  pub sound : (field : List ℕ) (x : A) → value field ≡ Some x → (print x ≡ field) × Fits x
  pub complete : (x : A) → Fits x → value (print x) ≡ Some x

-- reading from the front of a text, and printing, undo each other
pub record IsCodec {A : Type 0} (print : A → List ℕ) (Fits : A → Type 0) (read : List ℕ → Read A) : Type 0 where
  pub sound : (text : List ℕ) (x : A) (rest : List ℕ) → read text ≡ Some (x, rest) → (text ≡ print x ++ rest) × Fits x
  pub complete : (x : A) (rest : List ℕ) → Fits x → read (print x ++ rest) ≡ Some (x, rest)

-- what a chain of two steps shows where it gives a value
pub bind_some : {A B : Type 0} (o : Option A) (f : A → Option B) (y : B) → (o >>= f) ≡ Some y → (x : A) × (o ≡ Some x) × (f x ≡ Some y)
bind_some None f y h = cc h
bind_some (Some x) f y h = (x, refl, h)

-- the same of a map
pub map_some : {A B : Type 0} (f : A → B) (o : Option A) (y : B) → option_map f o ≡ Some y → (x : A) × (o ≡ Some x) × (f x ≡ y)
map_some f None y h = cc h
map_some f (Some x) y h = (x, refl, cc)

-- a value that is read, and what is left
abbrev pub found : {A : Type 0} → A → List ℕ → Read A
found x rest = Some (x, rest)

-- its parts
pub same_read : {A : Type 0} (x y : A) (rest more : List ℕ) → found x rest ≡ found y more → (x ≡ y) × (rest ≡ more)
same_read {A} x y rest more e =
    let pair : A × List ℕ = (x, rest) in
    let same = ap (λ (o : Read A). unwrap_or o pair) e in
    (ap (λ (p : A × List ℕ). p.0) same, ap (λ (p : A × List ℕ). p.1) same)

-- what holds of a value and of what is left, holds of their equals
pub moved : {A : Type 0} (P : A → List ℕ → Type 0) (x y : A) (rest more : List ℕ) → x ≡ y → rest ≡ more → P x rest → P y more
moved P x y rest more same alike p = rw (← same, ← alike) p

-- ---- bytes at the front

pub tag_at-complete : (tag rest : List ℕ) → tag_at tag (tag ++ rest) ≡ Some (tt, rest)
unfolding tag_at
tag_at-complete [] rest = refl
tag_at-complete (byte ∷ tag) rest = rw (eq-eqb byte byte refl) (tag_at-complete tag rest)

pub tag_at-sound : (tag text rest : List ℕ) → tag_at tag text ≡ found tt rest → text ≡ tag ++ rest
unfolding tag_at
tag_at-sound [] text rest h = (same_read tt tt text rest h).1
tag_at-sound (byte ∷ tag) [] rest h = cc h
tag_at-sound (byte ∷ tag) (first ∷ text) rest h = by_test (λ e. tag_at-sound tag text rest e) (eqb first byte) refl h
  where
    by_test : (tag_at tag text ≡ found tt rest → text ≡ tag ++ rest) → (same : Bool) → eqb first byte ≡ same → cond same (tag_at tag text) None ≡ found tt rest → first ∷ text ≡ byte ∷ (tag ++ rest)
    by_test ih true same h = ap (λ xs. first ∷ xs) (ih h) ∙ ap (λ b. b ∷ (tag ++ rest)) (eqb-true first byte same)
    by_test ih false same h = cc h

-- what begins with the tag
pub tag_at-from : (tag text rest : List ℕ) → text ≡ tag ++ rest → tag_at tag text ≡ Some (tt, rest)
tag_at-from tag text rest is = ap (tag_at tag) is ∙ tag_at-complete tag rest

-- what does not
pub tag_at-none : (tag text : List ℕ) → ((rest : List ℕ) → text ≢ tag ++ rest) → tag_at tag text ≡ None
tag_at-none tag text other = none (tag_at tag text) refl
  where
    none : (read : Read (Unit {0})) → tag_at tag text ≡ read → tag_at tag text ≡ None
    none None e = e
    none (Some read) e = absurd (other read.1 (tag_at-sound tag text read.1 e))

-- ---- a field up to its terminator

pub field_at-complete : (end : ℕ) (field rest : List ℕ) → HasNo end field → field_at end (field ++ end ∷ rest) ≡ Some (field, rest)
unfolding field_at
field_at-complete end [] rest whole = rw (eq-eqb end end refl) refl
field_at-complete end (byte ∷ field) rest whole =
    let other : ℕ → Type 0 = λ byte. byte ≢ end in
    rw (ne_eqb byte end (All-head other byte field whole), field_at-complete end field rest (All-tail other byte field whole)) refl

pub field_at-sound : (end : ℕ) (text field rest : List ℕ) → field_at end text ≡ Some (field, rest) → (text ≡ field ++ end ∷ rest) × HasNo end field
unfolding field_at
field_at-sound end [] field rest h = cc h
field_at-sound end (byte ∷ text) field rest h = by_test (λ field rest e. field_at-sound end text field rest e) (eqb byte end) refl h
  where
    other : ℕ → Type 0
    other byte = byte ≢ end

    longer : List ℕ × List ℕ → List ℕ × List ℕ
    longer read = (byte ∷ read.0, read.1)

    by_test : ((field rest : List ℕ) → field_at end text ≡ found field rest → (text ≡ field ++ end ∷ rest) × HasNo end field)
        → (same : Bool) → eqb byte end ≡ same → cond same (found [] text) (option_map longer (field_at end text)) ≡ found field rest
        → (byte ∷ text ≡ field ++ end ∷ rest) × HasNo end field
    by_test ih true same h =
        let parts = same_read [] field text rest h in
        moved (λ field rest. (byte ∷ text ≡ field ++ end ∷ rest) × HasNo end field) [] field text rest parts.0 parts.1
        (ap (λ first. first ∷ text) (eqb-true byte end same), All-nil (λ byte. byte ≢ end))
    by_test ih false same h =
        let more = map_some longer (field_at end text) (field, rest) h in
        let rest_is = ih more.0.0 more.0.1 more.1 in
        let front : byte ∷ more.0.0 ≡ field = ap (λ (p : List ℕ × List ℕ). p.0) more.2 in
        let left : more.0.1 ≡ rest = ap (λ (p : List ℕ × List ℕ). p.1) more.2 in
        moved (λ field rest. (byte ∷ text ≡ field ++ end ∷ rest) × HasNo end field) (byte ∷ more.0.0) field more.0.1 rest front left
        (ap (λ xs. byte ∷ xs) rest_is.0, All-cons (λ byte. byte ≢ end) byte more.0.0 (λ e. false≢true (sym same ∙ eq-eqb byte end e)) rest_is.1)

-- ---- values of fields

-- a value that is printed as the field, and is allowed
pub IsValue-checked : {A : Type 0} (print : A → List ℕ) (is_allowed : A → Bool) (Fits : A → Type 0) (guess : List ℕ → A)
    → ((x : A) → Fits x → guess (print x) ≡ x)
    → ((x : A) → Fits x → is_allowed x ≡ true)
    → ((field : List ℕ) → is_allowed (guess field) ≡ true → print (guess field) ≡ field → Fits (guess field))
    → IsValue print Fits (λ field. checked print is_allowed (guess field) field)
IsValue-checked {A} print is_allowed Fits guess back allowed fitting = record {
  sound = λ field x h.
      let passes = if_some (is_allowed (guess field) && bytes_eq (print (guess field)) field) (guess field) x h in
      let parts = and_parts (is_allowed (guess field)) (bytes_eq (print (guess field)) field) passes.0 in
      let same = (bytes_eq-Decides (print (guess field)) field).0 parts.1 in
      rw (← passes.1) (same, fitting field parts.0 same);
  complete = λ x fits.
      rw (back x fits, allowed x fits, (bytes_eq-Decides (print x) (print x)).1 refl) refl;
}
  where
    if_some : {A : Type 0} (b : Bool) (x y : A) → cond b (Some x) None ≡ Some y → (b ≡ true) × (x ≡ y)
    if_some true x y e = (refl, cc)
    if_some false x y e = cc e

-- what a field gives is its reading
pub by_reading : {A : Type 0} {print : A → List ℕ} {Fits : A → Type 0} {value : List ℕ → Option A} → IsValue print Fits value
    → (read : Option A) (field : List ℕ) → IsReading print Fits read field → read ≡ value field
by_reading {value = value} is (Some x) field h = sym (ap value (sym h.0) ∙ is.complete x h.1)
by_reading {A} {value = value} is None field h = none (value field) refl
  where
    none : (o : Option A) → value field ≡ o → None ≡ o
    none None e = refl
    none (Some x) e = let step = is.sound field x e in absurd (h x step.1 step.0)

-- ---- from the front of a text

-- a value in a field up to its terminator
pub IsCodec-in_field : {A : Type 0} {print : A → List ℕ} {Fits : A → Type 0} {value : List ℕ → Option A} → IsValue print Fits value
    → (end : ℕ) → ((x : A) → Fits x → HasNo end (print x)) → IsCodec (λ x. print x ++ end ∷ []) Fits (in_field value end)
IsCodec-in_field {A} {print} {Fits} {value} is end whole = record {
  sound = λ text x rest h.
      let cut = bind_some (field_at end text) (λ field. value field.0 >>= λ x. Some (x, field.1)) (x, rest) h in
      let step = bind_some (value cut.0.0) (λ x. Some (x, cut.0.1)) (x, rest) cut.2 in
      let parts = same_read step.0 x cut.0.1 rest step.2 in
      let split = field_at-sound end text cut.0.0 cut.0.1 cut.1 in
      let spelled = is.sound cut.0.0 step.0 step.1 in
      moved (λ x rest. (text ≡ (print x ++ end ∷ []) ++ rest) × Fits x) step.0 x cut.0.1 rest parts.0 parts.1
      (split.0 ∙ ap (λ front. front ++ end ∷ cut.0.1) (sym spelled.0) ∙ sym (append_assoc (print step.0) (end ∷ []) cut.0.1), spelled.1);
  complete = λ x rest fits.
      rw (append_assoc (print x) (end ∷ []) rest, field_at-complete end (print x) rest (whole x fits), is.complete x fits) refl;
}

-- bytes, and what is read after them
pub IsCodec-after_tag : {A : Type 0} {print : A → List ℕ} {Fits : A → Type 0} {read : List ℕ → Read A} (tag : List ℕ)
    → IsCodec print Fits read → IsCodec (λ x. tag ++ print x) Fits (after_tag tag read)
IsCodec-after_tag {A} {print} {Fits} {read} tag is = record {
  sound = λ text x rest h.
      let cut = bind_some (tag_at tag text) (λ cut. read cut.1) (x, rest) h in
      let step = is.sound cut.0.1 x rest cut.2 in
      (tag_at-sound tag text cut.0.1 cut.1 ∙ ap (λ xs. tag ++ xs) step.0 ∙ sym (append_assoc tag (print x) rest), step.1);
  complete = λ x rest fits.
      rw (append_assoc tag (print x) rest, tag_at-complete tag (print x ++ rest)) (is.complete x rest fits);
}

-- two values, one after the other
pub IsCodec-both : {A B : Type 0} {print : A → List ℕ} {Fits : A → Type 0} {read : List ℕ → Read A}
    {print' : B → List ℕ} {Fits' : B → Type 0} {read' : List ℕ → Read B}
    → IsCodec print Fits read → IsCodec print' Fits' read'
    → IsCodec (λ (p : A × B). print p.0 ++ print' p.1) (λ p. Fits p.0 × Fits' p.1) (both read read')
IsCodec-both {A} {B} {print} {Fits} {read} {print'} {Fits'} {read'} first second = record {
  sound = λ text p rest h.
      let x = bind_some (read text) (λ x. read' x.1 >>= λ y. Some ((x.0, y.0), y.1)) (p, rest) h in
      let y = bind_some (read' x.0.1) (λ y. Some ((x.0.0, y.0), y.1)) (p, rest) x.2 in
      let parts = same_read (x.0.0, y.0.0) p y.0.1 rest y.2 in
      let one = first.sound text x.0.0 x.0.1 x.1 in
      let two = second.sound x.0.1 y.0.0 y.0.1 y.1 in
      moved (λ (p : A × B) rest. (text ≡ (print p.0 ++ print' p.1) ++ rest) × (Fits p.0 × Fits' p.1)) (x.0.0, y.0.0) p y.0.1 rest parts.0 parts.1
      (one.0 ∙ ap (λ xs. print x.0.0 ++ xs) two.0 ∙ sym (append_assoc (print x.0.0) (print' y.0.0) y.0.1), (one.1, two.1));
  complete = λ p rest fits.
      rw (append_assoc (print p.0) (print' p.1) rest, first.complete p.0 (print' p.1 ++ rest) fits.0, second.complete p.1 rest fits.1) refl;
}

-- a value that is made of what is read
pub IsCodec-made_of : {A B : Type 0} {print : A → List ℕ} {Fits : A → Type 0} {read : List ℕ → Read A}
    → IsCodec print Fits read → (make : A → B) (take_apart : B → A) → ((x : A) → take_apart (make x) ≡ x) → ((y : B) → make (take_apart y) ≡ y)
    → IsCodec (λ y. print (take_apart y)) (λ y. Fits (take_apart y)) (made_of make read)
IsCodec-made_of {A} {B} {print} {Fits} {read} is make take_apart there back = record {
  sound = λ text y rest h.
      let step = map_some (λ (x : A × List ℕ). (make x.0, x.1)) (read text) (y, rest) h in
      let made : make step.0.0 ≡ y = ap (λ (p : B × List ℕ). p.0) step.2 in
      let left : step.0.1 ≡ rest = ap (λ (p : B × List ℕ). p.1) step.2 in
      let one = is.sound text step.0.0 step.0.1 step.1 in
      moved (λ y rest. (text ≡ print (take_apart y) ++ rest) × Fits (take_apart y)) (make step.0.0) y step.0.1 rest made left
      (one.0 ∙ ap (λ x. print x ++ step.0.1) (sym (there step.0.0)), same_fits step.0.0 one.1);
  complete = λ y rest fits.
      rw (is.complete (take_apart y) rest fits, back y) refl;
}
  where
    same_fits : (x : A) → Fits x → Fits (take_apart (make x))
    same_fits x fits = rw (there x) fits

-- ---- what a search for the terminator gives

-- the field before the first terminator
pub field_at-position : (end : ℕ) (text : List ℕ) (len : ℕ) → first_of end text ≡ Some len
    → field_at end text ≡ Some (take len text, drop (len + 1) text)
unfolding first_of
field_at-position end text len is =
    let at = position-Some (λ byte. byte == end) text len 0 is in
    let here : get_or text len 0 ≡ end = eqb-true (get_or text len 0) end at.1 in
    let cut : text ≡ take len text ++ end ∷ drop (len + 1) text =
    sym (take-append-drop len text) ∙ ap (λ xs. take len text ++ xs) (drop_more text len 0 at.0 ∙ ap (λ c. c ∷ drop (len + 1) text) here) in
    let other : ℕ → Type 0 = λ byte. byte ≢ end in
    let fits : length (take len text) ≡ len = length-take-le len text (omega (arith, at.0)) in
    let whole : HasNo end (take len text) = All-from_get_or other (take len text) 0
    (λ k lt same. let below : k < len = omega arith in
    let read = get_or-take len text k 0 below in
    false≢true (sym (at.2 k below) ∙ eq-eqb (get_or text k 0) end (sym read ∙ same))) in
    ap (field_at end) cut ∙ field_at-complete end (take len text) (drop (len + 1) text) whole

-- without a terminator there is no field
pub field_at-none : (end : ℕ) (text : List ℕ) → first_of end text ≡ None → field_at end text ≡ None
unfolding first_of
field_at-none end text is = none (field_at end text) refl
  where
    none : (read : Read (List ℕ)) → field_at end text ≡ read → field_at end text ≡ None
    none None e = e
    none (Some read) e =
        let split = field_at-sound end text read.0 read.1 e in
        absurd (position-found (λ byte. byte == end) read.0 end read.1 (eq-eqb end end refl) (ap (position (λ byte. byte == end)) (sym split.0) ∙ is))

-- what std strips off
pub after_tag_is : (tag text : List ℕ) (found : Option (Bor (List ℕ)))
    → MatchOption found (pointwise eqb (take (length tag) text) tag ≡ false)
    (λ left. (pointwise eqb (take (length tag) text) tag ≡ true) × (left.now ≡ drop (length tag) text) × (length left.now + length tag ≡ length text))
    → MatchOption found (tag_at tag text ≡ None) (λ left. tag_at tag text ≡ Some (tt, left.now))
after_tag_is tag text (Some left) cases = tag_at-from tag text left.now (strip_prefix_is Decides-eqb text tag (Some left) cases)
after_tag_is tag text None cases = tag_at-none tag text (strip_prefix_is Decides-eqb text tag None cases)

-- ---- the same, in other words

-- what is printed alike, of values that fit alike
pub IsCodec-as : {A : Type 0} {print print' : A → List ℕ} {Fits Fits' : A → Type 0} {read : List ℕ → Read A} → IsCodec print Fits read
    → ((x : A) → print x ≡ print' x) → ((x : A) → Fits x → Fits' x) → ((x : A) → Fits' x → Fits x) → IsCodec print' Fits' read
IsCodec-as {print = print} is alike to from = record {
  sound = λ text x rest h.
      let one = is.sound text x rest h in
      (one.0 ∙ ap (λ front. front ++ rest) (alike x), to x one.1);
  complete = λ x rest fits.
      rw (← alike x) (is.complete x rest (from x fits));
}

-- the same of fields
pub IsValue-as : {A : Type 0} {print print' : A → List ℕ} {Fits Fits' : A → Type 0} {value : List ℕ → Option A} → IsValue print Fits value
    → ((x : A) → print x ≡ print' x) → ((x : A) → Fits x → Fits' x) → ((x : A) → Fits' x → Fits x) → IsValue print' Fits' value
IsValue-as is alike to from = record {
  sound = λ field x h.
      let one = is.sound field x h in
      (sym (alike x) ∙ one.0, to x one.1);
  complete = λ x fits.
      rw (← alike x) (is.complete x (from x fits));
}

-- a reading that fails where another fails
pub takes_err : {X Y : Type 0} (e : ReadError) (left left' : List ℕ) (expected : Read X) (expected' : Read Y)
    → Takes {X = X} (Err e) left expected → (expected ≡ None → expected' ≡ None) → Takes {X = Y} (Err e) left' expected'
takes_err Malformed left left' expected expected' h so = so h
takes_err OutOfMemory left left' expected expected' h so = tt

-- no byte of a text that is written out is this one, by a test
pub HasNo-test : (end : ℕ) (text : List ℕ) → list_all (λ byte. not (byte == end)) text ≡ true → HasNo end text
HasNo-test end text h =
    let passes : ℕ → Type 0 = λ byte. not (byte == end) ≡ true in
    let other : ℕ → Type 0 = λ byte. byte ≢ end in
    All-weaker passes other (λ byte pass e. grind (arith, nat_tests)) text (AllPass-from_list_all (λ byte. not (byte == end)) text h)

-- what skipping did
pub skipped : (done : Bool) (old new : List ℕ) (expected : Read (Unit {0})) → Skips done old new expected → done ≡ true → expected ≡ Some (tt, new)
skipped true old new expected h is = h
skipped false old new expected h is = cc is

pub not_skipped : (done : Bool) (old new : List ℕ) (expected : Read (Unit {0})) → Skips done old new expected → done ≡ false → (expected ≡ None) × (new ≡ old)
not_skipped true old new expected h is = cc is
not_skipped false old new expected h is = h
