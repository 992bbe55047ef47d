-- The raw options of a list: each takes a byte at least, more bytes change none of them, and what is written reads back.
use Rattle.std.proofs.Common.{◌≡◌, ℕ, get_or, zero, suc, ◌+◌, ◌<◌, ◌≤◌, Bool, true, false, cond, ◌^◌, List, [], ◌∷◌, ◌++◌, length, length-append, drop, Option, Some, None, refl, sym, ap, subst, ◌∙◌, arith, min, append_assoc}
use Rattle.std.specs.Int.{Width, w8, w16, byte_len, from_be_bytes, to_be_bytes}
use Rattle.std.specs.List.{All, AllByRecursion, flat_map}
use Rattle.std.proofs.lemmas.List.{drop_at, get_or_append_left}
use Rattle.std.proofs.lemmas.Bool.{false≢true}
use Rattle.std.proofs.lemmas.Nat.{be_bytes_2}
use Rattle.std.proofs.lemmas.List.Elements.{All-drop}
use Rattle.std.proofs.lemmas.List.Concat.{flat_map-cons}
use Rattle.std.proofs.lemmas.Option.{none-some, same_Some}
use Rattle.dhcp_wire.specs.declared.raw_option.OptionFormat.{OptionFormat}
use Rattle.dhcp_wire.specs.declared.raw_option.OptionFormat.TheVariants.{DhcpV4, DhcpV6}
use Rattle.dhcp_wire.specs.Field.{Read, ◌>>=◌, bytes_at, number_at}
use Rattle.dhcp_wire.specs.RawOption.{RawOptionParts, width_of, is_code_alone, ends_list, raw_value_at, value_after, raw_option_at, counted_after, with_later, raw_options_within, raw_options, written_raw_value, written_raw_option, after_options, FitsWidth, FitsFormat}
use Rattle.dhcp_wire.proofs.FieldLaws.{HasBigEndian, big_endian_8, big_endian_16, bytes_at_cut, bytes_at-append, length-bytes_high_first, number_at-to_be_bytes}
use Rattle.dhcp_wire.proofs.FieldLemmas.{Within, Within-then, Within-map, Within-bytes_at, mapped, number_at-cons}

-- ---- how many bytes follow

-- a code takes a byte at least
pub width_of-some : (format : OptionFormat) → 1 ≤ byte_len (width_of format)
width_of-some DhcpV4 = omega arith
width_of-some DhcpV6 = omega arith

pub Within-number_at : (n : ℕ) (width : Width) (bytes : List ℕ) → length bytes ≤ n + byte_len width → Within n (number_at width bytes)
Within-number_at n width bytes few =
    Within-map n (bytes_at (byte_len width) bytes) (from_be_bytes width) (Within-bytes_at n (byte_len width) bytes few)

Within-raw_value_at : (n : ℕ) (format : OptionFormat) (bytes : List ℕ) → length bytes ≤ n → Within n (raw_value_at format bytes)
Within-raw_value_at n format bytes few =
    Within-then n (number_at (width_of format) bytes) (λ length. bytes_at length.0 length.1)
    (Within-number_at n (width_of format) bytes (omega arith))
    (λ len within. Within-bytes_at n len.0 len.1 (omega (arith, within)))

Within-value_after : (n : ℕ) (format : OptionFormat) (code : ℕ) (bytes : List ℕ) → length bytes ≤ n → Within n (value_after format code bytes)
Within-value_after n format code bytes few =
    let none : List ℕ × List ℕ = ([], bytes) in
    elim (is_code_alone format code) as (λ b. Within n (cond b (Some none) (raw_value_at format bytes))) [
      | true ↦ few
      | false ↦ Within-raw_value_at n format bytes few
    ]

-- an option takes a byte at least
pub Within-raw_option_at : (n : ℕ) (format : OptionFormat) (bytes : List ℕ) → length bytes ≤ n + 1 → Within n (raw_option_at format bytes)
unfolding raw_option_at
Within-raw_option_at n format bytes few =
    Within-then n (number_at (width_of format) bytes) _
    (Within-number_at n (width_of format) bytes (omega (arith, width_of-some format)))
    (λ code within. Within-then n (value_after format code.0 code.1) _ (Within-value_after n format code.0 code.1 within) (λ value less. less))

-- no more bytes count than there are
length-counted_after : (format : OptionFormat) (code : ℕ) (bytes : List ℕ) → length (counted_after format code bytes) ≤ length bytes
length-counted_after format code bytes =
    elim (ends_list format code) as (λ ends. length (cond ends [] bytes) ≤ length bytes) [ true ↦ omega arith | false ↦ omega arith ]

-- no bytes are no option
pub raw_option_at-nil : (format : OptionFormat) → raw_option_at format [] ≡ None
unfolding raw_option_at bytes_at
raw_option_at-nil DhcpV4 = refl
raw_option_at-nil DhcpV6 = refl

-- what follows an option is shorter
pub raw_option_at-shorter : (format : OptionFormat) (bytes later : List ℕ) (option : RawOptionParts) → raw_option_at format bytes ≡ Some (option, later) → length later < length bytes
raw_option_at-shorter format [] later option is = absurd (none-some _ (sym (raw_option_at-nil format) ∙ is))
raw_option_at-shorter format (byte ∷ bytes) later option is =
    let within = subst (Within (length bytes)) is (Within-raw_option_at (length bytes) format (byte ∷ bytes) (omega arith)) in
    omega (arith, within)

-- and so is what counts of it
pub counted_after-shorter : (format : OptionFormat) (bytes later : List ℕ) (option : RawOptionParts) → raw_option_at format bytes ≡ Some (option, later) → length (counted_after format option.code later) < length bytes
counted_after-shorter format bytes later option is =
    omega (arith, raw_option_at-shorter format bytes later option is, length-counted_after format option.code later)

-- ---- fuel

with_later-same : (format : OptionFormat) (n : ℕ) (one other : List ℕ → List RawOptionParts) (read : Read RawOptionParts) → Within n read → ((rest : List ℕ) → length rest ≤ n → one rest ≡ other rest) → with_later format one read ≡ with_later format other read
with_later-same format n one other None within same = refl
with_later-same format n one other (Some found) within same =
    ap (λ later. found.0 ∷ later)
    (same (counted_after format found.0.code found.1) (omega (arith, within, length-counted_after format found.0.code found.1)))

-- once it is enough, more fuel changes nothing
pub raw_options_within-enough : (format : OptionFormat) (fuel more : ℕ) (bytes : List ℕ) → length bytes ≤ fuel → length bytes ≤ more → raw_options_within format fuel bytes ≡ raw_options_within format more bytes
unfolding raw_options_within
raw_options_within-enough format zero zero bytes few less = refl
raw_options_within-enough format zero (suc more) [] few less = ap (with_later format (raw_options_within format more)) (sym (raw_option_at-nil format))
raw_options_within-enough format zero (suc more) (byte ∷ bytes) few less = absurd (omega arith)
raw_options_within-enough format (suc fuel) zero [] few less = ap (with_later format (raw_options_within format fuel)) (raw_option_at-nil format)
raw_options_within-enough format (suc fuel) zero (byte ∷ bytes) few less = absurd (omega arith)
raw_options_within-enough format (suc fuel) (suc more) bytes few less =
    with_later-same format (min fuel more) (raw_options_within format fuel) (raw_options_within format more) (raw_option_at format bytes)
    (Within-raw_option_at (min fuel more) format bytes (omega arith))
    (λ rest within. raw_options_within-enough format fuel more rest (omega arith) (omega arith))

-- the options of a list: the one at the front, and those of what follows
pub raw_options-raw_option_at : (format : OptionFormat) (bytes : List ℕ) → raw_options format bytes ≡ with_later format (raw_options format) (raw_option_at format bytes)
unfolding raw_options_within
raw_options-raw_option_at format [] = ap (with_later format (raw_options format)) (sym (raw_option_at-nil format))
raw_options-raw_option_at format (byte ∷ bytes) =
    with_later-same format (length bytes) (raw_options_within format (length bytes)) (raw_options format) (raw_option_at format (byte ∷ bytes))
    (Within-raw_option_at (length bytes) format (byte ∷ bytes) (omega arith))
    (λ rest within. raw_options_within-enough format (length bytes) (length rest) rest within (omega arith))

pub ruleset first_option = (raw_options-raw_option_at)

pub raw_options-nil : (format : OptionFormat) → raw_options format [] ≡ []
unfolding raw_options_within
raw_options-nil format = refl

-- there are no more options than bytes
length-raw_options_within : (format : OptionFormat) (fuel : ℕ) (bytes : List ℕ) → length (raw_options_within format fuel bytes) ≤ length bytes
unfolding raw_options_within
length-raw_options_within format zero bytes = omega arith
length-raw_options_within format (suc fuel) bytes =
    elim (raw_option_at format bytes) as (λ read. raw_option_at format bytes ≡ read → length (with_later format (raw_options_within format fuel) read) ≤ length bytes) [
      | None ↦ λ is. omega arith
      | Some found ↦ λ is.
          let later = counted_after format found.0.code found.1 in
          omega (arith, counted_after-shorter format bytes found.1 found.0 is, length-raw_options_within format fuel later)
    ] refl

pub length_of_options : (format : OptionFormat) (bytes : List ℕ) → length (raw_options format bytes) ≤ length bytes
length_of_options format bytes = length-raw_options_within format (length bytes) bytes

-- ---- more bytes

-- more bytes at the end change nothing of what is read, and stand after it
abbrev pub IsStable : {A : Type 0} → (List ℕ → Read A) → Type 0
IsStable {A} read = (bytes rest more : List ℕ) (x : A) → read bytes ≡ Some (x, rest) → read (bytes ++ more) ≡ Some (x, rest ++ more)

-- a value that is read after another
pub after_a_read : {A B : Type 0} (read : Option A) (next : A → Option B) (y : B) → read >>= next ≡ Some y → (x : A) × (read ≡ Some x) × (next x ≡ Some y)
after_a_read None next y is = absurd (none-some _ is)
after_a_read (Some x) next y is = (x, refl, is)

pub bytes_at-stable : (n : ℕ) → IsStable (bytes_at n)
bytes_at-stable n bytes rest more x is =
    let split = bytes_at_cut n bytes x rest is in
    ap (λ whole. bytes_at n (whole ++ more)) split.1 ∙ ap (bytes_at n) (append_assoc x rest more) ∙ bytes_at-append n x (rest ++ more) split.0

pub number_at-stable : (width : Width) → IsStable (number_at width)
number_at-stable width bytes rest more x is =
    let found = mapped (λ read. (from_be_bytes width read.0, read.1)) (bytes_at (byte_len width) bytes) _ is in
    ap (λ read. read >>= λ found. Some (from_be_bytes width found.0, found.1)) (bytes_at-stable (byte_len width) bytes found.0.1 more found.0.0 found.1)
    ∙ ap (λ pair. Some (pair.0, pair.1 ++ more)) found.2

-- what is already there
pub Some-stable : {A : Type 0} (x : A) → IsStable (λ bytes. Some (x, bytes))
Some-stable x bytes rest more y is = ap (λ pair. Some (pair.0, pair.1 ++ more)) (same_Some _ _ is)

pub then-stable : {A B : Type 0} (read : List ℕ → Read A) (next : A → List ℕ → Read B) → IsStable read → ((x : A) → IsStable (next x)) → IsStable (λ bytes. read bytes >>= λ found. next found.0 found.1)
then-stable read next first later bytes rest more y is =
    let found = after_a_read (read bytes) (λ found. next found.0 found.1) (y, rest) is in
    ap (λ whole. whole >>= λ found. next found.0 found.1) (first bytes found.0.1 more found.0.0 found.1)
    ∙ later found.0.0 found.0.1 rest more y found.2

raw_value_at-stable : (format : OptionFormat) → IsStable (raw_value_at format)
raw_value_at-stable format = then-stable (number_at (width_of format)) (λ len bytes. bytes_at len bytes) (number_at-stable (width_of format)) bytes_at-stable

value_after-stable : (format : OptionFormat) (code : ℕ) → IsStable (value_after format code)
value_after-stable format code =
    elim (is_code_alone format code) as (λ b. IsStable (λ bytes. cond b (Some ([], bytes)) (raw_value_at format bytes))) [
      | true ↦ Some-stable []
      | false ↦ raw_value_at-stable format
    ]

-- an option that is whole stays as it is
pub raw_option_at-stable : (format : OptionFormat) → IsStable (raw_option_at format)
unfolding raw_option_at
raw_option_at-stable format =
    let made : ℕ → List ℕ → List ℕ → Read RawOptionParts = λ code value bytes. Some (record { code = code; value = value }, bytes) in
    then-stable (number_at (width_of format)) (λ code bytes. value_after format code bytes >>= λ value. made code value.0 value.1)
    (number_at-stable (width_of format))
    (λ code. then-stable (value_after format code) (made code) (value_after-stable format code) (λ value. Some-stable (record { code = code; value = value })))

-- ---- the options of a prefix

module _ (format : OptionFormat) where
  -- the options of some bytes, and more
  abbrev Extends : List RawOptionParts → List RawOptionParts → Type 0
  Extends options whole = (more : List RawOptionParts) × (whole ≡ options ++ more)

  counted_prefix : (fuel : ℕ) (later rest : List ℕ) (ends : Bool) → Extends (raw_options_within format fuel later) (raw_options format (later ++ rest)) → Extends (raw_options_within format fuel (cond ends [] later)) (raw_options format (cond ends [] (later ++ rest)))
  unfolding raw_options_within
  counted_prefix fuel later rest true extends = ([], ap (λ options. options ++ []) (raw_options_within-enough format zero fuel [] (omega arith) (omega arith)))
  counted_prefix fuel later rest false extends = extends

  pub raw_options-prefix : (fuel : ℕ) (front rest : List ℕ) → length front ≤ fuel → Extends (raw_options_within format fuel front) (raw_options format (front ++ rest))
  unfolding raw_options_within
  raw_options-prefix zero front rest few = (raw_options format (front ++ rest), refl)
  raw_options-prefix (suc fuel) front rest few =
      elim (raw_option_at format front) as (λ read. raw_option_at format front ≡ read → Extends (with_later format (raw_options_within format fuel) read) (raw_options format (front ++ rest))) [
        | None ↦ λ is. (raw_options format (front ++ rest), refl)
        | Some found ↦ λ is.
            let shorter = raw_option_at-shorter format front found.1 found.0 is in
            let whole = raw_option_at-stable format front found.1 rest found.0 is in
            let step = raw_options-raw_option_at format (front ++ rest) ∙ ap (with_later format (raw_options format)) whole in
            let later = counted_prefix fuel found.1 rest (ends_list format found.0.code) (raw_options-prefix fuel found.1 rest (omega (arith, shorter))) in
            (later.0, step ∙ ap (λ options. found.0 ∷ options) later.1)
      ] refl

-- ---- what is written

-- a list whose numbers are bytes
abbrev pub AreBytes : List ℕ → Type 0
AreBytes bytes = All (λ byte. byte < 2 ^ 8) bytes

-- Bytes begin with what is written so, and the rest follows it: the front is as long, and it is the same where the bytes are bytes.
pub record Begins (bytes written rest : List ℕ) : Type 0 where
  pub front : List ℕ
  pub split : bytes ≡ front ++ rest
  pub long : length front ≡ length written
  pub same : AreBytes bytes → front ≡ written

byte_back : (byte : ℕ) → byte < 256 → byte ∷ [] ≡ to_be_bytes w8 (from_be_bytes w8 (byte ∷ []))
byte_back byte small = grind arith

each_byte : (bytes : List ℕ) → AreBytes bytes → (i : ℕ) → get_or bytes i 0 < 256
each_byte [] are i = omega arith
each_byte (byte ∷ bytes) are zero = are 0 0 (omega arith)
each_byte (byte ∷ bytes) are (suc i) = each_byte bytes (λ k d inside. are (suc k) d (omega (arith, inside))) i

-- the bytes of a number are what it is written as
number_bytes : (format : OptionFormat) (front : List ℕ) → length front ≡ byte_len (width_of format) → AreBytes front → front ≡ to_be_bytes (width_of format) (from_be_bytes (width_of format) front)
number_bytes DhcpV4 [] is bytes = absurd (omega arith)
number_bytes DhcpV4 (byte ∷ []) is bytes = byte_back byte (bytes 0 0 (omega arith))
number_bytes DhcpV4 (byte ∷ next ∷ front) is bytes = absurd (omega arith)
number_bytes DhcpV6 front is bytes = sym (be_bytes_2 front (from_be_bytes w16 front) is (each_byte front bytes) refl)

AreBytes-front : (front rest : List ℕ) → AreBytes (front ++ rest) → AreBytes front
AreBytes-front front rest bytes k d inside =
    subst (λ byte. byte < 256) (get_or_append_left front rest d k inside) (bytes k d (omega (arith, length-append front rest, inside)))

AreBytes-rest : (front rest : List ℕ) → AreBytes (front ++ rest) → AreBytes rest
AreBytes-rest front rest bytes = subst AreBytes (drop_at front rest (length front) refl) (All-drop (λ byte. byte < 2 ^ 8) (length front) (front ++ rest) bytes)

Begins-number_at : (format : OptionFormat) (bytes rest : List ℕ) (n : ℕ) → number_at (width_of format) bytes ≡ Some (n, rest) → Begins bytes (to_be_bytes (width_of format) n) rest
Begins-number_at format bytes rest n is =
    let width = width_of format in
    let found = mapped (λ read. (from_be_bytes width read.0, read.1)) (bytes_at (byte_len width) bytes) (n, rest) is in
    let cut = bytes_at_cut (byte_len width) bytes _ _ found.1 in
    let value = ap (λ pair. pair.0) found.2 in
    record {
      front = found.0.0;
      split = cut.1 ∙ ap (λ pair. found.0.0 ++ pair.1) found.2;
      long = cut.0 ∙ sym (length-bytes_high_first (byte_len width) n);
      same = λ are. number_bytes format found.0.0 cut.0 (AreBytes-front found.0.0 found.0.1 (subst AreBytes cut.1 are)) ∙ ap (to_be_bytes width) value;
    }

Begins-then : (bytes mid rest first later : List ℕ) → Begins bytes first mid → Begins mid later rest → Begins bytes (first ++ later) rest
Begins-then bytes mid rest first later one two = record {
  front = one.front ++ two.front;
  split = one.split ∙ ap (λ left. one.front ++ left) two.split ∙ sym (append_assoc one.front two.front rest);
  long = length-append one.front two.front ∙ ap (λ n. n + length two.front) one.long ∙ ap (λ n. length first + n) two.long ∙ sym (length-append first later);
  same = λ are. ap (λ left. left ++ two.front) (one.same are)
      ∙ ap (λ left. first ++ left) (two.same (AreBytes-rest one.front mid (subst AreBytes one.split are)));
}

Begins-raw_value_at : (format : OptionFormat) (bytes value rest : List ℕ) → raw_value_at format bytes ≡ Some (value, rest) → Begins bytes (written_raw_value format value) rest
Begins-raw_value_at format bytes value rest is =
    let found = after_a_read (number_at (width_of format) bytes) (λ length. bytes_at length.0 length.1) (value, rest) is in
    let cut = bytes_at_cut found.0.0 found.0.1 value rest found.2 in
    Begins-then bytes found.0.1 rest (to_be_bytes (width_of format) (length value)) value
    (subst (λ n. Begins bytes (to_be_bytes (width_of format) n) found.0.1) (sym cut.0) (Begins-number_at format bytes found.0.1 found.0.0 found.1))
    (record { front = value; split = cut.1; long = refl; same = λ are. refl })

-- what is written after the code of an option
abbrev written_after : OptionFormat → Bool → List ℕ → List ℕ
written_after format alone value = cond alone [] (written_raw_value format value)

Begins-value_after : (format : OptionFormat) (alone : Bool) (bytes value rest : List ℕ) → cond alone (Some ([], bytes)) (raw_value_at format bytes) ≡ Some (value, rest) → Begins bytes (written_after format alone value) rest
Begins-value_after format true bytes value rest is = record {
  front = [];
  split = ap (λ pair. pair.1) (same_Some _ _ is);
  long = refl;
  same = λ are. refl;
}
Begins-value_after format false bytes value rest is = Begins-raw_value_at format bytes value rest is

-- bytes that begin with a whole option begin with what it is written as
pub Begins-raw_option_at : (format : OptionFormat) (bytes rest : List ℕ) (option : RawOptionParts) → raw_option_at format bytes ≡ Some (option, rest) → Begins bytes (written_raw_option format option) rest
unfolding raw_option_at written_raw_option
Begins-raw_option_at format bytes rest option is =
    let made : ℕ → List ℕ × List ℕ → Read RawOptionParts = λ code value. Some (record { code = code; value = value.0 }, value.1) in
    let code = after_a_read (number_at (width_of format) bytes) (λ code. value_after format code.0 code.1 >>= made code.0) (option, rest) is in
    let value = after_a_read (value_after format code.0.0 code.0.1) (made code.0.0) (option, rest) code.2 in
    let parts = same_Some _ _ value.2 in
    subst (λ pair. Begins bytes (written_raw_option format pair.0) pair.1) parts
    (Begins-then bytes code.0.1 value.0.1 _ _ (Begins-number_at format bytes code.0.1 code.0.0 code.1)
    (Begins-value_after format (is_code_alone format code.0.0) code.0.1 value.0.0 value.0.1 value.1))

-- ---- what remains after the last option

-- none of the options ends the list
abbrev pub NoneEndsList : OptionFormat → List RawOptionParts → Type 0
NoneEndsList format options = AllByRecursion {X = RawOptionParts} (λ option. ends_list format option.code ≡ false) options

-- Bytes that begin with these options. What follows the last of them begins with no whole option, unless one of them ends the list.
pub record Splits (format : OptionFormat) (bytes : List ℕ) (options : List RawOptionParts) : Type 0 where
  pub remains : List ℕ
  pub begins : Begins bytes (flat_map (written_raw_option format) options) remains
  pub ended : NoneEndsList format options → raw_option_at format remains ≡ None

begins_empty : (bytes : List ℕ) → Begins bytes [] bytes
begins_empty bytes = record { front = []; split = refl; long = refl; same = λ are. refl }

no_option : (format : OptionFormat) (bytes : List ℕ) → raw_option_at format bytes ≡ None → Splits format bytes []
no_option format bytes none = record { remains = bytes; begins = begins_empty bytes; ended = λ all. none }

begins_more : (format : OptionFormat) (bytes later remains : List ℕ) (option : RawOptionParts) (options : List RawOptionParts) → Begins bytes (written_raw_option format option) later → Begins later (flat_map (written_raw_option format) options) remains → Begins bytes (flat_map (written_raw_option format) (option ∷ options)) remains
begins_more format bytes later remains option options one more =
    subst (λ written. Begins bytes written remains) (sym (flat_map-cons (written_raw_option format) option options))
    (Begins-then bytes later remains _ _ one more)

one_more : (format : OptionFormat) (bytes later : List ℕ) (option : RawOptionParts) (options : List RawOptionParts) (ends : Bool) → ends_list format option.code ≡ ends → Begins bytes (written_raw_option format option) later → Splits format later options → Splits format bytes (option ∷ cond ends [] options)
one_more format bytes later option options true is begins split = record {
  remains = later;
  begins = begins_more format bytes later later option [] begins (begins_empty later);
  ended = λ all. absurd (false≢true (sym all.0 ∙ is));
}
one_more format bytes later option options false is begins split = record {
  remains = split.remains;
  begins = begins_more format bytes later split.remains option options begins split.begins;
  ended = λ all. split.ended all.1;
}

-- with no bytes left there are no options, whatever fuel there is
within_counted : (format : OptionFormat) (fuel : ℕ) (later : List ℕ) (ends : Bool) → raw_options_within format fuel (cond ends [] later) ≡ cond ends [] (raw_options_within format fuel later)
unfolding raw_options_within
within_counted format fuel later true = raw_options_within-enough format fuel zero [] (omega arith) (omega arith)
within_counted format fuel later false = refl

pub Splits-raw_options_within : (format : OptionFormat) (fuel : ℕ) (bytes : List ℕ) → length bytes ≤ fuel → Splits format bytes (raw_options_within format fuel bytes)
unfolding raw_options_within
Splits-raw_options_within format zero [] few = no_option format [] (raw_option_at-nil format)
Splits-raw_options_within format zero (byte ∷ bytes) few = absurd (omega arith)
Splits-raw_options_within format (suc fuel) bytes few =
    elim (raw_option_at format bytes) as (λ read. raw_option_at format bytes ≡ read → Splits format bytes (with_later format (raw_options_within format fuel) read)) [
      | None ↦ λ is. no_option format bytes is
      | Some found ↦ λ is.
          let shorter = raw_option_at-shorter format bytes found.1 found.0 is in
          let ends = ends_list format found.0.code in
          subst (λ later. Splits format bytes (found.0 ∷ later)) (sym (within_counted format fuel found.1 ends))
          (one_more format bytes found.1 found.0 (raw_options_within format fuel found.1) ends refl (Begins-raw_option_at format bytes found.1 found.0 is)
          (Splits-raw_options_within format fuel found.1 (omega (arith, shorter))))
    ] refl

-- what follows the options of a list is what remains of it
Splits-remains : (format : OptionFormat) (bytes : List ℕ) (split : Splits format bytes (raw_options format bytes)) → after_options format bytes ≡ split.remains
Splits-remains format bytes split =
    let begins = split.begins in
    ap (λ whole. drop (length (flat_map (written_raw_option format) (raw_options format bytes))) whole) begins.split
    ∙ drop_at begins.front split.remains _ begins.long

-- the options of a list, written one after the other, and what remains, are the list
pub written-raw_options : (format : OptionFormat) (bytes : List ℕ) → AreBytes bytes → flat_map (written_raw_option format) (raw_options format bytes) ++ after_options format bytes ≡ bytes
written-raw_options format bytes are =
    let split = Splits-raw_options_within format (length bytes) bytes (omega arith) in
    let begins = split.begins in
    ap (λ rest. flat_map (written_raw_option format) (raw_options format bytes) ++ rest) (Splits-remains format bytes split)
    ∙ ap (λ front. front ++ split.remains) (sym (begins.same are)) ∙ sym begins.split

each_option : (P : RawOptionParts → Type 0) (options : List RawOptionParts) → All P options → AllByRecursion P options
each_option P [] all = tt
each_option P (option ∷ options) all = (all 0 option (omega arith), each_option P options (λ k d inside. all (suc k) d (omega (arith, inside))))

-- what remains begins with no whole option, unless one has ended the list
pub raw_option_at-after_options : (format : OptionFormat) (bytes : List ℕ) → All {X = RawOptionParts} (λ option. ends_list format option.code ≡ false) (raw_options format bytes) → raw_option_at format (after_options format bytes) ≡ None
raw_option_at-after_options format bytes none_ends =
    let split = Splits-raw_options_within format (length bytes) bytes (omega arith) in
    ap (raw_option_at format) (Splits-remains format bytes split)
    ∙ split.ended (each_option (λ option. ends_list format option.code ≡ false) (raw_options format bytes) none_ends)

-- ---- what is written reads back

has_big_endian : (format : OptionFormat) → HasBigEndian (width_of format)
has_big_endian DhcpV4 = big_endian_8
has_big_endian DhcpV6 = big_endian_16

number_back : (format : OptionFormat) (n : ℕ) (rest : List ℕ) → FitsWidth format n → number_at (width_of format) (to_be_bytes (width_of format) n ++ rest) ≡ Some (n, rest)
number_back format n rest small = number_at-to_be_bytes (width_of format) (has_big_endian format) n rest small

value_back : (format : OptionFormat) (value rest : List ℕ) → FitsWidth format (length value) → raw_value_at format (written_raw_value format value ++ rest) ≡ Some (value, rest)
value_back format value rest small =
    let width = width_of format in
    ap (raw_value_at format) (append_assoc (to_be_bytes width (length value)) value rest)
    ∙ ap (λ read. read >>= λ length. bytes_at length.0 length.1) (number_back format (length value) (value ++ rest) small)
    ∙ bytes_at-append (length value) value rest refl

value_after_back : (format : OptionFormat) (alone : Bool) (value rest : List ℕ) → FitsWidth format (length value) → (alone ≡ true → value ≡ []) → cond alone (Some ([], written_after format alone value ++ rest)) (raw_value_at format (written_after format alone value ++ rest)) ≡ Some (value, rest)
value_after_back format true value rest small none = ap (λ value. Some (value, rest)) (sym (none refl))
value_after_back format false value rest small none = value_back format value rest small

-- an option that a list can hold reads back, whatever follows it
pub raw_option_at-written_raw_option : (format : OptionFormat) (option : RawOptionParts) (rest : List ℕ) → FitsFormat format option → raw_option_at format (written_raw_option format option ++ rest) ≡ Some (option, rest)
unfolding raw_option_at written_raw_option
raw_option_at-written_raw_option format option rest fits =
    let width = width_of format in
    let alone = is_code_alone format option.code in
    let after : List ℕ = written_after format alone option.value in
    let made : ℕ → List ℕ × List ℕ → Read RawOptionParts = λ code value. Some (record { code = code; value = value.0 }, value.1) in
    ap (raw_option_at format) (append_assoc (to_be_bytes width option.code) after rest)
    ∙ ap (λ read. read >>= λ code. value_after format code.0 code.1 >>= made code.0) (number_back format option.code (after ++ rest) fits.code)
    ∙ ap (λ read. read >>= made option.code) (value_after_back format alone option.value rest fits.length fits.alone)

-- ---- options of DHCPv4, byte by byte

-- a code alone
pub raw_option_at-code_alone : (code : ℕ) (rest : List ℕ) → is_code_alone DhcpV4 code ≡ true → raw_option_at DhcpV4 (code ∷ rest) ≡ Some (record { code = code; value = [] }, rest)
unfolding raw_option_at
raw_option_at-code_alone code rest alone = rw (number_at-cons code rest, alone) refl

-- a code, the length of a value, and the value
pub raw_option_at-valued : (code : ℕ) (value rest : List ℕ) → is_code_alone DhcpV4 code ≡ false → raw_option_at DhcpV4 (code ∷ length value ∷ (value ++ rest)) ≡ Some (record { code = code; value = value }, rest)
unfolding raw_option_at
raw_option_at-valued code value rest valued =
    rw (number_at-cons code (length value ∷ (value ++ rest)), valued, number_at-cons (length value) (value ++ rest), bytes_at-append (length value) value rest refl) refl
