-- A file has a header if and only if it begins with one.
use Rattle.std.proofs.Common.{◌≡◌, ℕ, ◌-◌, ◌≤◌, Bool, true, false, cond, eqb, leb, List, length, take, drop, Option, Some, None, option_map, refl, ap, ◌∙◌, arith, length-drop}
use Rattle.std.specs.Option.{option_or}
use Rattle.std.specs.Prelude.{IsSome, is_some, ◌↔◌}
use Rattle.std.proofs.lemmas.Bool.{eqb-true, eq-eqb, le-leb, leb-true, false≢true}
use Rattle.std.proofs.lemmas.List.{take_all}
use Rattle.std.proofs.lemmas.Option.{none-some, same_Some}
use Rattle.dhcp_inspect.specs.Header.{HasHeader, IsCapture, ethernet, header_in, header_in_either, header_length, magic_number, read_header, u32_in, unit_of}
use Rattle.dhcp_inspect.specs.declared.header.ByteOrder.{ByteOrder}
use Rattle.dhcp_inspect.specs.declared.header.ByteOrder.TheVariants.{BigEndian, LittleEndian}
use Rattle.dhcp_inspect.specs.declared.header.Header.{Header}
use Rattle.dhcp_inspect.specs.declared.header.TimeUnit.{TimeUnit}
use Rattle.dhcp_inspect.specs.declared.header.TimeUnit.TheVariants.{Microseconds, Nanoseconds}

-- a magic number says its unit
unit_of-magic_number : (unit : TimeUnit) → unit_of (magic_number unit) ≡ Some unit
unit_of-magic_number Microseconds = refl
unit_of-magic_number Nanoseconds = refl

-- and what says a unit is its magic number
magic_number_of : (magic : ℕ) (unit : TimeUnit) → unit_of magic ≡ Some unit → magic ≡ magic_number unit
magic_number_of magic unit is = first (eqb magic (magic_number Microseconds)) refl is
  where
    second : (nano : Bool) → eqb magic (magic_number Nanoseconds) ≡ nano → cond nano (Some Nanoseconds) None ≡ Some unit → magic ≡ magic_number unit
    second true test is = eqb-true magic (magic_number Nanoseconds) test ∙ ap magic_number (same_Some _ _ is)
    second false test is = absurd (none-some _ is)

    first : (micro : Bool) → eqb magic (magic_number Microseconds) ≡ micro → cond micro (Some Microseconds) (cond (eqb magic (magic_number Nanoseconds)) (Some Nanoseconds) None) ≡ Some unit → magic ≡ magic_number unit
    first true test is = eqb-true magic (magic_number Microseconds) test ∙ ap magic_number (same_Some _ _ is)
    first false test is = second (eqb magic (magic_number Nanoseconds)) refl is

module _ (order : ByteOrder) (file : List ℕ) (whole : header_length ≤ length file) where
  -- the header with this unit
  abbrev with_unit : TimeUnit → Header
  with_unit unit = record { order = order; unit = unit }

  by_unit : (unit : Option TimeUnit) → unit_of (u32_in order file) ≡ unit → u32_in order (drop 20 file) ≡ ethernet → IsSome (option_map with_unit unit) → IsCapture file
  by_unit None is link_type some = absurd (false≢true some)
  by_unit (Some unit) is link_type some =
      (with_unit unit, record { whole = whole; magic = magic_number_of (u32_in order file) unit is; link_type = link_type })

  by_link_type : (test : Bool) → eqb (u32_in order (drop 20 file)) ethernet ≡ test → IsSome (cond test (option_map with_unit (unit_of (u32_in order file))) None) → IsCapture file
  by_link_type true test some = by_unit (unit_of (u32_in order file)) refl (eqb-true (u32_in order (drop 20 file)) ethernet test) some
  by_link_type false test some = absurd (false≢true some)

  -- a header that is read in an order is that of the file
  header_in-has : IsSome (header_in order file) → IsCapture file
  unfolding header_in
  header_in-has some = by_link_type (eqb (u32_in order (drop 20 file)) ethernet) refl some

-- and that of the file is read in its order
header_in-found : (file : List ℕ) (header : Header) → HasHeader file header → header_in header.order file ≡ Some header
unfolding header_in
header_in-found file header has =
    rw (eq-eqb (u32_in header.order (drop 20 file)) ethernet has.link_type, has.magic, unit_of-magic_number header.unit) refl

from_either : {P : Type 0} (one other : Option Header) → (IsSome one → P) → (IsSome other → P) → IsSome (option_or one other) → P
from_either None other first second some = second some
from_either (Some header) other first second some = first refl

left : (one other : Option Header) → IsSome one → IsSome (option_or one other)
left None other some = absurd (false≢true some)
left (Some header) other some = refl

right : (one other : Option Header) → IsSome other → IsSome (option_or one other)
right None other some = some
right (Some header) other some = refl

in_either : (order : ByteOrder) (file : List ℕ) → IsSome (header_in order file) → IsSome (option_or (header_in BigEndian file) (header_in LittleEndian file))
in_either BigEndian file some = left (header_in BigEndian file) (header_in LittleEndian file) some
in_either LittleEndian file some = right (header_in BigEndian file) (header_in LittleEndian file) some

-- the header, and what is after it
abbrev with_rest : List ℕ → Header → Header × List ℕ
with_rest file header = (header, drop header_length file)

some_header : (file : List ℕ) (read : Option Header) → IsSome (option_map (with_rest file) read) ↔ IsSome read
some_header file None = (λ some. some, λ some. some)
some_header file (Some header) = (λ some. refl, λ some. refl)

whole_capture : (file : List ℕ) (test : Bool) → leb header_length (length file) ≡ test →
    IsSome (cond test (option_map (with_rest file) (header_in_either file)) None) → IsCapture file
whole_capture file true is some =
    let whole = leb-true header_length (length file) is in
    from_either (header_in BigEndian file) (header_in LittleEndian file) (header_in-has BigEndian file whole) (header_in-has LittleEndian file whole)
    ((some_header file (header_in_either file)).0 some)
whole_capture file false is some = absurd (false≢true some)

-- a file has a header if and only if it is a capture
pub read_header-capture : (file : List ℕ) → IsSome (read_header file) ↔ IsCapture file
unfolding read_header
read_header-capture file = (
  whole_capture file (leb header_length (length file)) refl,
  λ capture.
      let found = header_in-found file capture.0 capture.1 in
      let some : IsSome (header_in capture.0.order file) = ap is_some found in
      rw (le-leb header_length (length file) capture.1.whole)
      ((some_header file (header_in_either file)).1 (in_either capture.0.order file some)),
)

-- the header that is found, and the bytes after it
pub read_header-found : (file : List ℕ) (header : Header) → header_length ≤ length file → header_in_either file ≡ Some header →
    read_header file ≡ Some (header, take (length file - header_length) (drop header_length file))
unfolding read_header
read_header-found file header whole is =
    rw (le-leb header_length (length file) whole, is, take_all (length file - header_length) (drop header_length file) (omega (arith, length-drop header_length file))) refl
