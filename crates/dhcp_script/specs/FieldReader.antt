-- What the fields of a line give: the other direction of how they are printed.
use Rattle.std.specs.Prelude.{ℕ, ◌==◌, Bool, true, false, if◌then◌else◌, List, [], ◌∷◌, codes, Option, Some, None, option_map}
use Rattle.std.specs.List.{slice_split}
use Rattle.std.specs.Str.{bytes_eq}
use Rattle.std.specs.declared.net.Ipv4Addr.{Ipv4Addr}
use Rattle.dhcp_wire.specs.Field.{Read, ◌>>=◌}
use Rattle.dhcp4_msg.specs.declared.route.DhcpV4ClasslessRoute.{DhcpV4ClasslessRoute}
use Rattle.dhcp_stream.specs.TextReader.{address_in, both, in_field, made_of, number_in, tag_at}

-- none where the field is this word, else what it gives
abbrev pub word_or : {A : Type 0} → List ℕ → (List ℕ → Option A) → List ℕ → Option (Option A)
word_or word value field = if bytes_eq field word then Some None else option_map Some (value field)

-- one word or another
abbrev pub flag_in : List ℕ → List ℕ → List ℕ → Option Bool
flag_in set unset field =
    if bytes_eq field set then Some true else if bytes_eq field unset then Some false else None

-- what each of some fields gives
abbrev pub each_in : {A : Type 0} → (List ℕ → Option A) → List (List ℕ) → Option (List A)
each_in value [] = Some []
each_in value (field ∷ fields) = do
  x ← value field
  xs ← each_in value fields
  Some (x ∷ xs)

-- items with commas between them
abbrev pub items_in : {A : Type 0} → (List ℕ → Option A) → List ℕ → Option (List A)
items_in value field = each_in value (slice_split (λ byte. byte == 44) field)

-- items with commas between them, or `-`
abbrev pub list_in : {A : Type 0} → (List ℕ → Option A) → List ℕ → Option (List A)
list_in value field = if bytes_eq field (codes "-") then Some [] else items_in value field

-- what follows bytes at the front, or else something else
abbrev pub if_tag : {A : Type 0} → Read (Unit {0}) → (List ℕ → Read A) → Read A → Read A
if_tag (Some found) next other = next found.1
if_tag None next other = other

-- a value, or the word `none`, to the end of the line
unfoldable pub held_at : {A : Type 0} → (List ℕ → Read A) → List ℕ → Read (Option A)
held_at value text =
    if_tag (tag_at (codes "none\n") text) (λ rest. Some (None, rest)) (made_of Some value text)

-- a number of 32 bits
abbrev pub u32_in : List ℕ → Option ℕ
u32_in field = number_in 4294967295 field

-- the same, up to this byte
abbrev pub u32_at : ℕ → List ℕ → Read ℕ
u32_at end text = in_field u32_in end text

-- three parts as a triple
abbrev pub triple_of : {A B C : Type 0} → A × (B × C) → A × B × C
triple_of parts = (parts.0, parts.1.0, parts.1.1)

-- three fields: the last up to this byte, and those before it up to a space
unfoldable pub three_at : {A B C : Type 0} → (List ℕ → Option A) → (List ℕ → Option B)
    → (List ℕ → Option C) → ℕ → List ℕ → Read (A × B × C)
three_at first second third end text =
    made_of triple_of
    (both (in_field first 32) (both (in_field second 32) (in_field third end))) text

-- the route of its parts
abbrev pub route_of : (Ipv4Addr × ℕ) × Ipv4Addr → DhcpV4ClasslessRoute
route_of parts = record { destination = parts.0.0; prefix_length = parts.0.1; router = parts.1 }

-- what is read from the front of a field, and what the rest of it gives
abbrev pub then_value : {A B : Type 0} → (List ℕ → Read A) → (List ℕ → Option B) → List ℕ
    → Option (A × B)
then_value read value field = do
  first ← read field
  second ← value first.1
  Some (first.0, second)

-- a route: its destination, the length of its prefix and its router, with slashes between
unfoldable pub route_in : List ℕ → Option DhcpV4ClasslessRoute
route_in field =
    option_map route_of
    (then_value (both (in_field address_in 47) (in_field (number_in 255) 47)) address_in field)
