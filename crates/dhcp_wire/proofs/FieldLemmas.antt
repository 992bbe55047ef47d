-- What the fields of a list of bytes say of its length.
use Rattle.std.proofs.Common.{◌≡◌, ℕ, ◌+◌, ◌≤◌, true, false, cond, leb, List, [], ◌∷◌, ◌++◌, length, take, drop, Option, Some, None, option_map, refl, sym, ap, ◌∙◌, arith, length-drop}
use Rattle.std.specs.Int.{w8, from_be_bytes}
use Rattle.std.specs.Net.Addr.{ipv4_octets}
use Rattle.std.specs.declared.net.Ipv4Addr.{Ipv4Addr}
use Rattle.std.proofs.lemmas.Bool.{le-leb}
use Rattle.std.proofs.lemmas.List.{take_all, drop_all}
use Rattle.std.proofs.lemmas.Option.{none-some, same_Some}
use Rattle.dhcp_wire.specs.Field.{Read, ◌>>=◌, bytes_at, number_at, address_at, text_of, text_at, terminated_text_at}
use Rattle.dhcp_wire.proofs.FieldLaws.{bytes_at_cut, bytes_at-append}
use Rattle.dhcp_wire.specs.Value.{text_in}

-- a value made of what is read
pub mapped : {A B : Type 0} (f : A → B) (read : Option A) (y : B) → option_map f read ≡ Some y → (x : A) × (read ≡ Some x) × (f x ≡ y)
mapped f None y is = absurd (none-some _ is)
mapped f (Some x) y is = (x, refl, same_Some _ _ is)

one_byte : (bytes : List ℕ) → length bytes ≡ 1 → bytes ≡ from_be_bytes w8 bytes ∷ []
one_byte [] is = absurd (omega arith)
one_byte (byte ∷ []) is = refl
one_byte (byte ∷ next ∷ bytes) is = absurd (omega arith)

-- one byte is read from the front
pub number_at-cons : (byte : ℕ) (rest : List ℕ) → number_at w8 (byte ∷ rest) ≡ Some (byte, rest)
number_at-cons byte rest = ap (option_map (λ read. (from_be_bytes w8 read.0, read.1))) (bytes_at-append 1 (byte ∷ []) rest refl)

-- a byte that is read stands there
pub number_at-split : (bytes rest : List ℕ) (byte : ℕ) → number_at w8 bytes ≡ Some (byte, rest) → bytes ≡ byte ∷ rest
number_at-split bytes rest byte is =
    let found = mapped _ (bytes_at 1 bytes) _ is in
    let split = bytes_at_cut 1 bytes _ _ found.1 in
    split.1 ∙ ap (λ front. front ++ found.0.1) (one_byte _ split.0) ∙ ap (λ pair. pair.0 ∷ pair.1) found.2

-- the octets of an address that is read stand there, and are four
pub address_at-split : (bytes rest : List ℕ) (address : Ipv4Addr) → address_at bytes ≡ Some (address, rest) → (bytes ≡ ipv4_octets address ++ rest) × (length (ipv4_octets address) ≡ 4)
address_at-split bytes rest address is =
    let found = mapped _ (bytes_at 4 bytes) _ is in
    let split = bytes_at_cut 4 bytes _ _ found.1 in
    let octets = ap (λ pair. ipv4_octets pair.0) found.2 in
    (split.1 ∙ ap (λ pair. ipv4_octets pair.0 ++ pair.1) found.2, ap length (sym octets) ∙ split.0)

-- all bytes are the first so many
pub bytes_at-whole : (bytes : List ℕ) → bytes_at (length bytes) bytes ≡ Some (bytes, [])
unfolding bytes_at
bytes_at-whole bytes = rw (le-leb (length bytes) (length bytes) (omega arith), take_all (length bytes) bytes (omega arith), drop_all (length bytes) bytes (omega arith)) refl

-- a text in a field that is the whole value
pub whole_field : (n : ℕ) (value : List ℕ) → n ≡ length value → terminated_text_at n value ≡ option_map (λ text. (text, [])) (text_in value)
whole_field n value is = rw (is, bytes_at-whole value) refl

-- a text that is the whole value
pub whole_text : (n : ℕ) (value : List ℕ) → n ≡ length value → text_at n value ≡ option_map (λ text. (text, [])) (text_of value)
whole_text n value is = rw (is, bytes_at-whole value) refl

-- at most n bytes follow what is read, if anything is
abbrev pub Within : {A : Type 0} → ℕ → Read A → Type 0
Within n None = Unit {0}
Within n (Some read) = length read.1 ≤ n

module _ {A B : Type 0} where
  -- a read after a read
  pub Within-then : (n : ℕ) (read : Read A) (next : A × List ℕ → Read B) → Within n read → ((found : A × List ℕ) → length found.1 ≤ n → Within n (next found)) → Within n (read >>= next)
  Within-then n None next within later = tt
  Within-then n (Some found) next within later = later found within

  -- a value made of what is read
  pub Within-map : (n : ℕ) (read : Read A) (made : A → B) → Within n read → Within n (option_map (λ found. (made found.0, found.1)) read)
  Within-map n None made within = tt
  Within-map n (Some found) made within = within

-- what follows k bytes
pub Within-bytes_at : (n k : ℕ) (bytes : List ℕ) → length bytes ≤ n + k → Within n (bytes_at k bytes)
unfolding bytes_at
Within-bytes_at n k bytes few =
    elim (leb k (length bytes)) as (λ b. Within n (cond b (Some (take k bytes, drop k bytes)) None)) [
      | true ↦ omega (arith, length-drop k bytes)
      | false ↦ tt
    ]
