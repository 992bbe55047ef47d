-- The records of a file: the one at the front, and those of what follows.
use Rattle.std.proofs.Common.{◌≡◌, ℕ, zero, suc, ◌+◌, ◌<◌, ◌≤◌, List, [], ◌∷◌, length, Some, None, refl, sym, ap, subst, ◌∙◌, arith, min}
use Rattle.std.proofs.lemmas.Option.{none-some}
use Rattle.dhcp_wire.specs.Field.{Read, bytes_at}
use Rattle.dhcp_wire.proofs.FieldLemmas.{Within, Within-then, Within-map, Within-bytes_at}
use Rattle.dhcp_inspect.specs.declared.header.ByteOrder.{ByteOrder}
use Rattle.dhcp_inspect.specs.Capture.{Records, with_later, records_within, records_in}
use Rattle.dhcp_inspect.specs.Header.{u32_of}
use Rattle.dhcp_inspect.specs.Record.{RecordParts, record_at, u32_at}

-- ---- how many bytes follow

Within-u32_at : (n : ℕ) (order : ByteOrder) (bytes : List ℕ) → length bytes ≤ n + 4 → Within n (u32_at order bytes)
unfolding u32_at
Within-u32_at n order bytes few = Within-map n (bytes_at 4 bytes) (u32_of order) (Within-bytes_at n 4 bytes few)

-- a record takes a byte at least
Within-record_at : (n : ℕ) (order : ByteOrder) (bytes : List ℕ) → length bytes ≤ n + 1 → Within n (record_at order bytes)
unfolding record_at
Within-record_at n order bytes few =
    Within-then n (u32_at order bytes) _ (Within-u32_at n order bytes (omega arith))
    (λ seconds one. Within-then n (u32_at order seconds.1) _ (Within-u32_at n order seconds.1 (omega arith))
    (λ fraction two. Within-then n (u32_at order fraction.1) _ (Within-u32_at n order fraction.1 (omega arith))
    (λ kept three. Within-then n (u32_at order kept.1) _ (Within-u32_at n order kept.1 (omega arith))
    (λ wire_length four. Within-then n (bytes_at kept.0 wire_length.1) _ (Within-bytes_at n kept.0 wire_length.1 (omega arith)) (λ packet less. less)))))

-- no bytes are no record
record_at-nil : (order : ByteOrder) → record_at order [] ≡ None
unfolding record_at u32_at bytes_at
record_at-nil order = refl

-- what follows a record is shorter
pub record_at-shorter : (order : ByteOrder) (bytes later : List ℕ) (packet : RecordParts) → record_at order bytes ≡ Some (packet, later) → length later < length bytes
record_at-shorter order [] later packet is = absurd (none-some _ (sym (record_at-nil order) ∙ is))
record_at-shorter order (byte ∷ bytes) later packet is =
    let within = subst (Within (length bytes)) is (Within-record_at (length bytes) order (byte ∷ bytes) (omega arith)) in
    omega (arith, within)

-- ---- fuel

with_later-same : (n : ℕ) (bytes : List ℕ) (one other : List ℕ → Records) (read : Read RecordParts) → Within n read → ((rest : List ℕ) → length rest ≤ n → one rest ≡ other rest) →
    with_later bytes one read ≡ with_later bytes other read
with_later-same n bytes one other None within same = refl
with_later-same n bytes one other (Some found) within same =
    ap (λ (later : Records). let all : Records = record { whole = found.0 ∷ later.whole; remainder = later.remainder } in all) (same found.1 within)

-- once it is enough, more fuel changes nothing
pub records_within-enough : (order : ByteOrder) (fuel more : ℕ) (bytes : List ℕ) → length bytes ≤ fuel → length bytes ≤ more → records_within order fuel bytes ≡ records_within order more bytes
unfolding records_within
records_within-enough order zero zero bytes few less = refl
records_within-enough order zero (suc more) [] few less = ap (with_later [] (records_within order more)) (sym (record_at-nil order))
records_within-enough order zero (suc more) (byte ∷ bytes) few less = absurd (omega arith)
records_within-enough order (suc fuel) zero [] few less = ap (with_later [] (records_within order fuel)) (record_at-nil order)
records_within-enough order (suc fuel) zero (byte ∷ bytes) few less = absurd (omega arith)
records_within-enough order (suc fuel) (suc more) bytes few less =
    with_later-same (min fuel more) bytes (records_within order fuel) (records_within order more) (record_at order bytes)
    (Within-record_at (min fuel more) order bytes (omega arith))
    (λ rest within. records_within-enough order fuel more rest (omega arith) (omega arith))

-- the records of some bytes: the one at the front, and those of what follows
pub records_in-record_at : (order : ByteOrder) (bytes : List ℕ) → records_in order bytes ≡ with_later bytes (records_in order) (record_at order bytes)
unfolding records_within
records_in-record_at order [] = ap (with_later [] (records_in order)) (sym (record_at-nil order))
records_in-record_at order (byte ∷ bytes) =
    with_later-same (length bytes) (byte ∷ bytes) (records_within order (length bytes)) (records_in order) (record_at order (byte ∷ bytes))
    (Within-record_at (length bytes) order (byte ∷ bytes) (omega arith))
    (λ rest within. records_within-enough order (length bytes) (length rest) rest within (omega arith))

-- there are no more records than bytes
length-records_within : (order : ByteOrder) (fuel : ℕ) (bytes : List ℕ) → length (records_within order fuel bytes).whole ≤ length bytes
unfolding records_within
length-records_within order zero bytes = omega arith
length-records_within order (suc fuel) bytes =
    elim (record_at order bytes) as (λ read. record_at order bytes ≡ read → length (with_later bytes (records_within order fuel) read).whole ≤ length bytes) [
      | None ↦ λ is. omega arith
      | Some found ↦ λ is. omega (arith, record_at-shorter order bytes found.1 found.0 is, length-records_within order fuel found.1)
    ] refl

pub length-records_in : (order : ByteOrder) (bytes : List ℕ) → length (records_in order bytes).whole ≤ length bytes
length-records_in order bytes = length-records_within order (length bytes) bytes

-- ---- the next record

-- a record at the front is the first, and the others are those of what follows
pub first_record : (order : ByteOrder) (bytes later : List ℕ) (packet : RecordParts) → record_at order bytes ≡ Some (packet, later) →
    ((records_in order bytes).whole ≡ packet ∷ (records_in order later).whole) × ((records_in order bytes).remainder ≡ (records_in order later).remainder)
first_record order bytes later packet is =
    let all = records_in-record_at order bytes ∙ ap (with_later bytes (records_in order)) is in
    (ap (λ (records : Records). records.whole) all, ap (λ (records : Records). records.remainder) all)

-- where no record is at the front, there is none
pub no_record : (order : ByteOrder) (bytes : List ℕ) → record_at order bytes ≡ None →
    ((records_in order bytes).whole ≡ []) × ((records_in order bytes).remainder ≡ bytes)
no_record order bytes is =
    let all = records_in-record_at order bytes ∙ ap (with_later bytes (records_in order)) is in
    (ap (λ (records : Records). records.whole) all, ap (λ (records : Records). records.remainder) all)

pub ruleset next_record = (first_record, no_record, record_at-shorter, length-records_in)
