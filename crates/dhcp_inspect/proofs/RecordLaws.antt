-- The records of a file, and what remains, fill it.
use Rattle.std.proofs.Common.{◌≡◌, ℕ, zero, suc, ◌+◌, ◌≤◌, List, ◌++◌, length, drop, Some, None, refl, sym, ap, ◌∙◌, arith, length-append}
use Rattle.std.proofs.Math.Seq.{drop-append_seam}
use Rattle.std.proofs.lemmas.List.{drop-drop}
use Rattle.std.proofs.lemmas.List.Sums.{sum_by-cons}
use Rattle.std.proofs.lemmas.Option.{same_Some}
use Rattle.std.specs.List.{sum_by}
use Rattle.dhcp_wire.specs.Field.{Read, ◌>>=◌, bytes_at}
use Rattle.dhcp_wire.proofs.FieldLaws.{bytes_at_cut}
use Rattle.dhcp_wire.proofs.FieldLemmas.{mapped}
use Rattle.dhcp_wire.proofs.RawOptionLemmas.{after_a_read}
use Rattle.dhcp_inspect.proofs.RecordLemmas.{record_at-shorter, records_in-record_at}
use Rattle.dhcp_inspect.specs.Capture.{Records, with_later, records_in}
use Rattle.dhcp_inspect.specs.Header.{u32_of}
use Rattle.dhcp_inspect.specs.Laws.{Fills, record_length}
use Rattle.dhcp_inspect.specs.Record.{RecordParts, record_at, u32_at}
use Rattle.dhcp_inspect.specs.declared.header.ByteOrder.{ByteOrder}

-- so many bytes are taken from the front, and these are left
abbrev Takes : ℕ → List ℕ → List ℕ → Type 0
Takes n bytes rest = (n + length rest ≡ length bytes) × (rest ≡ drop n bytes)

-- one after the other
then : (m n : ℕ) (bytes middle rest : List ℕ) → Takes m bytes middle → Takes n middle rest → Takes (m + n) bytes rest
then m n bytes middle rest first second =
    (omega (arith, first.0, second.0), second.1 ∙ ap (drop n) first.1 ∙ drop-drop n m bytes)

bytes_at-takes : (n : ℕ) (bytes front rest : List ℕ) → bytes_at n bytes ≡ Some (front, rest) → Takes n bytes rest
bytes_at-takes n bytes front rest reads =
    let split = bytes_at_cut n bytes front rest reads in (
      omega (arith, ap length split.1, length-append front rest, split.0),
      sym (ap (drop n) split.1 ∙ ap (λ k. drop k (front ++ rest)) (sym split.0) ∙ drop-append_seam front rest),
    )

u32_at-takes : (order : ByteOrder) (bytes rest : List ℕ) (number : ℕ) → u32_at order bytes ≡ Some (number, rest) → Takes 4 bytes rest
unfolding u32_at
u32_at-takes order bytes rest number reads =
    let found = mapped (λ read. (u32_of order read.0, read.1)) (bytes_at 4 bytes) (number, rest) reads in
    let takes = bytes_at-takes 4 bytes found.0.0 found.0.1 found.1 in
    let same : found.0.1 ≡ rest = ap (λ pair. pair.1) found.2 in
    (omega (arith, takes.0, ap length same), sym same ∙ takes.1)

-- what is read after each number of a record, up to the record
abbrev made : ℕ → ℕ → ℕ → List ℕ × List ℕ → Read RecordParts
made seconds fraction wire_length packet =
    Some (record { seconds = seconds; fraction = fraction; wire_length = wire_length; bytes = packet.0 }, packet.1)

abbrev after_wire_length : ℕ → ℕ → ℕ → ℕ × List ℕ → Read RecordParts
after_wire_length seconds fraction kept wire_length = bytes_at kept wire_length.1 >>= made seconds fraction wire_length.0

abbrev after_kept : ByteOrder → ℕ → ℕ → ℕ × List ℕ → Read RecordParts
after_kept order seconds fraction kept = u32_at order kept.1 >>= after_wire_length seconds fraction kept.0

abbrev after_fraction : ByteOrder → ℕ → ℕ × List ℕ → Read RecordParts
after_fraction order seconds fraction = u32_at order fraction.1 >>= after_kept order seconds fraction.0

abbrev after_seconds : ByteOrder → ℕ × List ℕ → Read RecordParts
after_seconds order seconds = u32_at order seconds.1 >>= after_fraction order seconds.0

-- a record takes its four numbers and the bytes kept
record_at-takes : (order : ByteOrder) (bytes later : List ℕ) (packet : RecordParts) → record_at order bytes ≡ Some (packet, later) → Takes (record_length packet) bytes later
unfolding record_at
record_at-takes order bytes later packet is =
    let one = after_a_read (u32_at order bytes) (after_seconds order) (packet, later) is in
    let two = after_a_read (u32_at order one.0.1) (after_fraction order one.0.0) (packet, later) one.2 in
    let three = after_a_read (u32_at order two.0.1) (after_kept order one.0.0 two.0.0) (packet, later) two.2 in
    let four = after_a_read (u32_at order three.0.1) (after_wire_length one.0.0 two.0.0 three.0.0) (packet, later) three.2 in
    let five = after_a_read (bytes_at three.0.0 four.0.1) (made one.0.0 two.0.0 four.0.0) (packet, later) four.2 in
    let same = same_Some _ _ five.2 in
    let kept = bytes_at_cut three.0.0 four.0.1 five.0.0 five.0.1 five.1 in
    let takes = then 4 (4 + (4 + (4 + three.0.0))) bytes one.0.1 five.0.1 (u32_at-takes order bytes one.0.1 one.0.0 one.1)
    (then 4 (4 + (4 + three.0.0)) one.0.1 two.0.1 five.0.1 (u32_at-takes order one.0.1 two.0.1 two.0.0 two.1)
    (then 4 (4 + three.0.0) two.0.1 three.0.1 five.0.1 (u32_at-takes order two.0.1 three.0.1 three.0.0 three.1)
    (then 4 three.0.0 three.0.1 four.0.1 five.0.1 (u32_at-takes order three.0.1 four.0.1 four.0.0 four.1)
    (bytes_at-takes three.0.0 four.0.1 five.0.0 five.0.1 five.1)))) in
    let front : five.0.0 ≡ packet.bytes = ap (λ (read : RecordParts × List ℕ). read.0.bytes) same in
    let rest : five.0.1 ≡ later = ap (λ (read : RecordParts × List ℕ). read.1) same in
    let taken : 4 + (4 + (4 + (4 + three.0.0))) ≡ record_length packet = omega (arith, kept.0, ap length front) in
    (omega (arith, takes.0, taken, ap length rest), sym rest ∙ takes.1 ∙ ap (λ n. drop n bytes) taken)

fills-with_later : (order : ByteOrder) (bytes : List ℕ) (later : List ℕ → Records) (read : Read RecordParts) → record_at order bytes ≡ read →
    ((rest : List ℕ) → length rest + 1 ≤ length bytes → Fills order (later rest) rest) → Fills order (with_later bytes later read) bytes
fills-with_later order bytes later None is fills = record { filled = omega arith; remainder = refl; ended = is }
fills-with_later order bytes later (Some found) is fills =
    let taken = record_at-takes order bytes found.1 found.0 is in
    let rest = fills found.1 (omega (arith, record_at-shorter order bytes found.1 found.0 is)) in
    let sum = sum_by-cons record_length found.0 (later found.1).whole in
    let all = then (record_length found.0) (sum_by record_length (later found.1).whole) bytes found.1 (later found.1).remainder taken (rest.filled, rest.remainder) in
    record {
      filled = omega (arith, sum, all.0);
      remainder = all.1 ∙ ap (λ n. drop n bytes) (sym sum);
      ended = rest.ended;
    }

-- by the number of bytes
fills-within : (order : ByteOrder) (fuel : ℕ) (bytes : List ℕ) → length bytes ≤ fuel → Fills order (records_in order bytes) bytes
fills-within order zero bytes few =
    rw (records_in-record_at order bytes)
    (fills-with_later order bytes (records_in order) (record_at order bytes) refl (λ rest less. absurd (omega arith)))
fills-within order (suc fuel) bytes few =
    rw (records_in-record_at order bytes)
    (fills-with_later order bytes (records_in order) (record_at order bytes) refl (λ rest less. fills-within order fuel rest (omega arith)))

pub records_in-fills : (order : ByteOrder) (bytes : List ℕ) → Fills order (records_in order bytes) bytes
records_in-fills order bytes = fills-within order (length bytes) bytes (omega arith)
