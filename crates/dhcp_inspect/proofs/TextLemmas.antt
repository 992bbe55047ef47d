-- What is printed: numbers filled with zeros, and the lines of records.
use Rattle.std.proofs.Common.{◌≡◌, ℕ, ◌+◌, ◌^◌, ◌-◌, false, List, [], ◌∷◌, ◌++◌, length, append-nil, append_assoc, Result, Ok, Err, refl, ap, ◌∙◌, arith}
use Rattle.std.specs.Fmt.{char_count, decimal, format_spec, padded_integral}
use Rattle.std.specs.Result.{OnOk}
use Rattle.dhcp_inspect.specs.Record.{RecordParts}
use Rattle.dhcp_inspect.specs.Report.{record_text, records_text, zero_filled}
use Rattle.dhcp_inspect.specs.declared.header.TimeUnit.{TimeUnit}

-- what std writes for a number that is filled with zeros
pub padded-zero_filled : (width number : ℕ) → padded_integral (format_spec 32 0 4 width (2 ^ 64 - 1)) false [] (decimal number) ≡ zero_filled width number
unfolding padded_integral char_count
padded-zero_filled width number =
    let short : width - length (decimal number) - 0 - 0 ≡ width - length (decimal number) = omega arith in
    rw (short, append-nil (decimal number)) refl

pub ruleset filled = (padded-zero_filled)

-- the lines of a record and of others after it
pub records_text-cons : (unit : TimeUnit) (number : ℕ) (packet : RecordParts) (packets : List RecordParts) →
    records_text unit number (packet ∷ packets) ≡ record_text unit number packet ++ records_text unit (number + 1) packets
unfolding records_text
records_text-cons unit number packet packets = refl

-- no records have no lines
pub records_text-nil : (unit : TimeUnit) (number : ℕ) → records_text unit number [] ≡ []
unfolding records_text
records_text-nil unit number = refl

pub ruleset lines = (records_text-cons, records_text-nil, append-nil, append_assoc)

-- what is pushed after some bytes
pub pushed_after : {T E : Type 0} (result : Result T E) (old middle new front rest : List ℕ) → middle ≡ old ++ front → OnOk result (new ≡ middle ++ rest) → OnOk result (new ≡ old ++ (front ++ rest))
pushed_after (Ok done) old middle new front rest first second =
    second ∙ ap (λ (bytes : List ℕ). bytes ++ rest) first ∙ append_assoc old front rest
pushed_after (Err e) old middle new front rest first second = tt

-- two fields after the word `v4`, and what follows them
pub two_fields : (one other rest : List ℕ) → (118 ∷ 52 ∷ 32 ∷ (one ++ 32 ∷ (other ++ 32 ∷ []))) ++ rest ≡ 118 ∷ 52 ∷ 32 ∷ (one ++ 32 ∷ (other ++ 32 ∷ rest))
two_fields one other rest = simp append_assoc
