-- Codes in rising order, each once.
use Rattle.std.proofs.Common.{ℕ, suc, ◌+◌, ◌≤◌, List, [], ◌∷◌, length, arith}
use Rattle.std.specs.Prelude.{fold}
use Rattle.std.specs.BTreeSet.{insert_key}
use Rattle.std.specs.Ordering.{match_ordering, nat_cmp}
use Rattle.std.specs.declared.cmp.Ordering.TheVariants.{Less, Equal, Greater}
use Rattle.std.proofs.lemmas.List.{length-map}
use Rattle.dhcp_wire.specs.OptionCodes.{rising, rising_codes}

-- numbers in rising order are no more than they were
inserted : (keys : List ℕ) (k : ℕ) → length (insert_key nat_cmp keys k) ≤ suc (length keys)
inserted [] k = omega arith
inserted (x ∷ keys) k =
    elim (nat_cmp k x) as (λ order. length (match_ordering order (k ∷ x ∷ keys) (x ∷ keys) (x ∷ insert_key nat_cmp keys k)) ≤ suc (length (x ∷ keys)))
    [ Less ↦ omega arith | Equal ↦ omega arith | Greater ↦ omega (arith, inserted keys k) ]

rising_from : (numbers keys : List ℕ) → length (fold (insert_key nat_cmp) keys numbers) ≤ length keys + length numbers
rising_from [] keys = omega arith
rising_from (number ∷ numbers) keys = omega (arith, rising_from numbers (insert_key nat_cmp keys number), inserted keys number)

-- so codes in rising order are no more than were listed
pub rising_few : {Code : Type 0} (code_of : ℕ → Code) (numbers : List ℕ) → length (rising_codes nat_cmp code_of numbers) ≤ length numbers
unfolding rising_codes
rising_few code_of numbers = rw (length-map (rising nat_cmp numbers) code_of) (omega (arith, rising_from numbers []))
