-- The option codes that a client asks for, in both families.
use Rattle.std.specs.Prelude.{List, [], map, fold}
use Rattle.std.specs.declared.cmp.Ordering.{Ordering}
use Rattle.std.specs.BTreeSet.{insert_key}

-- numbers in rising order, each once
abbrev pub rising : {Number : Type 0} → (Number → Number → Ordering) → List Number → List Number
rising cmp numbers = fold (insert_key cmp) [] numbers

-- the codes of these numbers in rising order, each number once
unfoldable pub rising_codes : {Number Code : Type 0} → (Number → Number → Ordering) →
    (Number → Code) → List Number → List Code
rising_codes cmp code_of numbers = map code_of (rising cmp numbers)
