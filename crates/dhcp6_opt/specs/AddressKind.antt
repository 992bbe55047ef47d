-- The kinds of addresses that stand inside identity associations, RFC 8415 sections 21.6 and 21.22.
use Rattle.std.specs.Prelude.{ℕ, List, Option}

-- a kind of address: the code of its option, and how its value reads
pub record AddressKind (X : Type 0) : Type 0 where
  pub code : ℕ
  pub value_in : List ℕ → Option X
