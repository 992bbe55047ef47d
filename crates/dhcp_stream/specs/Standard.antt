-- A source and a sink over a reader and a writer of std.
use Rattle.std.specs.Prelude.{ℕ, List, Option}

-- a source: the bytes that its reader will give, where std knows them, and the number of faults
pub record StdSourceView : Type 0 where
  pub remaining : Option (List ℕ)
  pub faults : ℕ

-- a sink: the bytes that its writer holds, where std knows them, and the number of faults
pub record StdSinkView : Type 0 where
  pub contents : Option (List ℕ)
  pub faults : ℕ
