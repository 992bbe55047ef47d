-- A lease with the moments of its times.
use Rattle.std.specs.Prelude.{ℕ, ◌+◌, ◌*◌}

-- a lease, and the moment at which it was granted, in milliseconds
pub record Bound (Lease : Type 0) : Type 0 where
  pub lease : Lease
  pub since : ℕ

-- the moment so many seconds later; 2 ^ 32 - 1, infinity in RFC 2131 section 3.3 and RFC 8415
-- section 7.7, is a number as any other
abbrev pub after : {Lease : Type 0} → Bound Lease → ℕ → ℕ
after bound seconds = bound.since + 1000 * seconds
