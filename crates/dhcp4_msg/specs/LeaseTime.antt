-- T1 and T2 of a lease that lasts so many seconds, where its message says none: half of it, and
-- seven eighths, both rounded down, RFC 2131 section 4.4.5.
use Rattle.std.specs.Prelude.{ℕ, ◌*◌, ◌/◌}

abbrev pub default_renewal_time : ℕ → ℕ
default_renewal_time lease_time = lease_time / 2

abbrev pub default_rebinding_time : ℕ → ℕ
default_rebinding_time lease_time = 7 * lease_time / 8
