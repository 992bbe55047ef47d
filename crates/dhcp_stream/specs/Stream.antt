-- How much moves through a source and a sink, and the counts of their faults.
use Rattle.std.specs.Prelude.{ℕ, ◌+◌, ◌-◌, ◌^◌, min}
use Rattle.dhcp_stream.specs.declared.stream.ReadOutcome.{ReadOutcome}
use Rattle.dhcp_stream.specs.declared.stream.ReadOutcome.TheVariants as reads
use Rattle.dhcp_stream.specs.declared.stream.WriteOutcome.{WriteOutcome}
use Rattle.dhcp_stream.specs.declared.stream.WriteOutcome.TheVariants as writes

-- how many bytes a read moved
abbrev pub read_count : ReadOutcome → ℕ
read_count (reads.Read n) = n
read_count reads.Failed = 0

-- how many bytes a write took
abbrev pub write_count : WriteOutcome → ℕ
write_count (writes.Wrote n) = n
write_count writes.Failed = 0

-- the count of faults after one more; from 18446744073709551615 on it stays
abbrev pub one_fault_more : ℕ → ℕ
one_fault_more faults = min (faults + 1) (2 ^ 64 - 1)

-- the count after a read of std's streams: one more where it failed, else the same
abbrev pub faults_after_read : ReadOutcome → ℕ → ℕ
faults_after_read (reads.Read n) faults = faults
faults_after_read reads.Failed faults = one_fault_more faults

-- the count after a write: one more where it failed, else the same
abbrev pub faults_after_write : WriteOutcome → ℕ → ℕ
faults_after_write (writes.Wrote n) faults = faults
faults_after_write writes.Failed faults = one_fault_more faults
