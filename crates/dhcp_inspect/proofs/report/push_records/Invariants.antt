use Rattle.std.proofs.Common.{◌≡◌, ◌+◌, ◌++◌, length, string_bytes}
use Rattle.dhcp_inspect.specs.Report.{records_text}
use Rattle.dhcp_inspect.proofs.report.push_records.Given as goal

abbrev pub invariant-loop-packet : goal.invariant-loop-packet
invariant-loop-packet l = record {
  lines : string_bytes l.text ++ records_text l.unit (l.number + 1) l.capture.records ≡ string_bytes l.initial.text ++ records_text l.unit 1 l.initial.capture.records;
  few : l.number + length l.capture.records ≡ length l.initial.capture.records;
  remainder : l.capture.remainder ≡ l.initial.capture.remainder;
}

abbrev pub decreases-loop-packet : goal.decreases-loop-packet
decreases-loop-packet l = length l.capture.records
