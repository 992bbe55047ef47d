use Rattle.std.proofs.Common.{length, ◌+◌, ◌-◌, ◌≤◌}
use Rattle.std.specs.Io.KnownBytes.{Consumes}
use Rattle.dhcp_stream.specs.Whole.{most_bytes}
use Rattle.dhcp_stream.proofs.whole.read_whole.Given as goal

abbrev pub invariant-loop-piece : goal.invariant-loop-piece
invariant-loop-piece g l = record {
  within : length l.bytes.items ≤ most_bytes + 1;
  moved : Consumes (g.S.Source.left l.fn.source) (g.S.Source.left l.source) l.bytes.items;
  counted : g.S.Source.faults l.fn.source ≤ g.S.Source.faults l.source;
}

abbrev pub decreases-loop-piece : goal.decreases-loop-piece
decreases-loop-piece g l = most_bytes + 1 - length l.bytes.items
