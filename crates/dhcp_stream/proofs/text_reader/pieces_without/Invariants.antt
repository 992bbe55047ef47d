-- The bytes that are passed have none that is searched for.
use Rattle.std.proofs.Common.{◌≡◌, ◌≤◌, ◌+◌, ◌-◌, drop, length}
use Rattle.std.specs.Prelude.{◌==◌}
use Rattle.std.specs.List.{position_or_len}
use Rattle.dhcp_stream.proofs.text_reader.pieces_without.Given as goal

abbrev pub invariant-loop-passed : goal.invariant-loop-passed
invariant-loop-passed l =
    (l.passed ≤ length l.text) ×
    (position_or_len (λ byte. byte == l.end) l.text ≡ l.passed + position_or_len (λ byte. byte == l.end) (drop l.passed l.text))

abbrev pub decreases-loop-passed : goal.decreases-loop-passed
decreases-loop-passed l = length l.text - l.passed
