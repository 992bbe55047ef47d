use Rattle.std.proofs.Common.{◌≡◌, ◌≤◌, ◌*◌, ◌+◌, length}
use Rattle.dhcp_frame.specs.Checksum.{word_sum}
use Rattle.dhcp_frame.proofs.checksum.word_sum.Given as goal

abbrev pub invariant-loop-left : goal.invariant-loop-left
invariant-loop-left l =
    (l.sum + word_sum l.left ≡ word_sum l.bytes) × (l.sum + 65535 * length l.left ≤ 65535 * length l.bytes)

abbrev pub decreases-loop-left : goal.decreases-loop-left
decreases-loop-left l = length l.left
