use Rattle.std.proofs.Common.{arith}
use Rattle.dhcp_frame.proofs.Sums.{word_sum-two}
use Rattle.dhcp_frame.proofs.checksum.word_sum.Goals as goal

pub loop-left-preserved : goal.loop-left-preserved
loop-left-preserved c =
    (omega (arith, word_sum-two c.loop-left.left.now c.in-len2-up.len_at_least, c.loop-left.invariant.0, c.from.ensures, c.from-in-len2-up.ensures), omega (arith, c.loop-left.invariant.1))
