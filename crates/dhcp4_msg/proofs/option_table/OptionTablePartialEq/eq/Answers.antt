-- Options that are equal under each byte are equal.
use Rattle.std.proofs.Common.{sym, arith, below_more}
use Rattle.dhcp4_msg.proofs.SlotLemmas.{agree-at, agree_everywhere}
use Rattle.dhcp4_msg.proofs.option_table.OptionTablePartialEq.eq.Goals as goal

pub returns-then-not-agrees_at : goal.returns-then-not-agrees_at
returns-then-not-agrees_at c = agree-at _ _ c.loop-number.number (sym c.if-not-agrees_at.ensures)

pub loop-number-preserved : goal.loop-number-preserved
loop-number-preserved c = below_more _ _ c.loop-number.invariant (sym c.if-not-agrees_at.ensures)

pub returns-else-not-agrees_at : goal.returns-else-not-agrees_at
returns-else-not-agrees_at c =
    rw (← c.self.view_is, ← c.other.view_is) (agree_everywhere _ _ _ _ c.self.invariant c.other.invariant (λ q below.
    rw (c.self.view_is, c.other.view_is) (below_more _ _ c.loop-number.invariant (sym c.if-not-agrees_at.ensures) q (omega arith))))

pub returns : goal.returns
returns c = absurd (omega arith)
