-- One word for the time, and a further one where it is past the greatest.
use Rattle.dhcp_clock.proofs.Taken.{retransmit_taken, taken_above, taken_below}
use Rattle.dhcp_clock.proofs.Waits.{bounded_below, bounded_above, retransmit_drawn}
use Rattle.dhcp_clock.proofs.wait.retransmit_wait.Goals as goal

pub returns-then-time-mrt-clause-drawn : goal.returns-then-time-mrt-clause-drawn
returns-then-time-mrt-clause-drawn g c =
    retransmit_drawn _ _ _ c.args.previous c.args.irt c.args.mrt c.next_word.result c.next_time-time.result _ c.next_word.ensures.next c.next_time-time.ensures.value
    (bounded_below _ c.args.mrt c.next_time-time.result c.if-time-mrt.true)

pub returns-else-time-mrt-clause-drawn : goal.returns-else-time-mrt-clause-drawn
returns-else-time-mrt-clause-drawn g c =
    rw c.randomized_time.ensures.value
    (retransmit_drawn _ _ _ c.args.previous c.args.irt c.args.mrt c.next_word.result c.next_time-time.result _ c.next_word.ensures.next c.next_time-time.ensures.value
    (bounded_above _ _ c.args.mrt c.next_time-time.result c.next_word-else-time-mrt.result c.if-time-mrt.false c.next_word-else-time-mrt.ensures.next))

pub returns-then-time-mrt-clause-taken : goal.returns-then-time-mrt-clause-taken
returns-then-time-mrt-clause-taken g c =
    retransmit_taken g.W.Words.gives _ _ _ c.args.previous c.args.irt c.args.mrt c.next_word.result c.next_time-time.result _ c.next_word.ensures.given c.next_time-time.ensures.value
    (taken_below g.W.Words.gives _ c.args.mrt c.next_time-time.result c.if-time-mrt.true)

pub returns-else-time-mrt-clause-taken : goal.returns-else-time-mrt-clause-taken
returns-else-time-mrt-clause-taken g c =
    rw c.randomized_time.ensures.value
    (retransmit_taken g.W.Words.gives _ _ _ c.args.previous c.args.irt c.args.mrt c.next_word.result c.next_time-time.result _ c.next_word.ensures.given c.next_time-time.ensures.value
    (taken_above g.W.Words.gives _ _ c.args.mrt c.next_time-time.result c.next_word-else-time-mrt.result c.if-time-mrt.false c.next_word-else-time-mrt.ensures.given))
