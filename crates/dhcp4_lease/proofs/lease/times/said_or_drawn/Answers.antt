-- The time that a word gives.
use Rattle.dhcp4_lease.proofs.TakenTimes.{taken_by_word}
use Rattle.dhcp4_lease.proofs.TimesLemmas.{drawn_by_word}
use Rattle.dhcp4_lease.proofs.lease.times.said_or_drawn.Goals as goal

pub returns-in-None-2-clause-drawn : goal.returns-in-None-2-clause-drawn
returns-in-None-2-clause-drawn g c = drawn_by_word _ _ c.args.said c.args.base c.next_word.result c.in-None-2.is c.if-base-lt20.false c.next_word.ensures.next

pub returns-in-None-2-clause-taken : goal.returns-in-None-2-clause-taken
returns-in-None-2-clause-taken g c = taken_by_word g.W.Words.gives _ _ c.args.said c.args.base c.next_word.result c.in-None-2.is c.if-base-lt20.false c.next_word.ensures.given
