-- The identifier of the four words.
use Rattle.dhcp6_opt.proofs.DuidLemmas.{draws_duid, takes_duid}
use Rattle.dhcp6_opt.proofs.duid.DhcpV6Duid.random.Goals as goal

pub returns-clause-drawn : goal.returns-clause-drawn
returns-clause-drawn g c =
    draws_duid _ _ _ _ _ _ _ _ _ _ c.next_word-a.ensures.next c.next_word-b.ensures.next c.next_word-c.ensures.next c.next_word-d.ensures.next c.of_words.ensures

pub returns-clause-taken : goal.returns-clause-taken
returns-clause-taken g c =
    takes_duid g.W.Words.gives _ _ _ _ _ _ _ _ _ _ c.next_word-a.ensures.given c.next_word-b.ensures.given c.next_word-c.ensures.given c.next_word-d.ensures.given c.of_words.ensures
