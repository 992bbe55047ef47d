-- By the word that is drawn.
use Rattle.dhcp_clock.proofs.Taken.{taken_word}
use Rattle.dhcp6_client.proofs.draws.association_id.Goals as goal

pub returns-in-Solicit-clause-taken : goal.returns-in-Solicit-clause-taken
returns-in-Solicit-clause-taken g c = rw c.in-Solicit.is (taken_word g.W.Words.gives _ _ c.next_word.result c.next_word.ensures.given)
