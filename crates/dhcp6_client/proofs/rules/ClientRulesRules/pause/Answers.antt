-- By the word that is drawn.
use Rattle.dhcp6_client.proofs.TakenWords.{pause_taken}
use Rattle.dhcp6_client.proofs.rules.ClientRulesRules.pause.Goals as goal

pub returns-in-Solicit-clause-taken : goal.returns-in-Solicit-clause-taken
returns-in-Solicit-clause-taken g c =
    rw c.in-Solicit.is (pause_taken g.W.Words.gives _ _ c.next_word.result _ c.next_word.ensures.given c.draw.ensures.value)
