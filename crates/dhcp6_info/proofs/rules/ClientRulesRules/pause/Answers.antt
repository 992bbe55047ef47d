-- By the word that is drawn.
use Rattle.dhcp6_info.proofs.TakenWords.{pause_taken}
use Rattle.dhcp6_info.proofs.rules.ClientRulesRules.pause.Goals as goal

pub returns-in-Inform-clause-taken : goal.returns-in-Inform-clause-taken
returns-in-Inform-clause-taken g c =
    rw c.in-Inform.is (pause_taken g.W.Words.gives _ _ c.next_word.result _ c.next_word.ensures.given c.draw.ensures.value)
