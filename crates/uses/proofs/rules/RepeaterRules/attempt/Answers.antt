-- By the word that is drawn.
use Rattle.dhcp_clock.proofs.Taken.{leads_one}
use Rattle.std.proofs.Common.{[], ◌∷◌, arith}
use Rattle.uses.proofs.rules.RepeaterRules.attempt.Goals as goal

pub returns-clause-taken : goal.returns-clause-taken
returns-clause-taken g c =
    (c.next_word-word.result ∷ [], (leads_one g.W.Words.gives _ _ _ c.next_word-word.ensures.given, λ rest. grind arith))
