-- By the word that is drawn.
use Rattle.dhcp6_info.proofs.TakenWords.{id_taken}
use Rattle.dhcp6_info.proofs.draws.transaction_id.Goals as goal

pub returns-then-is_first-clause-taken : goal.returns-then-is_first-clause-taken
returns-then-is_first-clause-taken g c =
    rw c.if-is_first.true (id_taken g.W.Words.gives _ _ c.next_word.result _ c.args.exchange c.next_word.ensures.given c.new_id.ensures)
