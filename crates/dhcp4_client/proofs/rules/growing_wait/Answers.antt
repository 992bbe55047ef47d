-- By the word that is drawn.
use Rattle.dhcp4_client.specs.Rules as table
use Rattle.dhcp4_client.proofs.TakenWords.{taken_next}
use Rattle.dhcp4_client.proofs.rules.growing_wait.Goals as goal

pub returns-clause-taken : goal.returns-clause-taken
returns-clause-taken g c =
    taken_next g.W.Words.gives c.args.words.now c.next_word.new.self c.next_word.result (table.growing_wait c.args.exchange) c.discovery_wait.result c.next_word.ensures.given
    (λ rest. rw c.discovery_wait.ensures.value)
