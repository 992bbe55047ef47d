-- By the word that is drawn.
use Rattle.dhcp4_client.specs.Rules as table
use Rattle.dhcp4_client.proofs.TakenWords.{taken_next}
use Rattle.dhcp4_client.proofs.rules.first_pause.Goals as goal

pub returns-then-exchange-eq0-clause-taken : goal.returns-then-exchange-eq0-clause-taken
returns-then-exchange-eq0-clause-taken g c =
    taken_next g.W.Words.gives c.args.words.now c.next_word.new.self c.next_word.result (table.first_pause c.args.exchange) c.draw.result c.next_word.ensures.given
    (λ rest. rw (c.if-exchange-eq0.true, c.draw.ensures.value))
