-- By the life of the client that begins.
use Rattle.std.specs.Prelude.{IfSome}
use Rattle.dhcp6_info_play.specs.Promises.{KeepsPromises}
use Rattle.dhcp6_info_play.proofs.InfoLife.{all_have_texts, all_reported, promises_of, whatever}
use Rattle.dhcp6_info_play.proofs.replayed.play_with.Goals as goal

pub returns-clause-outputs : goal.returns-clause-outputs
returns-clause-outputs g c =
    all_reported c.args.config c.args.events.now c.in_ok-client.client.value (g.W.Words.left c.args.words.now) (g.W.Words.left c.begun.new.words) c.in_ok-client.ensures.drawn c.in_ok-client.ensures.begun
    c.deref_mut.result.now c.play.new.client (g.W.Words.left c.play.new.words) c.deref_mut.ensures.value c.play.result c.play.ensures.played

pub returns-clause-failures : goal.returns-clause-failures
returns-clause-failures g c =
    all_have_texts c.args.config c.args.events.now c.in_ok-client.client.value (g.W.Words.left c.args.words.now) (g.W.Words.left c.begun.new.words) c.in_ok-client.ensures.drawn c.in_ok-client.ensures.begun
    c.deref_mut.result.now c.play.new.client (g.W.Words.left c.play.new.words) c.deref_mut.ensures.value c.play.result c.play.ensures.played

pub returns-clause-promises : goal.returns-clause-promises
returns-clause-promises g c =
    whatever c.play.result (IfSome (g.W.Words.left c.args.words.now) (λ drawn. KeepsPromises c.args.config drawn c.args.events.now))
    (promises_of c.args.config c.args.events.now c.in_ok-client.client.value (g.W.Words.left c.args.words.now) (g.W.Words.left c.begun.new.words) c.in_ok-client.ensures.drawn c.in_ok-client.ensures.begun
    c.deref.result.now c.deref.ensures c.promises_are_kept.ensures)
