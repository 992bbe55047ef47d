-- By the life of the client that begins.
use Rattle.std.proofs.Common.{refl}
use Rattle.std.specs.Prelude.{◌&&◌, map}
use Rattle.std.proofs.lemmas.Bool.{and_parts}
use Rattle.dhcp6_client.specs.Client.{can_begin}
use Rattle.dhcp_output.specs.Output.{plain_output}
use Rattle.dhcp_script.specs.Event.{are_valid}
use Rattle.dhcp_replay.specs.Replayed6.{fit_a_script}
use Rattle.dhcp_replay.proofs.Life6Lemmas.{client6, failures6, promises6, reported6, words6}
use Rattle.dhcp_replay.proofs.PlayLemmas.{played_by}
use Rattle.dhcp_replay.proofs.ReplayLemmas.{can_play}
use Rattle.dhcp_replay.proofs.replayed6.replay6.Goals as goal

pub play-requires : goal.play-requires
play-requires g c =
    let within = and_parts (are_valid c.args.start c.args.events.now && fit_a_script c.args.config c.args.lease) (can_begin c.args.config c.args.lease) c.in_ok-client.ensures.valid in
    can_play c.args.start c.args.events.now (and_parts (are_valid c.args.start c.args.events.now) (fit_a_script c.args.config c.args.lease) within.0).0

pub returns-clause-outputs : goal.returns-clause-outputs
returns-clause-outputs g c = reported6 c.args.config c.args.lease c.args.start c.args.events.now c.in_ok-client.client.value (g.W.Words.left c.args.words.now) (g.W.Words.left c.begun6.new.words) c.in_ok-client.ensures.drawn c.in_ok-client.ensures.begun (map plain_output c.in_ok-outputs.outputs) c.play.new.client (g.W.Words.left c.play.new.words) (played_by _ _ _ _ _ _ _ _ _ c.deref_mut.ensures.value c.in_ok-outputs.ensures.played)

pub returns-clause-client : goal.returns-clause-client
returns-clause-client g c = client6 c.args.config c.args.lease c.args.start c.args.events.now c.in_ok-client.client.value (g.W.Words.left c.args.words.now) (g.W.Words.left c.begun6.new.words) c.in_ok-client.ensures.drawn c.in_ok-client.ensures.begun (map plain_output c.in_ok-outputs.outputs) c.play.new.client (g.W.Words.left c.play.new.words) (played_by _ _ _ _ _ _ _ _ _ c.deref_mut.ensures.value c.in_ok-outputs.ensures.played)

pub returns-clause-words : goal.returns-clause-words
returns-clause-words g c = words6 c.args.config c.args.lease c.args.start c.args.events.now c.in_ok-client.client.value (g.W.Words.left c.args.words.now) (g.W.Words.left c.begun6.new.words) c.in_ok-client.ensures.drawn c.in_ok-client.ensures.begun (map plain_output c.in_ok-outputs.outputs) c.play.new.client (g.W.Words.left c.play.new.words) (played_by _ _ _ _ _ _ _ _ _ c.deref_mut.ensures.value c.in_ok-outputs.ensures.played)

pub returns-clause-failures : goal.returns-clause-failures
returns-clause-failures g c = failures6 c.args.config c.args.lease c.args.start c.args.events.now c.in_ok-client.client.value (g.W.Words.left c.args.words.now) (g.W.Words.left c.begun6.new.words) c.in_ok-client.ensures.drawn c.in_ok-client.ensures.begun (map plain_output c.in_ok-outputs.outputs) c.play.new.client (g.W.Words.left c.play.new.words) (played_by _ _ _ _ _ _ _ _ _ c.deref_mut.ensures.value c.in_ok-outputs.ensures.played) c.in_ok-outputs.outputs refl

pub returns-clause-promises : goal.returns-clause-promises
returns-clause-promises g c = promises6 c.args.config c.args.lease c.args.start c.args.events.now c.in_ok-client.client.value (g.W.Words.left c.args.words.now) (g.W.Words.left c.begun6.new.words) c.in_ok-client.ensures.drawn c.in_ok-client.ensures.begun c.deref.result.now c.deref.ensures c.promises6_are_kept.ensures
