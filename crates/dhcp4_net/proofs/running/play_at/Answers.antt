use Rattle.std.proofs.Common.{slice_index_or, slice_set}
use Rattle.std.proofs.lemmas.Result.{IfOk-weaker}
use Rattle.dhcp4_net.specs.Clients.{Plays}
use Rattle.dhcp4_net.specs.Running.{PlaysAt}
use Rattle.dhcp4_net.proofs.RunningLemmas.{played_at}
use Rattle.dhcp4_net.proofs.running.play_at.Goals as goal

-- src/running.rt:81:1
pub returns-clause-plays : goal.returns-clause-plays
returns-clause-plays c =
    IfOk-weaker c.play.result (λ reported. Plays c.args.event reported.items (slice_index_or c.args.peers.now c.args.client c.index-peers-client.result) c.play.new.self)
    (λ reported. PlaysAt c.args.client c.args.event reported.items c.args.peers.now (slice_set c.args.peers.now c.args.client c.play.new.self))
    (λ reported plays. played_at c.args.client c.args.event reported.items c.args.peers.now c.index-peers-client.result c.play.new.self c.requires.inside plays)
    c.play.ensures.plays
