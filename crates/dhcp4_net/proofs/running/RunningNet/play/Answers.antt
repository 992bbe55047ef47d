-- The client has played the event, and what it reported was logged.
use Rattle.std.proofs.Common.{◌≡◌, List, length, refl, sym, ◌∙◌, subst, rules}
use Rattle.std.specs.Vec.{with_items}
use Rattle.std.proofs.lemmas.List.{with_items_is}
use Rattle.dhcp4_net.specs.Running.{PlaysAt}
use Rattle.dhcp4_net.specs.declared.peer.Peer.{Peer}
use Rattle.dhcp4_net.specs.declared.running.RunningNet.{RunningNet}
use Rattle.dhcp4_net.proofs.RunningLemmas.{client_played}
use Rattle.dhcp4_net.proofs.running.RunningNet.play.Goals as goal

pub returns-clause-played : goal.returns-clause-played
returns-clause-played c = λ config configs count net stands le.
    let after : RunningNet = record {
      alloc = c.args.self.now.alloc;
      server = c.args.self.now.server;
      peers = with_items c.args.self.now.peers c.play_at.new.peers;
      log = c.reports.new.self;
      now = c.args.at.moment;
      bound_ms = c.args.self.now.bound_ms;
    } in
    let lent : c.as_mut_slice-peers.result.now ≡ c.args.self.now.peers.items = search rules in
    let plays : PlaysAt c.args.client (record { number = c.args.at.event; moment = c.args.at.moment; refuse = c.args.refuse; input = c.args.input }) c.in_ok-outputs.outputs.items c.args.self.now.peers.items c.play_at.new.peers =
    subst (λ (before : List Peer). PlaysAt c.args.client (record { number = c.args.at.event; moment = c.args.at.moment; refuse = c.args.refuse; input = c.args.input }) c.in_ok-outputs.outputs.items before c.play_at.new.peers) lent c.in_ok-outputs.ensures.plays in
    let kept : length c.play_at.new.peers ≡ c.args.self.now.peers.len = (plays configs net.clients stands.peers).count ∙ sym c.args.self.now.peers.ok.0 in
    let written : (with_items c.args.self.now.peers c.play_at.new.peers).items ≡ c.play_at.new.peers = with_items_is c.args.self.now.peers c.play_at.new.peers kept in
    client_played config configs count net c.args.self.now after c.args.at.event c.args.at.moment c.args.client c.args.refuse c.args.input c.in_ok-outputs.outputs.items stands le
    (subst (λ (peers : List Peer). PlaysAt c.args.client (record { number = c.args.at.event; moment = c.args.at.moment; refuse = c.args.refuse; input = c.args.input }) c.in_ok-outputs.outputs.items c.args.self.now.peers.items peers) (sym written) plays)
    c.in_ok-reports.ensures refl refl refl
