-- A server and clients that have begun stand for the network at its start.
use Rattle.std.proofs.Common.{◌≡◌, rules, ap, refl}
use Rattle.dhcp4_server.specs.Server.{Server, begun}
use Rattle.dhcp4_net.proofs.running.RunningNet.begun.Goals as goal

pub returns-clause-stands : goal.returns-clause-stands
returns-clause-stands c =
    let made : c.in_ok-server.server ≡ begun c.args.script.now.server = search rules in
    record {
      now = refl;
      log = c.new-2.ensures;
      config_is = ap (λ (server : Server). server.config) made;
      bound_is = refl;
      server = c.in_ok-server.ensures.stands c.args.script.now.start;
      count_is = search rules;
      peers = search rules;
    }
