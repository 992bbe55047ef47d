-- A client of a network can begin, and begins so.
use Rattle.std.proofs.Common.{◌≡◌, rules, ap, ◌∙◌, subst, drop, None}
use Rattle.dhcp_clock.specs.Words.{next_of}
use Rattle.dhcp_history.specs.Client.{view_of}
use Rattle.dhcp4_lease.specs.Config.{Config}
use Rattle.dhcp4_client.specs.Client.{Begins, ClientParts, can_begin}
use Rattle.dhcp4_net.specs.Clients.{config_of}
use Rattle.dhcp4_net.proofs.PeerLemmas.{begun_view, may_begin}
use Rattle.dhcp4_net.proofs.peer.begun.Goals as goal

pub returns-in_err-client-clause-error : goal.returns-in_err-client-clause-error
returns-in_err-client-clause-error c =
    absurd (cc (c.in_err-client.ensures.begins ∙ ap (λ (config : Config). can_begin config None) c.in_ok-config.ensures ∙ may_begin c.args.client.now))

pub returns-clause-peer : goal.returns-clause-peer
returns-clause-peer c =
    let begins : Begins (config_of c.args.client.now) None c.in_ok-client.client = subst (λ (config : Config). Begins config None c.in_ok-client.client) c.in_ok-config.ensures c.in_ok-client.ensures.begun in
    let xid : c.in_ok-client.client.client.standing.exchange.xid ≡ next_of c.args.client.now.words = search rules in
    let left : c.init.new.words ≡ drop 1 c.args.client.now.words = search rules in
    record {
      config_is = ap (λ (one : ClientParts). one.config) c.in_ok-new.ensures.ok ∙ begins.config;
      view_is = ap (λ (one : ClientParts). view_of one.client c.init.new.words) c.in_ok-new.ensures.ok
          ∙ begun_view c.args.client.now c.in_ok-client.client c.init.new.words begins xid left;
    }
