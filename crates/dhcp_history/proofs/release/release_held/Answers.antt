use Rattle.std.proofs.Common.{◌≡◌, refl, rules}
use Rattle.std.specs.Prelude.{Some, option_map}
use Rattle.dhcp_history.specs.Client.{view_of}
use Rattle.dhcp_history.proofs.Running.{release_sent}
use Rattle.dhcp_history.proofs.release.release_held.Goals as goal

pub returns-clause-released : goal.returns-clause-released
returns-clause-released g c =
    let p = g.R.Rules.protocol c.args.rules.now in
    let made : Some c.in-Some.message ≡ option_map (λ lease. p.release_message lease c.args.client.now.standing.exchange) (p.held_lease c.args.client.now.state) = search rules in
    release_sent p (p.held_lease c.args.client.now.state) (view_of c.args.client.now) (view_of c.release_by.new.client) c.in-Some.message c.args.client.now.standing.exchange
    (g.L.DhcpLink.shown c.args.link.now) (g.L.DhcpLink.shown c.release_by.new.link) (λ words. refl) made c.in_ok-release_by.ensures.handed c.in_ok-release_by.ensures.cleaned
