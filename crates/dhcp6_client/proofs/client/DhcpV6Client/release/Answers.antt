-- A release that the link took cleans up; the times of the lease stay in order.
use Rattle.std.proofs.Common.{rules}
use Rattle.dhcp6_client.specs.Held.{has_times_in_order}
use Rattle.dhcp6_client.proofs.Held.{order_preserved}
use Rattle.dhcp6_client.proofs.client.DhcpV6Client.release.Goals as goal

pub invariant_of-self : goal.invariant_of-self
invariant_of-self g c = (
  c.release_at.ensures.releases.armed c.self.invariant.0,
  c.release_at.ensures.releases.keeps has_times_in_order (order_preserved c.self.inside.rules.config) c.self.invariant.1,
)

pub returns-clause-released : goal.returns-clause-released
returns-clause-released g c = record {
  release = record {
    kept = rw (← c.self.view_is) c.release_at.ensures.releases.kept;
    handed = search rules;
    cleaned = rw (← c.self.view_is) c.release_at.ensures.releases.cleaned;
    anew = c.release_at.ensures.releases.anew;
  };
  config = search rules;
  limits = search rules;
  errors = search rules;
}
