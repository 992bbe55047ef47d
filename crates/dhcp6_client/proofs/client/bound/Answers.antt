-- By the limits of a lease.
use Rattle.dhcp6_client.proofs.Limits.{server_fits}
use Rattle.dhcp6_client.proofs.client.bound.Goals as goal

pub new-requires : goal.new-requires
new-requires c = server_fits c.args.lease c.requires.limits
