-- The clean-up of the rules, of the client that contracts see.
use Rattle.std.proofs.Common.{refl}
use Rattle.dhcp6_info.proofs.client.DhcpV6InfoClient.clean_up.Goals as goal

pub invariant_of-self : goal.invariant_of-self
invariant_of-self c = c.clean_up.ensures.armed

pub returns : goal.returns
returns c = rw (← c.self.view_is) (record { cleans = c.clean_up.ensures; config = refl })
