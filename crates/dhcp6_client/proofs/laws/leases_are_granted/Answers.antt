-- A lease that is reported was read from a packet that the poll was given.
use Rattle.std.proofs.Common.{sym}
use Rattle.dhcp6_client.proofs.Granted.{lease_is_granted}
use Rattle.dhcp6_client.proofs.laws.leases_are_granted.Goals as goal

pub returns : goal.returns
returns c = rw (← c.client.view_is) (λ now refuse packet turns lease old new is reports.
    lease_is_granted c.client.inside.rules.config now refuse packet lease old new (c.changes_are_heard.ensures now refuse packet turns _ old new is) (sym reports))
