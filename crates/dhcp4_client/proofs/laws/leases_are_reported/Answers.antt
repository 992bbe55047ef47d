-- The lease that is held after a change was held before, or is reported.
use Rattle.dhcp4_client.proofs.Granted.{lease_is_reported}
use Rattle.dhcp4_client.proofs.laws.leases_are_reported.Goals as goal

pub returns : goal.returns
returns c = rw (← c.client.view_is) (λ now refuse packet turns reported lease old new is holds.
    lease_is_reported c.client.inside.rules.config now refuse packet lease old new (c.changes_are_heard.ensures now refuse packet turns reported old new is) holds)
