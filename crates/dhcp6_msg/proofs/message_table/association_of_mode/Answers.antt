-- An association with nothing inside or a hint fits.
use Rattle.dhcp6_msg.proofs.AssociationLemmas.{na_empty_fits, ta_empty_fits, hint_fits}
use Rattle.dhcp6_msg.proofs.message_table.association_of_mode.Goals as goal

pub returns-in-NonTemporaryAddresses-clause-fits :
    goal.returns-in-NonTemporaryAddresses-clause-fits
returns-in-NonTemporaryAddresses-clause-fits c = rw c.empty.ensures (na_empty_fits _)

pub returns-in-TemporaryAddresses-clause-fits : goal.returns-in-TemporaryAddresses-clause-fits
returns-in-TemporaryAddresses-clause-fits c = rw c.empty-in-TemporaryAddresses.ensures (ta_empty_fits _)

pub returns-in-PrefixDelegation-clause-fits : goal.returns-in-PrefixDelegation-clause-fits
returns-in-PrefixDelegation-clause-fits c = rw c.new_with_hint.ensures (hint_fits _ _)
