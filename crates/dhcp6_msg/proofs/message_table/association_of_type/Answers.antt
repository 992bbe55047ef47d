-- An association with an address or a prefix fits.
use Rattle.dhcp6_msg.proofs.AssociationLemmas.{na_fits, ta_fits, pd_fits}
use Rattle.dhcp6_msg.proofs.message_table.association_of_type.Goals as goal

pub returns-in-NonTemporaryAddresses-clause-fits :
    goal.returns-in-NonTemporaryAddresses-clause-fits
returns-in-NonTemporaryAddresses-clause-fits c =
    rw c.new.ensures (na_fits _ _ _ c.lease_address.result c.lease_address.ensures.len)

pub returns-in-TemporaryAddresses-clause-fits : goal.returns-in-TemporaryAddresses-clause-fits
returns-in-TemporaryAddresses-clause-fits c =
    rw c.new-in-TemporaryAddresses.ensures (ta_fits _ c.lease_address-in-TemporaryAddresses.result c.lease_address-in-TemporaryAddresses.ensures.len)

pub returns-in-PrefixDelegation-clause-fits : goal.returns-in-PrefixDelegation-clause-fits
returns-in-PrefixDelegation-clause-fits c =
    rw c.new-in-PrefixDelegation.ensures (pd_fits _ _ _ c.lease_prefix.result c.lease_prefix.ensures.len)
