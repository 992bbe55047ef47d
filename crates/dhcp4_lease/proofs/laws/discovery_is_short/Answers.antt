-- The message of the search is short.
use Rattle.dhcp4_lease.proofs.BuiltMessages.{no_address_is}
use Rattle.dhcp4_lease.proofs.ShortMessages.{row_is_short}
use Rattle.dhcp4_lease.proofs.laws.discovery_is_short.Goals as goal

pub returns : goal.returns
returns c = row_is_short c.args.config.now _ c.requires c.is_typed.ensures (record { ciaddr = no_address_is; requested = tt; server = tt })
