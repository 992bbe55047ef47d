-- Configurations, whose setters hand on their reference.
use mathlib.Core.Path.{refl}
use Rattle.dhcp_wire.proofs.SetterWalks.{HandsOn}
use Rattle.dhcp4_lease.specs.contracts.config.DhcpV4Config.{the_row}
use Rattle.dhcp4_lease.proofs.config.DhcpV4Config.TheLaws.{the_row_laws}

pub configs : HandsOn the_row
configs = record { laws = the_row_laws; lives = λ a m. m; step_owned = λ κ. refl; answer_owned = λ κ. refl }
