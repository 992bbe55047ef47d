-- Without a table on either side there are no options on either side.
use Rattle.std.proofs.Common.{refl}
use Rattle.dhcp4_msg.proofs.RiseLemmas.{no_entries}
use Rattle.dhcp4_msg.proofs.options.DhcpV4OptionsPartialEq.eq.Goals as goal

pub returns-in-None-None : goal.returns-in-None-None
returns-in-None-None c =
    rw (← c.self.view_is, ← c.other.view_is, c.in-None-None.is-0, c.in-None-None.is-1) (rw no_entries refl)
