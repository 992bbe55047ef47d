-- By the walk over the raw options.
use Rattle.std.proofs.Common.{sym, ◌∙◌}
use Rattle.dhcp4_msg.proofs.ViewLemmas.{server_identifier-last_value}
use Rattle.dhcp4_msg.proofs.view.DhcpV4View.server_identifier.Goals as goal

pub returns : goal.returns
returns c = rw (← c.self.view_is) (c.last_value.ensures ∙ sym (server_identifier-last_value _))
