-- Output by output.
use Rattle.std.proofs.Common.{◌∙◌}
use Rattle.dhcp_live.proofs.DroppedLemmas.{change-each}
use Rattle.dhcp_live.proofs.dropped.has_change.Goals as goal

pub returns : goal.returns
returns c = c.has_change_each.ensures ∙ change-each c.args.outputs.now
