use Rattle.std.proofs.Common.{◌∙◌}
use Rattle.dhcp_output.proofs.OutputLemmas.{count-each}
use Rattle.dhcp_output.proofs.summary.count.Goals as goal

pub returns : goal.returns
returns c = c.count_each.ensures ∙ count-each c.args.kind c.args.outputs.now
