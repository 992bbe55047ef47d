use Rattle.dhcp_output.proofs.OutputLemmas.{lines-each}
use Rattle.dhcp_output.proofs.printer.push_outputs.Goals as goal

pub returns : goal.returns
returns c = rw (lines-each c.args.outputs.now) c.push_each.ensures
