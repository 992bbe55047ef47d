-- By what the run gives, and what is printed of it.
use Rattle.std.proofs.Common.{ℕ, List, subst}
use Rattle.dhcp_wire.specs.Outcome.{Makes}
use Rattle.dhcp4_net.specs.declared.output.NetOutput.{NetOutput}
use Rattle.dhcp4_net_play.specs.Output.{outputs_text}
use Rattle.std.proofs.lemmas.Result.{err_from_is_err_and}
use Rattle.dhcp4_net_play.proofs.ToolLemmas.{ran_answers, run_refused}
use Rattle.dhcp4_net_play.proofs.tool.text_for.Goals as goal

pub returns-in_err-outputs : goal.returns-in_err-outputs
returns-in_err-outputs c =
    let exit = err_from_is_err_and c.from_residual.result c.from_residual.ensures.1 in
    rw (exit.1, exit.2) (run_refused c.args.script.now _ c.in_err-outputs.ensures.played)

pub returns : goal.returns
returns c =
    ran_answers c.print_net_outputs.result c.args.script.now c.in_ok-outputs.outputs.items c.in_ok-outputs.ensures.played c.in_ok-outputs.ensures.one_address c.in_ok-outputs.ensures.one_holder
    (subst (λ (outputs : List NetOutput). Makes (λ (text : List ℕ). text) c.print_net_outputs.result (outputs_text outputs)) c.as_slice.ensures.value c.print_net_outputs.ensures)
