use Rattle.dhcp_history.proofs.Runs.{run_history}
use Rattle.dhcp_history.proofs.laws.runs_are_scripts.Goals as goal

pub returns : goal.returns
returns g c = run_history (g.R.Rules.protocol c.args.rules.now)
