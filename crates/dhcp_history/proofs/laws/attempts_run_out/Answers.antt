use Rattle.std.proofs.lemmas.List.Elements.{All-from_recursion}
use Rattle.dhcp_history.specs.Bounds.{HasAtMost}
use Rattle.dhcp_history.specs.History.{history}
use Rattle.dhcp_history.proofs.Attempts.{history_few}
use Rattle.dhcp_history.proofs.laws.attempts_run_out.Goals as goal

pub returns : goal.returns
returns g c = λ script. All-from_recursion (HasAtMost (g.R.Rules.protocol c.args.rules.now)) (history (g.R.Rules.protocol c.args.rules.now) script) (history_few (g.R.Rules.protocol c.args.rules.now) script)
