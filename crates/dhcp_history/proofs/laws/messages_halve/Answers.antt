use Rattle.std.proofs.lemmas.List.Elements.{All-from_recursion}
use Rattle.dhcp_history.specs.Bounds.{IsSparse}
use Rattle.dhcp_history.specs.History.{history}
use Rattle.dhcp_history.proofs.Attempts.{history_halves}
use Rattle.dhcp_history.proofs.laws.messages_halve.Goals as goal

pub returns : goal.returns
returns g c = λ script. All-from_recursion (IsSparse (g.R.Rules.protocol c.args.rules.now)) (history (g.R.Rules.protocol c.args.rules.now) script) (history_halves (g.R.Rules.protocol c.args.rules.now) script)
