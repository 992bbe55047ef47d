use Rattle.std.proofs.lemmas.List.Elements.{All-from_recursion}
use Rattle.dhcp_history.specs.Bounds.{IsApart}
use Rattle.dhcp_history.specs.History.{history}
use Rattle.dhcp_history.proofs.Attempts.{history_apart}
use Rattle.dhcp_history.proofs.laws.attempts_are_apart.Goals as goal

pub returns : goal.returns
returns g c = λ script. All-from_recursion IsApart (history (g.R.Rules.protocol c.args.rules.now) script) (history_apart (g.R.Rules.protocol c.args.rules.now) script)
