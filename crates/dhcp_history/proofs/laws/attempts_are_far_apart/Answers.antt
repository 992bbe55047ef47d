use Rattle.std.proofs.lemmas.List.Elements.{All-from_recursion}
use Rattle.dhcp_history.specs.Bounds.{IsDistant}
use Rattle.dhcp_history.specs.History.{history}
use Rattle.dhcp_history.proofs.Attempts.{history_far}
use Rattle.dhcp_history.proofs.laws.attempts_are_far_apart.Goals as goal

pub returns : goal.returns
returns g c = λ good is_kept script begins.
    All-from_recursion (IsDistant (g.R.Rules.protocol c.args.rules.now) good) (history (g.R.Rules.protocol c.args.rules.now) script) (history_far (g.R.Rules.protocol c.args.rules.now) good is_kept script begins)
