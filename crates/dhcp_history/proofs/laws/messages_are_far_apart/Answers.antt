use Rattle.std.proofs.lemmas.List.Elements.{All-from_recursion}
use Rattle.dhcp_history.specs.Bounds.{IsTakenDistant}
use Rattle.dhcp_history.specs.History.{history}
use Rattle.dhcp_history.proofs.Attempts.{history_taken_far}
use Rattle.dhcp_history.proofs.laws.messages_are_far_apart.Goals as goal

pub returns : goal.returns
returns g c = λ good is_kept script begins.
    All-from_recursion (IsTakenDistant (g.R.Rules.protocol c.args.rules.now) good) (history (g.R.Rules.protocol c.args.rules.now) script) (history_taken_far (g.R.Rules.protocol c.args.rules.now) good is_kept script begins)
