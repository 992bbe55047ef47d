use Rattle.dhcp_history.proofs.Heard.{comes_from}
use Rattle.dhcp_history.proofs.laws.changes_are_heard.Goals as goal

pub returns : goal.returns
returns g c = comes_from (g.R.Rules.protocol c.args.rules.now)
