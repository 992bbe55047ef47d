use Rattle.dhcp_history.proofs.Messages.{history_in_order}
use Rattle.dhcp_history.proofs.laws.reports_are_in_order.Goals as goal

pub returns : goal.returns
returns g c = history_in_order (g.R.Rules.protocol c.args.rules.now)
