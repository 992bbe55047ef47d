use Rattle.dhcp_history.proofs.Stays.{history_closes}
use Rattle.dhcp_history.proofs.laws.stays_close_in_turn.Goals as goal

pub returns : goal.returns
returns g c = history_closes (g.R.Rules.protocol c.args.rules.now)
