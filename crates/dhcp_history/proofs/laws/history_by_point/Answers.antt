use Rattle.dhcp_history.proofs.Points.{history_by_point}
use Rattle.dhcp_history.proofs.laws.history_by_point.Goals as goal

pub returns : goal.returns
returns g c = λ lawful script rises. history_by_point (g.R.Rules.protocol c.args.rules.now) lawful script rises
