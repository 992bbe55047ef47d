use Rattle.std.proofs.Common.{refl}
use Rattle.dhcp_history.proofs.Events.{events_settle}
use Rattle.dhcp_history.proofs.laws.no_state_is_overdue.Goals as goal

pub returns : goal.returns
returns g c = λ lawful event client. events_settle (g.R.Rules.protocol c.args.rules.now) lawful 7 refl event client
