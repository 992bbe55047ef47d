use Rattle.dhcp_history.proofs.Events.{two_sends}
use Rattle.dhcp_history.proofs.laws.two_messages_an_event.Goals as goal

pub returns : goal.returns
returns g c = two_sends (g.R.Rules.protocol c.args.rules.now)
