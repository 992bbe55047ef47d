use Rattle.dhcp_history.proofs.Messages.{history_sends}
use Rattle.dhcp_history.proofs.laws.two_messages_a_number.Goals as goal

pub returns : goal.returns
returns g c = history_sends (g.R.Rules.protocol c.args.rules.now)
