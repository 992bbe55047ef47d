use Rattle.dhcp_history.proofs.Calls.{replay_history}
use Rattle.dhcp_history.proofs.laws.polls_give_the_history.Goals as goal

pub returns : goal.returns
returns g c = replay_history (g.R.Rules.protocol c.args.rules.now)
