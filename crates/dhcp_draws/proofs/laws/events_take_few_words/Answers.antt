use Rattle.dhcp_draws.proofs.EventDraws.{events_take}
use Rattle.dhcp_draws.proofs.laws.events_take_few_words.Goals as goal

pub returns : goal.returns
returns g c = events_take (g.R.Rules.protocol c.args.rules.now)
