use Rattle.dhcp_history.proofs.RealCalls.{calls_are_run}
use Rattle.dhcp_history.proofs.laws.calls_are_a_run.Goals as goal

pub returns : goal.returns
returns g c = λ calls old new first last here there. calls_are_run (g.R.Rules.protocol c.args.rules.now) g.W.Words.gives g.L.DhcpLink.moves calls old first here new last there
