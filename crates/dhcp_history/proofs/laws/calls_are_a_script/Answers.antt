use Rattle.dhcp_history.proofs.RealCalls.{calls_are_script}
use Rattle.dhcp_history.proofs.laws.calls_are_a_script.Goals as goal

pub returns : goal.returns
returns g c = λ lawful calls old new first last here there.
    calls_are_script (g.R.Rules.protocol c.args.rules.now) g.W.Words.gives g.L.DhcpLink.moves lawful calls old first here new last there
