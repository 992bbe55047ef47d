use Rattle.std.proofs.Common.{rules}
use Rattle.dhcp_script.specs.Demo.{demo_script}
use Rattle.dhcp_script.proofs.DemoLaws.{made-valid}
use Rattle.dhcp_script.proofs.demo.demo_script.Goals as goal

pub returns-clause-valid : goal.returns-clause-valid
unfolding demo_script
returns-clause-valid c = made-valid c.args.n _ c.requires.few (search rules)
