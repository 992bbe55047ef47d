use Rattle.std.proofs.Common.{◌≡◌}
use Rattle.dhcp_script.specs.Demo.{demo_events}
use Rattle.dhcp_script.proofs.demo.demo_events.Given as goal

abbrev pub invariant-rounds : goal.invariant-rounds
invariant-rounds l = l.events.items ≡ demo_events l.round
