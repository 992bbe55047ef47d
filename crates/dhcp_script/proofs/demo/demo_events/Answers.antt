use Rattle.std.proofs.Common.{sym}
use Rattle.dhcp_script.proofs.DemoLaws.{demo_events-more, demo_events-none}
use Rattle.dhcp_script.proofs.demo.demo_events.Goals as goal

pub rounds-init : goal.rounds-init
rounds-init c = rw (c.in_ok-push.ensures.items, c.in_ok-events.ensures.items, c.event.ensures) (sym demo_events-none)

pub rounds-preserved : goal.rounds-preserved
rounds-preserved c = rw (c.in_ok-push_round.ensures, c.from.ensures, c.rounds.invariant) (sym (demo_events-more c.rounds.round))
