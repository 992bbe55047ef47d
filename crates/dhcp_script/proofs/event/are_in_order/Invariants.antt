use Rattle.std.proofs.Common.{◌≡◌, drop}
use Rattle.dhcp_script.specs.Event.{are_in_order}
use Rattle.dhcp_script.proofs.event.are_in_order.Given as goal

abbrev pub invariant-loop-event : goal.invariant-loop-event
invariant-loop-event l = are_in_order l.fn.start l.events ≡ are_in_order l.earliest (drop l.event-index l.events)
