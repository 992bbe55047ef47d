-- One event more is made.
use Rattle.std.proofs.Common.{arith}
use Rattle.dhcp_replay.proofs.ReplayLemmas.{numbered_push}
use Rattle.dhcp_replay.proofs.life.numbered.Goals as goal

pub loop-event-preserved : goal.loop-event-preserved
loop-event-preserved c = record {
  made = numbered_push c.loop-event.event-index c.args.events.now c.event-item.result c.loop-event.made.items c.push.new.self.items c.loop-event.number c.in_ok-numbered_event.field-0 c.loop-event-test.true c.event-item.is c.loop-event.invariant.made c.loop-event.invariant.number c.in_ok-numbered_event.ensures c.in_ok-push.ensures.items;
  number = omega (arith, c.loop-event.invariant.number);
}
