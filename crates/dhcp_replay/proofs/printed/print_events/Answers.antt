-- One event more is printed.
use Rattle.std.proofs.Common.{◌<◌, ◌+◌, ◌^◌, ◌∙◌, ap, arith, length, sym}
use Rattle.std.proofs.lemmas.List.Elements.{All-head}
use Rattle.std.specs.Vec.Iter.{into_iter_items}
use Rattle.dhcp_clock.specs.declared.link.Packet.{Packet}
use Rattle.dhcp_history.specs.declared.script.NumberedEvent.{NumberedEvent}
use Rattle.dhcp_replay.specs.Life.{numbered}
use Rattle.dhcp_replay.proofs.PrintedLemmas.{ends_with, goes_on, next_first}
use Rattle.dhcp_replay.proofs.printed.print_events.Goals as goal

pub print_event-requires-clause-moment : goal.print_event-requires-clause-moment
print_event-requires-clause-moment g c =
    let rest = into_iter_items c.next.new.self in
    let entry = c.into_numbered-event.result in
    let so_far = next_first _ _ c.args.events.items c.loop-event.number c.in-Some.event entry _ rest _ _ _ _ _ _ c.in-Some.ensures.steps.0 c.into_numbered-event.ensures c.loop-event.invariant.so_far in
    All-head (λ (event : NumberedEvent Packet). event.moment < 2 ^ 60) entry (numbered (c.loop-event.number + 1) rest) so_far.moments

pub loop-event-preserved : goal.loop-event-preserved
loop-event-preserved g c =
    let rest = into_iter_items c.next.new.self in
    let entry = c.into_numbered-event.result in
    let so_far = next_first _ _ c.args.events.items c.loop-event.number c.in-Some.event entry _ rest _ _ _ _ _ _ c.in-Some.ensures.steps.0 c.into_numbered-event.ensures c.loop-event.invariant.so_far in
    let one_less = ap length c.in-Some.ensures.steps.0 in
    record {
      so_far = goes_on _ _ _ _ _ _ _ _ _ _ _ so_far _ _ _ c.in_ok-print_event.ensures.printed;
      few = omega (arith, c.loop-event.invariant.few, one_less);
      emptied = c.in_ok-print_event.ensures.emptied;
    }

pub returns-clause-printed : goal.returns-clause-printed
returns-clause-printed g c = ends_with _ _ c.args.events.items (into_iter_items c.loop-event.event-iterator) c.loop-event.number _ _ _ _ _ _ (sym c.loop-event.event-iterator.rest.ok.0 ∙ c.in-None.ensures.steps.0) c.loop-event.invariant.so_far
