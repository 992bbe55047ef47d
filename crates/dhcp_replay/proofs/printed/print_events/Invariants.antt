use Rattle.std.proofs.Common.{◌≡◌, ◌≤◌, ◌+◌, [], length}
use Rattle.std.specs.Prelude.{string_bytes}
use Rattle.std.specs.Vec.Iter.{into_iter_items}
use Rattle.dhcp_replay.specs.Life.{numbered}
use Rattle.dhcp_replay.proofs.PrintedLemmas.{IsPrintedSoFar}
use Rattle.dhcp_replay.proofs.printed.print_events.Given as goal

-- what was printed so far and the events that are left make up all of them
abbrev pub invariant-loop-event : goal.invariant-loop-event
invariant-loop-event g l =
    let parts = g.C.FamilyClient.parts in
    let left = g.W.Words.left in
    let rest = into_iter_items l.event-iterator in
    record {
      so_far : IsPrintedSoFar g.C.FamilyClient.protocol g.C.Reported.FamilyState.changed l.fn.events.items (numbered l.number rest) (string_bytes l.fn.text) (string_bytes l.text) (parts l.fn.client) (parts l.client) (left l.fn.words) (left l.words);
      few : l.number + length rest ≤ 20001;
      emptied : l.reports.items ≡ [];
    }
