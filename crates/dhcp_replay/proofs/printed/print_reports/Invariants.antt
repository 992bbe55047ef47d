use Rattle.std.proofs.Common.{◌≡◌, ◌++◌}
use Rattle.std.specs.Prelude.{string_bytes}
use Rattle.std.specs.Vec.Iter.{drain_items}
use Rattle.dhcp_replay.specs.Printed.{lines_of}
use Rattle.dhcp_replay.proofs.printed.print_reports.Given as goal

-- the lines so far and those of what is left make up all of them
abbrev pub invariant-loop-report : goal.invariant-loop-report
invariant-loop-report g l =
    let changed = g.S.FamilyState.changed in
    string_bytes l.text ++ lines_of changed (drain_items l.report-iterator) ≡ string_bytes l.fn.text ++ lines_of changed l.fn.reports.items
