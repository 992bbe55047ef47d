use Rattle.std.proofs.Common.{◌≡◌, ◌++◌}
use Rattle.std.specs.Prelude.{map}
use Rattle.std.specs.Vec.Iter.{into_iter_items}
use Rattle.dhcp_output.specs.Output.{plain_output}
use Rattle.dhcp_replay.specs.Life.{output_of}
use Rattle.dhcp_replay.proofs.life.outputs_of.Given as goal

-- the outputs so far and what is left to be made make up all of them
abbrev pub invariant-loop-report : goal.invariant-loop-report
invariant-loop-report g l =
    map plain_output l.outputs.items ++ map (output_of g.S.FamilyState.changed) (into_iter_items l.report-iterator) ≡ map (output_of g.S.FamilyState.changed) l.fn.reported.items
