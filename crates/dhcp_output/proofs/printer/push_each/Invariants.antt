use Rattle.std.proofs.Common.{◌≡◌, ◌++◌, take}
use Rattle.std.specs.Prelude.{string_bytes}
use Rattle.std.specs.List.{flat_map}
use Rattle.dhcp_output.specs.Output.{output_line, plain_output}
use Rattle.dhcp_output.proofs.printer.push_each.Given as goal

abbrev pub invariant-loop-output : goal.invariant-loop-output
invariant-loop-output l =
    string_bytes l.text ≡ string_bytes l.initial.text ++ flat_map (λ output. output_line (plain_output output)) (take l.output-index l.outputs)
