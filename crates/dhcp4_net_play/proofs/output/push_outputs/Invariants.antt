use Rattle.std.proofs.Common.{◌≡◌, ◌++◌, take}
use Rattle.std.specs.Prelude.{string_bytes}
use Rattle.std.specs.List.{flat_map}
use Rattle.dhcp4_net_play.specs.Output.{output_line}
use Rattle.dhcp4_net_play.proofs.output.push_outputs.Given as goal

abbrev pub invariant-loop-output : goal.invariant-loop-output
invariant-loop-output l = string_bytes l.text ≡ string_bytes l.initial.text ++ flat_map output_line (take l.output-index l.outputs)
