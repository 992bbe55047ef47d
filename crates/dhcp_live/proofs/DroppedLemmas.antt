-- Whether a change of state is reported, output by output.
use Rattle.std.proofs.Common.{◌≡◌, Bool, List, [], ◌∷◌, refl, ap}
use Rattle.std.specs.Prelude.{◌||◌, map}
use Rattle.std.specs.List.{list_any}
use Rattle.dhcp_output.specs.Output.{is_of, plain_output, plain_report}
use Rattle.dhcp_output.specs.declared.output.Output.{Output}
use Rattle.dhcp_output.specs.declared.summary.OutputKind.TheVariants.{Changed}
use Rattle.dhcp_live.specs.Dropped.{has_change}

pub change-each : (outputs : List Output) → list_any (λ (output : Output). is_of Changed (plain_report output.what)) outputs ≡ has_change (map plain_output outputs)
change-each [] = refl
change-each (output ∷ outputs) = ap (λ (more : Bool). is_of Changed (plain_report output.what) || more) (change-each outputs)
