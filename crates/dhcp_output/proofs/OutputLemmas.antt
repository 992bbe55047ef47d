-- The lines of outputs, one by one.
use Rattle.std.proofs.Common.{◌≡◌, ℕ, ◌+◌, cond, List, [], ◌∷◌, ◌++◌, fold, map, refl, ap}
use Rattle.std.specs.List.{count_by, flat_map}
use Rattle.dhcp_output.specs.declared.output.Output.{Output}
use Rattle.dhcp_output.specs.declared.summary.OutputKind.{OutputKind}
use Rattle.dhcp_output.specs.Output.{PlainOutput, count_of, is_of, output_line, plain_output, plain_report}

pub lines-each : (outputs : List Output) → flat_map output_line (map plain_output outputs) ≡ flat_map (λ output. output_line (plain_output output)) outputs
lines-each [] = refl
lines-each (output ∷ outputs) = ap (λ text. output_line (plain_output output) ++ text) (lines-each outputs)

-- the outputs of a kind, counted before their contents are seen, after so many others
counted : (kind : OutputKind) (outputs : List Output) (before : ℕ) → fold (λ (n : ℕ) (output : Output). n + cond (is_of kind (plain_report output.what)) 1 0) before outputs
    ≡ fold (λ (n : ℕ) (output : PlainOutput). n + cond (is_of kind output.report) 1 0) before (map plain_output outputs)
counted kind [] before = refl
counted kind (output ∷ outputs) before = counted kind outputs (before + cond (is_of kind (plain_report output.what)) 1 0)

pub count-each : (kind : OutputKind) (outputs : List Output) → count_by (λ (output : Output). is_of kind (plain_report output.what)) outputs ≡ count_of kind (map plain_output outputs)
count-each kind outputs = counted kind outputs 0
