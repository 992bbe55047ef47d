-- What was written so far.
use Rattle.std.proofs.Common.{◌≡◌, ◌++◌, take}
use Rattle.std.specs.List.{flat_map}
use Rattle.dhcp6_opt.specs.Value.{written_option}
use Rattle.dhcp6_opt.proofs.options.emit_references.Given as goal

abbrev pub invariant-loop-option : goal.invariant-loop-option
invariant-loop-option l = l.buf ≡ l.initial.buf ++ flat_map (λ option. written_option option.now) (take l.option-index l.options)
