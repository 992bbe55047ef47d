-- What was written so far.
use Rattle.std.proofs.Common.{◌≡◌, map, take}
use Rattle.std.specs.Prelude.{vec_items}
use Rattle.std.specs.List.{filter}
use Rattle.dhcp6_opt.specs.OptionIndex.{has_number}
use Rattle.dhcp6_opt.specs.Value.{written_option}
use Rattle.dhcp6_opt.proofs.options.written_numbered.Given as goal

abbrev pub invariant-loop-option : goal.invariant-loop-option
invariant-loop-option l = map vec_items l.written.items ≡ map written_option (filter (has_number l.number) (take l.option-index l.options))
