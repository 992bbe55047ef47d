-- Before the rest no option has the number.
use Rattle.std.proofs.Common.{◌≡◌, ◌≤◌, length}
use Rattle.std.specs.List.{filter}
use Rattle.dhcp6_opt.specs.OptionIndex.{has_number}
use Rattle.dhcp6_opt.proofs.options.equality.next_numbered.Given as goal

abbrev pub invariant-loop-option : goal.invariant-loop-option
invariant-loop-option l = record {
  same : filter (has_number l.number) l.fn.options ≡ filter (has_number l.number) l.rest;
  few : length l.rest ≤ length l.fn.options;
}

abbrev pub decreases-loop-option : goal.decreases-loop-option
decreases-loop-option l = length l.rest
