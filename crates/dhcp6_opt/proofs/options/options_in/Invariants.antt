-- The options so far, and those of the rest, are those of all bytes.
use Rattle.std.proofs.Common.{◌≡◌, ◌++◌, IsTrue, length}
use Rattle.std.specs.List.{AllByRecursion}
use Rattle.dhcp6_opt.specs.Options.{options_in}
use Rattle.dhcp6_opt.specs.Value.{fits}
use Rattle.dhcp6_opt.proofs.options.options_in.Given as goal

abbrev pub invariant-loop-raw : goal.invariant-loop-raw
invariant-loop-raw l = record {
  read : l.options.items ++ options_in l.rest ≡ options_in l.bytes;
  fit : AllByRecursion (λ option. IsTrue (fits option)) l.options.items;
}

abbrev pub decreases-loop-raw : goal.decreases-loop-raw
decreases-loop-raw l = length l.rest
