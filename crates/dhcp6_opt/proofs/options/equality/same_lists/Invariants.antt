-- What is left of both decides.
use Rattle.std.proofs.Common.{◌≡◌, length, map}
use Rattle.std.specs.Cmp.Lexicographic.{pointwise}
use Rattle.dhcp6_opt.specs.contracts.option.DhcpV6OptionPartialEq.TheImpl.{ghosts}
use Rattle.dhcp6_opt.specs.OptionIndex.{entry_in, same_entry}
use Rattle.dhcp6_opt.proofs.options.equality.same_lists.Given as goal

abbrev pub invariant-loop-entry : goal.invariant-loop-entry
invariant-loop-entry l = pointwise (same_entry ghosts.eq) (map (entry_in l.mine) l.fn.my_index) (map (entry_in l.theirs) l.fn.their_index)
    ≡ pointwise (same_entry ghosts.eq) (map (entry_in l.mine) l.rest) (map (entry_in l.theirs) l.others)

abbrev pub decreases-loop-entry : goal.decreases-loop-entry
decreases-loop-entry l = length l.rest
