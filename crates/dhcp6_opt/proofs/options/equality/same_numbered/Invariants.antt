-- What is left of both decides.
use Rattle.std.proofs.Common.{◌≡◌, length}
use Rattle.std.specs.Cmp.Lexicographic.{pointwise}
use Rattle.std.specs.List.{filter}
use Rattle.dhcp6_opt.specs.contracts.option.DhcpV6OptionPartialEq.TheImpl.{ghosts}
use Rattle.dhcp6_opt.specs.OptionIndex.{has_number}
use Rattle.dhcp6_opt.proofs.options.equality.same_numbered.Given as goal

abbrev pub invariant-loop-option : goal.invariant-loop-option
invariant-loop-option l = pointwise ghosts.eq (filter (has_number l.number) l.fn.mine) (filter (has_number l.number) l.fn.theirs)
    ≡ pointwise ghosts.eq (filter (has_number l.number) l.rest) (filter (has_number l.number) l.others)

abbrev pub decreases-loop-option : goal.decreases-loop-option
decreases-loop-option l = length l.rest
