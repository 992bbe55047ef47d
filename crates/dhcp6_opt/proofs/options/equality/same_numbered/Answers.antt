-- Each turn takes the next option of the number off both.
use Rattle.std.proofs.Common.{◌∙◌}
use Rattle.dhcp6_opt.specs.contracts.option.DhcpV6OptionPartialEq.TheImpl.{ghosts}
use Rattle.dhcp6_opt.proofs.EqualityLemmas.{from_equal, pointwise_step}
use Rattle.dhcp6_opt.proofs.options.equality.same_numbered.Goals as goal

pub loop-option-preserved : goal.loop-option-preserved
loop-option-preserved c =
    c.loop-option.invariant ∙ pointwise_step ghosts.eq _ _ _ _ _ _ c.in-Some.ensures.next c.in-Some-next_numbered.ensures.next (from_equal _ c.if-ne.ensures)
