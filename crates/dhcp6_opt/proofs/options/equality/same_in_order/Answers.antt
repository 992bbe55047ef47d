use Rattle.std.proofs.Common.{sym, ◌∙◌}
use Rattle.std.specs.Cmp.Derive.Mapped.{pointwise-map}
use Rattle.dhcp6_opt.specs.contracts.option.DhcpV6OptionPartialEq.TheImpl.{ghosts}
use Rattle.dhcp6_opt.proofs.options.equality.same_in_order.Goals as goal

pub returns : goal.returns
returns c = c.eq.ensures ∙ sym (pointwise-map (λ option. option.now) ghosts.eq c.args.mine.now c.args.theirs.now)
