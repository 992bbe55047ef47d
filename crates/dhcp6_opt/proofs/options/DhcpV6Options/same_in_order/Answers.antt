-- Options in code order are equal, one by one, if and only if the lists are.
use Rattle.std.proofs.Common.{◌∙◌}
use Rattle.dhcp6_opt.specs.contracts.option.DhcpV6OptionPartialEq.TheImpl.{ghosts}
use Rattle.dhcp6_opt.specs.OptionOrder.{same_number}
use Rattle.dhcp6_opt.proofs.EqualityLemmas.{by_code_order}
use Rattle.dhcp6_opt.proofs.options.DhcpV6Options.same_in_order.Goals as goal

pub returns : goal.returns
returns c =
    rw (c.deref.ensures.value, c.deref-2.ensures.value, c.in_ok-mine.ensures.value, c.in_ok-theirs.ensures.value) at c.same_in_order.ensures
    ∙ by_code_order ghosts.eq same_number c.args.self.now c.args.other.now c.in_ok-mine.ensures.groups c.in_ok-theirs.ensures.groups
