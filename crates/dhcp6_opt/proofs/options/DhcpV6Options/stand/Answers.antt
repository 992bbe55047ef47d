-- The lists of the options that are kept stand, since each has its widths.
use Rattle.std.proofs.Common.{subst}
use Rattle.std.specs.List.{AllByRecursion}
use Rattle.dhcp6_opt.specs.Laws.{HasWidths}
use Rattle.dhcp6_opt.proofs.ListLaws.{AllStand-lists_of}
use Rattle.dhcp6_opt.proofs.options.DhcpV6Options.stand.Goals as goal

pub returns : goal.returns
returns c =
    rw (← c.self.view_is) (AllStand-lists_of _ _ c.self.invariant
    (subst (AllByRecursion HasWidths) c.deref.ensures.value c.all_have.ensures))
