-- The entries of both are those of their indexes.
use Rattle.dhcp6_opt.specs.declared.option.DhcpV6Option.{DhcpV6Option}
use Rattle.dhcp6_opt.specs.declared.option.DhcpV6Option.TheVariants.{RapidCommit}
use Rattle.dhcp6_opt.proofs.OptionListLemmas.{entries-lists_of}
use Rattle.dhcp6_opt.proofs.options.DhcpV6Options.same_by_number.Goals as goal

pub returns : goal.returns
returns c =
    let option : DhcpV6Option = RapidCommit in
    rw (
      ← c.self.view_is,
      ← c.other.view_is,
      entries-lists_of _ _ option c.self.invariant,
      entries-lists_of _ _ option c.other.invariant,
      ← c.deref.ensures.value,
      ← c.deref-2.ensures.value,
      ← c.deref-3.ensures.value,
      ← c.deref-4.ensures.value,
    ) c.same_lists.ensures
