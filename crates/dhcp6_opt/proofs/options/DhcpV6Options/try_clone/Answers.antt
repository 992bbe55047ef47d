-- The copy has the options and the entries.
use Rattle.std.proofs.Common.{◌≡◌, length, take, ap, arith}
use Rattle.std.proofs.lemmas.List.{take_all}
use Rattle.dhcp6_opt.proofs.options.DhcpV6Options.try_clone.Goals as goal

pub invariant_of-result : goal.invariant_of-result
invariant_of-result c =
    let long = ap length c.deref-option-items.ensures.value in
    let all : take c.loop-option.option-index c.self.inside.kept.items ≡ c.self.inside.kept.items = take_all _ _ (omega (arith, c.loop-option-test.false, long)) in
    rw (c.in_ok-from_slice.ensures.items, c.deref.ensures.value, c.loop-option.invariant, all) c.self.invariant
