-- From the place on each option's number has the place of its first one.
use Rattle.std.proofs.Common.{◌≡◌, ℕ, ◌≤◌, length, drop, Some, is_some}
use Rattle.std.specs.Prelude.{position}
use Rattle.std.specs.List.{position_from}
use Rattle.dhcp6_opt.specs.OptionIndex.{first_place, has_number, Rises}
use Rattle.dhcp6_opt.proofs.options.index.set_firsts.Given as goal

abbrev pub invariant-loop-left : goal.invariant-loop-left
invariant-loop-left l = record {
  inside : l.left ≤ length l.kept;
  rises : Rises l.entries.items;
  same : (q : ℕ) → is_some (first_place q l.entries.items) ≡ is_some (position (has_number q) l.kept);
  later : (q p : ℕ) → position_from (has_number q) l.left (drop l.left l.kept) ≡ Some p → first_place q l.entries.items ≡ Some p;
}

abbrev pub decreases-loop-left : goal.decreases-loop-left
decreases-loop-left l = l.left
