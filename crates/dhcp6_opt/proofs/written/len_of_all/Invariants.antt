-- How many bytes there are so far.
use Rattle.std.proofs.Common.{◌≡◌, ◌-◌, ◌^◌, length, min, take}
use Rattle.std.specs.List.{flat_map}
use Rattle.dhcp6_opt.proofs.written.len_of_all.Given as goal

abbrev pub invariant-loop-item : goal.invariant-loop-item
invariant-loop-item g l = l.len ≡ min (length (flat_map g.T.Written.written (take l.item-index l.items))) (2 ^ 64 - 1)
