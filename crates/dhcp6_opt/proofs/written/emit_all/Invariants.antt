-- What was written so far.
use Rattle.std.proofs.Common.{◌≡◌, ◌++◌, take}
use Rattle.std.specs.List.{flat_map}
use Rattle.dhcp6_opt.proofs.written.emit_all.Given as goal

abbrev pub invariant-loop-item : goal.invariant-loop-item
invariant-loop-item g l = l.buf ≡ l.initial.buf ++ flat_map g.T.Written.written (take l.item-index l.items)
