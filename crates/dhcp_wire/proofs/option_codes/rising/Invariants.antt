-- The numbers so far.
use Rattle.std.proofs.Common.{◌≡◌, take}
use Rattle.dhcp_wire.specs.OptionCodes.{rising}
use Rattle.dhcp_wire.proofs.option_codes.rising.Given as goal

abbrev pub invariant-loop-number : goal.invariant-loop-number
invariant-loop-number g l = l.kept.keys ≡ rising g.N.Ord.cmp (take l.number-index l.numbers)
