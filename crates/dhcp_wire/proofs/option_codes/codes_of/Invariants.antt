-- The codes of the numbers so far.
use Rattle.std.proofs.Common.{◌≡◌, map, take}
use Rattle.dhcp_wire.proofs.option_codes.codes_of.Given as goal

abbrev pub invariant-loop-number : goal.invariant-loop-number
invariant-loop-number g l = l.codes.items ≡ map g.C.OptionCode.code_of (take l.number-index l.numbers)
