-- The numbers of the codes so far.
use Rattle.std.proofs.Common.{◌≡◌, map, take}
use Rattle.dhcp_wire.proofs.option_codes.rising_codes_with.Given as goal

abbrev pub invariant-loop-code : goal.invariant-loop-code
invariant-loop-code g l = l.all.items ≡ map g.C.OptionCode.number_of (take l.code-index l.codes)
