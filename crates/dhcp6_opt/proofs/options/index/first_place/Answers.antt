-- The entry of the number has the place, or there is none.
use Rattle.std.proofs.Common.{sym}
use Rattle.dhcp6_opt.proofs.OptionIndexLemmas.{first_place-entry, first_place-missing}
use Rattle.dhcp6_opt.proofs.options.index.first_place.Goals as goal

pub returns-in-Ok : goal.returns-in-Ok
returns-in-Ok c = sym (first_place-entry c.args.number _ _ _ c.in-Ok.ensures.place)

pub returns-in-Err : goal.returns-in-Err
returns-in-Err c = sym (first_place-missing c.args.number _ _ c.in-Err.ensures.place)
