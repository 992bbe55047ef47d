-- An option that was read from a value of at most 255 bytes fits.
use Rattle.std.proofs.Common.{refl, arith}
use Rattle.dhcp4_msg.proofs.ValueLemmas.{fits-value_of, some_from_ok}
use Rattle.dhcp4_msg.proofs.option.DhcpV4Option.parse.Goals as goal

pub returns-in-Ok-clause-fit : goal.returns-in-Ok-clause-fit
returns-in-Ok-clause-fit c =
    fits-value_of c.in-Some.raw.code _ _ _ refl (omega (arith, c.in-Some.ensures.fit.1))
    (some_from_ok _ _ _ (rw c.from.ensures at c.in-Ok.ensures))
