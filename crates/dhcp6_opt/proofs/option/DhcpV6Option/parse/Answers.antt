-- An option that was read fits.
use Rattle.dhcp_wire.proofs.OutcomeLemmas.{given_read}
use Rattle.dhcp_wire.specs.declared.error.ErrorKind.TheVariants.{InvalidDhcpMessage}
use Rattle.dhcp6_opt.proofs.ValueLemmas.{fits-value_of}
use Rattle.dhcp6_opt.proofs.option.DhcpV6Option.parse.Goals as goal

pub returns-in-Ok-clause-fit : goal.returns-in-Ok-clause-fit
returns-in-Ok-clause-fit c =
    fits-value_of c.in-Some.raw.code _ _ (given_read _ InvalidDhcpMessage _ (rw c.from.ensures at c.in-Ok.ensures))
