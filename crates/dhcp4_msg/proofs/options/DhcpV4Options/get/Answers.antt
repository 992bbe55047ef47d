-- An option that fits and has the number of a code is of that code.
use Rattle.dhcp4_msg.proofs.ValueLemmas.{kept_found}
use Rattle.dhcp4_msg.proofs.options.DhcpV4Options.get.Goals as goal

pub returns-clause-kept : goal.returns-clause-kept
returns-clause-kept c = kept_found c.args.code _ c.kept_at.result c.from.ensures c.kept_at.ensures.own c.kept_at.ensures.fit
