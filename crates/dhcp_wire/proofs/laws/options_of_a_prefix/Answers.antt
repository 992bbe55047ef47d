use Rattle.std.proofs.Common.{length, arith}
use Rattle.dhcp_wire.proofs.RawOptionLemmas.{raw_options-prefix}
use Rattle.dhcp_wire.proofs.laws.options_of_a_prefix.Goals as goal

pub returns : goal.returns
returns c format front rest = raw_options-prefix format (length front) front rest (omega arith)
