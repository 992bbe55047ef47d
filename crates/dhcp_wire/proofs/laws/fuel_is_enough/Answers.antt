use Rattle.std.proofs.Common.{length, arith}
use Rattle.dhcp_wire.proofs.RawOptionLemmas.{raw_options_within-enough}
use Rattle.dhcp_wire.proofs.laws.fuel_is_enough.Goals as goal

pub returns : goal.returns
returns c format fuel bytes few = raw_options_within-enough format fuel (length bytes) bytes few (omega arith)
