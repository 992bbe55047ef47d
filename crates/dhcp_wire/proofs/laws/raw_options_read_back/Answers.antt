use Rattle.dhcp_wire.proofs.RawOptionLemmas.{raw_option_at-written_raw_option}
use Rattle.dhcp_wire.proofs.laws.raw_options_read_back.Goals as goal

pub returns : goal.returns
returns c = raw_option_at-written_raw_option
