use Rattle.dhcp_wire.proofs.RawOptionLemmas.{raw_option_at-after_options, written-raw_options}
use Rattle.dhcp_wire.proofs.laws.options_and_what_remains.Goals as goal

pub returns-clause-joined : goal.returns-clause-joined
returns-clause-joined c = written-raw_options

pub returns-clause-whole : goal.returns-clause-whole
returns-clause-whole c = raw_option_at-after_options
