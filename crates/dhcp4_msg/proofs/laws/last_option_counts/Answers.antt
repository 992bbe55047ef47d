use Rattle.dhcp4_msg.proofs.OptionsLemmas.{get-read_options}
use Rattle.dhcp4_msg.proofs.laws.last_option_counts.Goals as goal

pub returns : goal.returns
returns c = get-read_options
