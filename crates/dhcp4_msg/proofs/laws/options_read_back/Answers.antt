use Rattle.dhcp4_msg.proofs.LawLemmas.{option_back}
use Rattle.dhcp4_msg.proofs.laws.options_read_back.Goals as goal

pub returns : goal.returns
returns c = option_back
