use Rattle.dhcp4_msg.proofs.CodeLemmas.{number_of-code_of}
use Rattle.dhcp4_msg.proofs.laws.codes_read_back.Goals as goal

pub returns : goal.returns
returns c = number_of-code_of
