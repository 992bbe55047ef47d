use Rattle.dhcp6_msg.proofs.LawLemmas.{id_back}
use Rattle.dhcp6_msg.proofs.laws.ids_read_back.Goals as goal

pub returns : goal.returns
returns c = id_back
