-- What is free has no Ack to another client that is not over.
use Rattle.dhcp4_server.proofs.AckLemmas.{apart}
use Rattle.dhcp4_server.proofs.laws.acks_are_apart.Goals as goal

pub returns : goal.returns
returns c = λ kept latest acks lawful one other is_one is_other same differ. apart kept latest acks lawful one other is_one is_other same differ
