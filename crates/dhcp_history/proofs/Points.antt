-- What holds of a history point by point.
use Rattle.dhcp_history.specs.Protocol.{Protocol, Lawful}
use Rattle.dhcp_history.specs.Script.{Script}
use Rattle.dhcp_history.specs.History.{history}
use Rattle.dhcp_history.specs.Points.{HoldsByPoint, Rises}
use Rattle.dhcp_history.proofs.Answering.{answers_are_heard}
use Rattle.dhcp_history.proofs.Chain.{stays_follow_on}
use Rattle.dhcp_history.proofs.Handing.{messages_are_own}
use Rattle.dhcp_history.proofs.Missing.{no_answer_is_missed}

pub history_by_point : {PublicState Packet Message State Exchange Answer Lease : Type 0} (p : Protocol PublicState Packet Message State Exchange Answer Lease) → Lawful p → (script : Script Packet State Exchange) → Rises 0 0 script.events → HoldsByPoint p script.events (history p script)
history_by_point p lawful script rises = record {
  answered = answers_are_heard p script rises;
  none_missed = no_answer_is_missed p lawful script rises;
  own_messages = messages_are_own p script;
  follow_on = stays_follow_on p script;
}
