-- By the order of the events of a valid script.
use Rattle.dhcp_replay.proofs.OrderLemmas.{valid_events_rise}
use Rattle.dhcp_replay.proofs.laws.valid_events_rise.Goals as goal

pub returns : goal.returns
returns c = valid_events_rise
