-- The way there, and the way back.
use Rattle.dhcp6_relay.proofs.RoundTripLemmas.{answer_comes_back, relayed_whole}
use Rattle.dhcp6_relay.proofs.laws.answers_come_back.Goals as goal

pub returns-clause-relayed : goal.returns-clause-relayed
returns-clause-relayed c = relayed_whole

pub returns-clause-brought_back : goal.returns-clause-brought_back
returns-clause-brought_back c = answer_comes_back
