-- By the least wait of each state.
use Rattle.dhcp6_info.proofs.Traffic.{far_history}
use Rattle.dhcp6_info.proofs.laws.messages_are_far_apart.Goals as goal

pub returns : goal.returns
returns c = rw (← c.client.view_is) (far_history c.client.inside.rules.config c.messages_are_far_apart.ensures)
