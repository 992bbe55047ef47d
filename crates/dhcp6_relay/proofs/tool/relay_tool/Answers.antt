-- Words ask for one thing.
use Rattle.dhcp6_relay.proofs.ToolLemmas.{ends_for}
use Rattle.dhcp6_relay.proofs.tool.relay_tool.Goals as goal

pub returns-in-Ok-Some-clause-ends : goal.returns-in-Ok-Some-clause-ends
returns-in-Ok-Some-clause-ends g c = λ request asks.
    ends_for _ c.in-Ok-Some.field-0 c.in-Ok-Some.request request _ c.into.result _ c.in-Ok-Some.field-0-is c.in-Ok-Some.ensures asks c.into.ensures c.carry_out.ensures.ends
