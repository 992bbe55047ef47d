-- A run that ends before it writes.
use Rattle.dhcp_tool.specs.Job.{Reads}
use Rattle.dhcp_tool.proofs.EndsLemmas.{ends_early}
use Rattle.dhcp6_relay.specs.Tool.{messages}
use Rattle.dhcp6_relay.proofs.tool.carry_out.Goals as goal

pub returns-in-Err-clause-ends : goal.returns-in-Err-clause-ends
returns-in-Err-clause-ends g c = ends_early (Reads (messages c.args.request.now)) c.in-Err.status _ c.in-Err.ensures.answers
