-- The identifier of a server that the options say is short.
use Rattle.dhcp6_msg.proofs.LeaseLemmas.{kept_is_short}
use Rattle.dhcp6_msg.proofs.lease.lease_with.Goals as goal

pub returns-clause-server : goal.returns-clause-server
returns-clause-server c = rw c.in_ok-copied_or_empty-2.ensures (kept_is_short _ c.server_id.ensures.short)
