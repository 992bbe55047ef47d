-- The lease of the times that are drawn, or the refusal.
use Rattle.dhcp4_lease.proofs.TakenTimes.{reads_lease_by, reads_none_by}
use Rattle.dhcp4_lease.proofs.TimesLemmas.{reads_lease, reads_none}
use Rattle.dhcp4_lease.proofs.lease.DhcpV4Lease.new_from_msg.Goals as goal

pub returns-in-Some-clause-reads : goal.returns-in-Some-clause-reads
returns-in-Some-clause-reads g c =
    reads_lease _ _ c.copied_lease.result c.args.msg.now c.read_times.result c.in-Some.times c.in-Some.is c.read_times.ensures.drawn c.copied_lease.ensures

pub returns-in-None-clause-reads : goal.returns-in-None-clause-reads
returns-in-None-clause-reads g c =
    reads_none _ _ c.no_grant.result c.args.msg.now c.read_times.result c.in-None.is c.read_times.ensures.drawn c.no_grant.ensures

pub returns-in-Some-clause-taken : goal.returns-in-Some-clause-taken
returns-in-Some-clause-taken g c =
    reads_lease_by g.W.Words.gives _ _ c.copied_lease.result c.args.msg.now c.read_times.result c.in-Some.times c.in-Some.is c.read_times.ensures.taken c.copied_lease.ensures

pub returns-in-None-clause-taken : goal.returns-in-None-clause-taken
returns-in-None-clause-taken g c =
    reads_none_by g.W.Words.gives _ _ c.no_grant.result c.args.msg.now c.read_times.result c.in-None.is c.read_times.ensures.taken c.no_grant.ensures
