-- The lease of the options, or the refusal.
use Rattle.std.proofs.Common.{inr, sym, ap, refl, Err, ◌∙◌}
use Rattle.dhcp6_msg.proofs.LeaseLemmas.{failed_is_refused, read_from}
use Rattle.dhcp6_msg.proofs.lease.DhcpV6Lease.from_message.Goals as goal

pub returns-then-has_failed-clause-reads : goal.returns-then-has_failed-clause-reads
returns-then-has_failed-clause-reads c =
    inr (failed_is_refused c.args.msg (sym c.if-has_failed.ensures) ∙ ap Err (sym c.no_lease.ensures))

pub returns-clause-reads : goal.returns-clause-reads
returns-clause-reads c =
    read_from c.granted_lease.result c.args.msg _ _ c.xid-xid.ensures refl (sym c.has_failed.ensures ∙ c.if-has_failed.false) c.granted_lease.ensures.reads
