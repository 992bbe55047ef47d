-- What is left to report, after what was reported so far, makes up the whole.
use Rattle.std.proofs.Common.{◌≡◌}
use Rattle.std.specs.Vec.Iter.{into_iter_items}
use Rattle.dhcp4_net.specs.Net.{log_reports}
use Rattle.dhcp4_net.proofs.log.NetLog.reports.Given as goal

abbrev pub invariant-loop-output : goal.invariant-loop-output
invariant-loop-output l =
    log_reports l.at.event l.at.moment l.client (into_iter_items l.output-iterator) l.self ≡ log_reports l.fn.at.event l.fn.at.moment l.fn.client l.fn.outputs.items l.fn.self
