-- Where there is no table, no number has an option.
use Rattle.std.specs.FinMap.{get-empty}
use Rattle.std.proofs.Common.{sym}
use Rattle.dhcp4_msg.proofs.options.DhcpV4Options.kept_at.Goals as goal

pub returns-in-None-clause-value : goal.returns-in-None-clause-value
returns-in-None-clause-value c = rw (← c.self.view_is, c.in-None.is) (sym (get-empty _ c.args.number))
