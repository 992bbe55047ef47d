use Rattle.std.proofs.Common.{sym, ◌∙◌}
use Rattle.dhcp_history.proofs.schedule.is_over.Goals as goal

pub returns-else-limit_is_over : goal.returns-else-limit_is_over
returns-else-limit_is_over g c = λ available.
    rw (sym c.is_stopped.ensures ∙ c.if-is_stopped.false, sym (c.limit_is_over.ensures available) ∙ c.if-limit_is_over.false) (c.has_ended.ensures available)
