-- The options of the table stand; where there is no table, there is no option.
use Rattle.std.proofs.Common.{sym, ◌∙◌}
use Rattle.std.proofs.lemmas.Option.{none-some}
use Rattle.std.specs.FinMap.{get-empty}
use Rattle.dhcp4_msg.proofs.options.DhcpV4Options.stand.Goals as goal

pub returns-in-Some : goal.returns-in-Some
returns-in-Some c = rw (← c.self.view_is, c.in-Some.is, ← c.deref.ensures) c.stand.ensures

pub returns-in_default : goal.returns-in_default
returns-in_default c =
    rw (← c.self.view_is, c.in_default.is) (λ number option found. absurd (none-some _ (sym (get-empty _ number) ∙ found)))
