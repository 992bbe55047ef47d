-- Each option that is kept has its widths, and all stand.
use Rattle.std.proofs.Common.{subst, arith}
use Rattle.std.specs.List.{All}
use Rattle.dhcp4_msg.specs.Laws.{HasWidths}
use Rattle.dhcp4_msg.proofs.SlotLemmas.{AllStand-kept}
use Rattle.dhcp4_msg.proofs.option_table.OptionTable.stand.Goals as goal

pub returns : goal.returns
returns c =
    rw (← c.self.view_is) (AllStand-kept _ _ c.self.invariant
    (subst (All HasWidths) c.deref-option-items.ensures.value (λ k d below. c.loop-option.invariant k d (omega arith))))
