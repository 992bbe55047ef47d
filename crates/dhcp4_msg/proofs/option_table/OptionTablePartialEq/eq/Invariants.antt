-- Below the number both keep equal options.
use Rattle.std.proofs.Common.{◌≡◌, ℕ, ◌<◌, true}
use Rattle.dhcp4_msg.proofs.SlotLemmas.{agree_at}
use Rattle.dhcp4_msg.proofs.option_table.OptionTablePartialEq.eq.Given as goal

abbrev pub invariant-loop-number : goal.invariant-loop-number
invariant-loop-number l = (q : ℕ) → q < l.number → agree_at l.self l.other q ≡ true
