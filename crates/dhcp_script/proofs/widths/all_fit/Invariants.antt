-- Those so far fit.
use Rattle.std.proofs.Common.{ℕ, ◌<◌, get_or}
use Rattle.dhcp_script.proofs.widths.all_fit.Given as goal

abbrev pub invariant-loop-item : goal.invariant-loop-item
invariant-loop-item g l = (k : ℕ) (d : g.row.T.Denot) → k < l.item-index → g.T.Widths.fits (get_or l.items k d)
