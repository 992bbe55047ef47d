-- The earliest of the moments so far.
use Rattle.std.proofs.Common.{◌≤◌, ◌<◌, ℕ}
use Rattle.dhcp4_server.specs.Blocks.{end_at}
use Rattle.dhcp4_server.proofs.blocks.earliest_from.Given as goal

abbrev pub invariant-loop-place : goal.invariant-loop-place
invariant-loop-place l = (k : ℕ) → l.start ≤ k → k < l.place → l.earliest ≤ end_at l.places k
