-- No address before this place is free for every client.
use Rattle.std.proofs.Common.{◌≡◌, ℕ, ◌≤◌, ◌<◌, false}
use Rattle.dhcp4_server.specs.Blocks.{is_over_at}
use Rattle.dhcp4_server.proofs.blocks.first_over.Given as goal

abbrev pub invariant-loop-place : goal.invariant-loop-place
invariant-loop-place l = (k : ℕ) → l.start ≤ k → k < l.place → is_over_at l.places l.now k ≡ false
