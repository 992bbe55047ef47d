-- No address in the blocks so far is free for every client.
use Rattle.std.proofs.Common.{◌≡◌, ℕ, ◌*◌, ◌<◌, false, length}
use Rattle.dhcp4_server.specs.Blocks.{is_over_at}
use Rattle.dhcp4_server.proofs.blocks.Blocks.lowest_over.Given as goal

abbrev pub invariant-loop-block : goal.invariant-loop-block
invariant-loop-block l = (k : ℕ) → k < length l.places → k < 256 * l.block → is_over_at l.places l.now k ≡ false
