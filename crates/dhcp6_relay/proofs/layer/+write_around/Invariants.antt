-- The layers inside are fewer.
use Rattle.std.proofs.Common.{length}
use Rattle.dhcp6_relay.proofs.layer.+write_around.Given as goal

abbrev pub decreases-write_around : goal.decreases-write_around
decreases-write_around l = length l.layers.now
