-- The layers that were read, and those of the message inside them, are those of the whole.
use Rattle.std.proofs.Common.{◌≡◌, ◌-◌, ◌≤◌, length}
use Rattle.dhcp6_relay.specs.Reply.{layers_of}
use Rattle.dhcp6_relay.proofs.LayersLemmas.{layers_after}
use Rattle.dhcp6_relay.proofs.reply.layers_of.Given as goal

abbrev pub invariant-loop-message : goal.invariant-loop-message
invariant-loop-message l =
    (length l.layers.items ≤ 9)
    × (layers_of l.forward ≡ layers_after l.layers.items l.message)

abbrev pub decreases-loop-message : goal.decreases-loop-message
decreases-loop-message l = 9 - length l.layers.items
