-- The length so far, up to the greatest number of a usize.
use Rattle.std.proofs.Common.{◌≡◌, ◌+◌, ◌-◌, ◌^◌, min, take}
use Rattle.std.specs.List.{sum_by}
use Rattle.dhcp6_relay.specs.Layer.{layer_length}
use Rattle.dhcp6_relay.proofs.layer.len_around.Given as goal

abbrev pub invariant-loop-layer : goal.invariant-loop-layer
invariant-loop-layer l =
    l.len ≡ min (l.message_len + sum_by layer_length (take l.layer-index l.layers)) (2 ^ 64 - 1)
