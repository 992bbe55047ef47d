-- A layer is no longer than it is with the message inside it.
use Rattle.std.proofs.Common.{arith}
use Rattle.dhcp6_relay.proofs.LayerLemmas.{first-le-around}
use Rattle.dhcp6_relay.proofs.layer.+write_around.Goals as goal

pub overflow_sub-inner_len : goal.overflow_sub-inner_len
overflow_sub-inner_len t c =
    let whole = first-le-around c.args.forward c.args.layers.now c.args.message.now c.args.len _ _ c.in-Some.ensures.cases.0 c.requires.whole in
    omega (arith, whole, c.len.ensures)

pub write_tail-requires : goal.write_tail-requires
write_tail-requires t c =
    let whole = first-le-around c.args.forward c.args.layers.now c.args.message.now c.args.len _ _ c.in-Some.ensures.cases.0 c.requires.whole in
    omega (arith, whole, c.requires.short)
