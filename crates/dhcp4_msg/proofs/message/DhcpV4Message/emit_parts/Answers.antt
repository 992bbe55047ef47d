-- One part after the other.
use Rattle.dhcp4_msg.specs.Message.{written_message}
use Rattle.dhcp_wire.proofs.EmitLemmas.{emits_exit, emits_last, front_first, front_later}
use Rattle.dhcp4_msg.proofs.message.DhcpV4Message.emit_parts.Goals as goal

pub returns-in_err-emit_numbers : goal.returns-in_err-emit_numbers
unfolding written_message
returns-in_err-emit_numbers c =
    emits_exit _ _ _ _ _ c.from_residual.ensures.1 c.in_err-emit_numbers.ensures.0
    (front_first _ _ _ _ c.in_err-emit_numbers.ensures.1)

pub returns-in_err-emit_address_fields : goal.returns-in_err-emit_address_fields
unfolding written_message
returns-in_err-emit_address_fields c =
    emits_exit _ _ _ _ _ c.from_residual-in_err-emit_address_fields.ensures.1 c.in_err-emit_address_fields.ensures.0
    (front_later _ _ _ _ _ c.in_ok-emit_numbers.ensures (front_first _ _ _ _ c.in_err-emit_address_fields.ensures.1))

pub returns-in_err-emit_texts : goal.returns-in_err-emit_texts
unfolding written_message
returns-in_err-emit_texts c =
    emits_exit _ _ _ _ _ c.from_residual-in_err-emit_texts.ensures.1 c.in_err-emit_texts.ensures.0
    (front_later _ _ _ _ _ c.in_ok-emit_numbers.ensures
    (front_later _ _ _ _ _ c.in_ok-emit_address_fields.ensures (front_first _ _ _ _ c.in_err-emit_texts.ensures.1)))

pub returns : goal.returns
unfolding written_message
returns c =
    emits_last _ _ _ _ _ _ c.in_ok-emit_numbers.ensures
    (emits_last _ _ _ _ _ _ c.in_ok-emit_address_fields.ensures
    (emits_last _ _ _ _ _ _ c.in_ok-emit_texts.ensures c.emit.ensures))
