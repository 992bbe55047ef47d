-- The message that was read is the only one with this line.
use Rattle.dhcp6_relay.proofs.ToolLemmas.{answers_read}
use Rattle.dhcp6_relay.proofs.tool.line_for.Goals as goal

pub returns-in-Ok-Some : goal.returns-in-Ok-Some
returns-in-Ok-Some c =
    answers_read c.args.request.now c.in-Ok-Some.field-0 c.in-Ok-Some.message c.as_slice.result.now c.args.text.now c.line_for_message.result c.in-Ok-Some.field-0-is c.in-Ok-Some.ensures c.as_slice.ensures c.line_for_message.ensures
