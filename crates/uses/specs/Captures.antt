-- Which records of a capture file carry an Ack.
use Rattle.std.specs.Prelude.{Bool, true, false, Option, Some, None}
use Rattle.dhcp4_msg.specs.declared.message_type.DhcpV4MessageType.{DhcpV4MessageType}
use Rattle.dhcp4_msg.specs.declared.message_type.DhcpV4MessageType.TheVariants.{Ack}
use Rattle.dhcp_inspect.specs.Message.{message_of}
use Rattle.dhcp_inspect.specs.Record.{RecordParts}
use Rattle.dhcp_inspect.specs.declared.message.Message.{Message}
use Rattle.dhcp_inspect.specs.declared.message.Message.TheVariants.{V4, V6}

-- the type is Ack
abbrev pub is_ack_type : Option DhcpV4MessageType → Bool
is_ack_type (Some Ack) = true
is_ack_type _ = false

-- the message is an Ack
abbrev pub is_ack_message : Option Message → Bool
is_ack_message (Some (V4 message)) = is_ack_type message.message_type
is_ack_message (Some (V6 message)) = false
is_ack_message None = false

-- the record carries an Ack
abbrev pub is_ack : RecordParts → Bool
is_ack packet = is_ack_message (message_of packet)
