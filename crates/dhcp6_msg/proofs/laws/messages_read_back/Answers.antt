-- The id of a message of the table has three bytes.
use Rattle.dhcp6_msg.specs.MessageTable.{table_message}
use Rattle.dhcp6_msg.proofs.LawLemmas.{length-id_bytes, message_back}
use Rattle.dhcp6_msg.proofs.laws.messages_read_back.Goals as goal

pub returns : goal.returns
unfolding table_message
returns c = record { any = message_back; built = λ id config row. message_back _ (length-id_bytes id) }
