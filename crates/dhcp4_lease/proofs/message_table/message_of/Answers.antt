-- The empty message with the fields of the row.
use Rattle.std.proofs.Common.{rules}
use Rattle.dhcp4_msg.specs.Message.{empty_message}
use Rattle.dhcp4_lease.specs.MessageTable.{table_message}
use Rattle.dhcp4_lease.proofs.message_table.message_of.Goals as goal

pub returns : goal.returns
unfolding table_message empty_message
returns c = search rules
