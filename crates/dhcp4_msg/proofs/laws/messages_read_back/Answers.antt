use Rattle.std.proofs.Common.{[], sym, ap, ◌∙◌, append-nil}
use Rattle.dhcp4_msg.specs.Message.{read_message, written_message}
use Rattle.dhcp4_msg.proofs.MessageLaw.{message_back}
use Rattle.dhcp4_msg.proofs.laws.messages_read_back.Goals as goal

pub returns : goal.returns
returns c message has = ap read_message (sym (append-nil (written_message message))) ∙ message_back message [] has
