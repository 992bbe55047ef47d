use Rattle.dhcp4_msg.proofs.OffsetLemmas.{IsAtOffsets-read_message}
use Rattle.dhcp4_msg.proofs.laws.fields_are_at_offsets.Goals as goal

pub returns : goal.returns
returns c = IsAtOffsets-read_message
