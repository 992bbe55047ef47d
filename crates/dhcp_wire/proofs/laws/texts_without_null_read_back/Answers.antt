use Rattle.dhcp_wire.proofs.FieldLaws.{text_at-append}
use Rattle.dhcp_wire.proofs.laws.texts_without_null_read_back.Goals as goal

pub returns : goal.returns
returns c = text_at-append
