-- As many bytes were read as the array has.
use Rattle.std.proofs.Common.{sym}
use Rattle.dhcp_wire.proofs.FieldLaws.{bytes_at_cut}
use Rattle.dhcp6_msg.proofs.view.transaction_id.Goals as goal

pub copy_from_slice-requires : goal.copy_from_slice-requires
copy_from_slice-requires c = sym (bytes_at_cut _ _ _ _ c.in_ok-bytes.ensures).0
