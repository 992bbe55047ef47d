-- What was written so far.
use Rattle.std.proofs.Common.{◌≡◌, ◌++◌, take}
use Rattle.dhcp4_msg.specs.Value.{written_addresses}
use Rattle.dhcp4_msg.proofs.value.emit_addresses.Given as goal

abbrev pub invariant-loop-address : goal.invariant-loop-address
invariant-loop-address l = l.buf ≡ l.initial.buf ++ written_addresses (take l.address-index l.addresses)
