-- The octets so far, four for each address.
use Rattle.std.proofs.Common.{◌≡◌, ◌*◌, ◌≤◌, length, take}
use Rattle.dhcp4_msg.specs.Value.{written_addresses}
use Rattle.dhcp4_msg.proofs.value.addresses_len.Given as goal

abbrev pub invariant-loop-address : goal.invariant-loop-address
invariant-loop-address l =
    (l.len ≡ length (written_addresses (take l.address-index l.addresses))) × (l.len ≤ 4 * l.address-index)
