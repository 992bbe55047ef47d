-- Those so far are whole.
use Rattle.std.proofs.Common.{ℕ, ◌<◌, get_or}
use Rattle.std.specs.declared.net.Ipv4Addr.{Ipv4Addr}
use Rattle.dhcp4_msg.specs.Laws.{IsWhole}
use Rattle.dhcp4_msg.proofs.laws.addresses_are_whole.Given as goal

abbrev pub invariant-loop-address : goal.invariant-loop-address
invariant-loop-address l = (k : ℕ) (d : Ipv4Addr) → k < l.address-index → IsWhole (get_or l.addresses k d)
