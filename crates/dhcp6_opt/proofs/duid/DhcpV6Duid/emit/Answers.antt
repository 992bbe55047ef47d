-- The number of a DUID-UUID is written after its type.
use Rattle.std.proofs.Common.{◌≡◌, ◌++◌}
use Rattle.std.specs.Int.{w16, to_be_bytes}
use Rattle.dhcp_wire.proofs.EmitLemmas.{emits_appends, emits_last}
use Rattle.dhcp6_opt.specs.Duid.{written_duid}
use Rattle.dhcp6_opt.proofs.duid.DhcpV6Duid.emit.Goals as goal

pub returns-in_ok-write_u16_be-in-UUID : goal.returns-in_ok-write_u16_be-in-UUID
unfolding written_duid
returns-in_ok-write_u16_be-in-UUID c =
    let mid = c.write_u16_be-in-UUID.new.self in
    let done : mid ≡ c.args.buf.now ++ to_be_bytes w16 4 = c.in_ok-write_u16_be-in-UUID.ensures in
    let later = emits_appends c.write_u128_be.result mid c.write_u128_be.new.self _ c.write_u128_be.ensures in
    let both = emits_last c.write_u128_be.result c.args.buf.now mid c.write_u128_be.new.self (to_be_bytes w16 4) _ done later in
    rw (c.in-UUID.is, ← c.number.ensures) both
