-- As many octets were read as are significant, which are four at most.
use Rattle.std.proofs.Common.{arith}
use Rattle.dhcp_wire.proofs.FieldLaws.{bytes_at_cut}
use Rattle.dhcp4_msg.proofs.route.DhcpV4ClasslessRoute.parse.Goals as goal

pub padded_address-requires : goal.padded_address-requires
padded_address-requires c =
    let many = (bytes_at_cut _ _ _ _ c.in_ok-octets.ensures).0 in
    let few = c.significant_octets.ensures in
    omega arith
