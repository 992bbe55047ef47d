use Rattle.dhcp_wire.proofs.FieldLaws.{ipv6_address_at-octets}
use Rattle.dhcp_wire.proofs.laws.ipv6_addresses_read_back.Goals as goal

pub returns : goal.returns
returns c = ipv6_address_at-octets
