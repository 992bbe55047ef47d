-- That the address has four bytes is what its type says.
use Rattle.std.proofs.Common.{◌≡◌, [], Some, append-nil, subst, length, rules}
use Rattle.std.specs.Net.Addr.{ipv4_octets}
use Rattle.dhcp_wire.specs.Field.{address_at}
use Rattle.dhcp_wire.proofs.FieldLaws.{address_at-octets}
use Rattle.dhcp_wire.proofs.laws.an_address_reads_back.Goals as goal

pub returns-clause-before : goal.returns-clause-before
returns-clause-before c rest =
    let four : length (ipv4_octets c.args.address) ≡ 4 = search (c, rules) in
    address_at-octets c.args.address rest four

pub returns-clause-alone : goal.returns-clause-alone
returns-clause-alone c =
    let four : length (ipv4_octets c.args.address) ≡ 4 = search (c, rules) in
    subst (λ bytes. address_at bytes ≡ Some (c.args.address, [])) (append-nil (ipv4_octets c.args.address))
    (address_at-octets c.args.address [] four)
