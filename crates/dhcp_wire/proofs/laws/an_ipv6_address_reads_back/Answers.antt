-- That the address has eight segments of sixteen bits is what its type says.
use Rattle.std.proofs.Common.{◌≡◌, ◌*◌, [], Some, append-nil, subst, ap, ◌∙◌, rules}
use Rattle.std.specs.Net.Addr.{IsIpv6Addr, ipv6_octets, ipv6_segments}
use Rattle.dhcp_wire.specs.Field.{ipv6_address_at}
use Rattle.dhcp_wire.proofs.FieldLaws.{ipv6_address_at-octets, length-octets_of}
use Rattle.dhcp_wire.proofs.laws.an_ipv6_address_reads_back.Goals as goal

pub returns-clause-sixteen : goal.returns-clause-sixteen
returns-clause-sixteen c =
    let is : IsIpv6Addr c.args.address = search (c, rules) in
    length-octets_of (ipv6_segments c.args.address) ∙ ap (λ n. 2 * n) is.0

pub returns-clause-before : goal.returns-clause-before
returns-clause-before c rest =
    let is : IsIpv6Addr c.args.address = search (c, rules) in
    ipv6_address_at-octets c.args.address rest is

pub returns-clause-alone : goal.returns-clause-alone
returns-clause-alone c =
    let is : IsIpv6Addr c.args.address = search (c, rules) in
    subst (λ bytes. ipv6_address_at bytes ≡ Some (c.args.address, [])) (append-nil (ipv6_octets c.args.address))
    (ipv6_address_at-octets c.args.address [] is)
