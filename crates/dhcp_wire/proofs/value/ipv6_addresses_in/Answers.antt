-- The address of the first group is the next one.
use Rattle.std.proofs.Common.{◌≡◌, List, [], ◌∷◌, ◌++◌, ℕ, arith, ap, sym, ◌∙◌, append_assoc}
use Rattle.std.specs.declared.net.Ipv6Addr.{Ipv6Addr}
use Rattle.dhcp_wire.specs.Field.{ipv6_address_of}
use Rattle.dhcp_wire.specs.Value.{ipv6_addresses_in}
use Rattle.dhcp_wire.proofs.AddressLemmas.{first_group}
use Rattle.dhcp_wire.proofs.value.ipv6_addresses_in.Goals as goal

pub loop-octets-preserved : goal.loop-octets-preserved
loop-octets-preserved c =
    let cases = c.in-Some.ensures.cases in
    let rest = c.loop-octets.rest.now in
    let before = c.loop-octets.addresses in
    let after = ipv6_addresses_in c.in-Some.later.now in
    let address : List ℕ → Ipv6Addr = λ segments. record { segments = segments } in
    let made : c.from.result ≡ ipv6_address_of c.in-Some.octets.now = ap address c.from.ensures in
    let group : ipv6_address_of c.in-Some.octets.now ∷ after ≡ ipv6_addresses_in rest =
    rw (cases.0, cases.1) (sym (first_group rest (omega (arith, cases.2)))) in
    ap (λ addresses. addresses ++ after) c.in_ok-push.ensures
    ∙ append_assoc before (c.from.result ∷ []) after
    ∙ ap (λ first. before ++ first ∷ after) made
    ∙ ap (λ addresses. before ++ addresses) group
    ∙ c.loop-octets.invariant
