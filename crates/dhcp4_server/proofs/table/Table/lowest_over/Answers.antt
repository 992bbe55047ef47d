-- The lowest place is that of the lowest address.
use Rattle.std.proofs.Common.{◌≡◌, ◌+◌, None, Some, length, rules, subst}
use Rattle.dhcp4_server.specs.Decision.{lowest}
use Rattle.dhcp4_server.specs.Table.{BindingTable, bound}
use Rattle.dhcp4_server.specs.Binding.{is_over_by}
use Rattle.dhcp4_server.specs.Blocks.{IsLowestIn, is_over_at}
use Rattle.dhcp4_server.proofs.TableLemmas.{lowest_of_places}
use Rattle.dhcp4_server.proofs.table.Table.lowest_over.Goals as goal

pub returns-in-Some : goal.returns-in-Some
returns-in-Some c =
    let found : IsLowestIn (is_over_at c.self.inside.places.items c.args.now) 0 (length c.self.inside.places.items) (Some c.in-Some.place) = search rules in
    subst (λ (table : BindingTable). Some (c.self.inside.first + c.in-Some.place) ≡ lowest (λ address. is_over_by (bound table address) c.args.now) table.first (length table.places)) c.self.view_is
    (lowest_of_places c.self.inside.first c.args.now c.self.inside.places.items (Some c.in-Some.place) found)

pub returns-in-None : goal.returns-in-None
returns-in-None c =
    let found : IsLowestIn (is_over_at c.self.inside.places.items c.args.now) 0 (length c.self.inside.places.items) None = search rules in
    subst (λ (table : BindingTable). None ≡ lowest (λ address. is_over_by (bound table address) c.args.now) table.first (length table.places)) c.self.view_is
    (lowest_of_places c.self.inside.first c.args.now c.self.inside.places.items None found)
