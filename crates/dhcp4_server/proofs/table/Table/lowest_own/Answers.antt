-- The first key of the client is that of its lowest address.
use Rattle.std.proofs.Common.{◌≡◌, ℕ, ◌∷◌, [], None, Some, length, rules, subst}
use Rattle.std.specs.BTreeSet.{IsKeyRangeOf}
use Rattle.std.specs.Range.{range_inclusive_end}
use Rattle.std.specs.declared.ops.Bound.TheVariants.{Included}
use Rattle.dhcp4_server.specs.Decision.{lowest}
use Rattle.dhcp4_server.specs.Binding.{is_own_by}
use Rattle.dhcp4_server.specs.Table.{BindingTable, bound, pair_order}
use Rattle.dhcp4_server.proofs.OwnerLemmas.{IsRangeOfOwner, lowest_of_owner}
use Rattle.dhcp4_server.proofs.table.Table.lowest_own.Goals as goal

pub returns-in-Some : goal.returns-in-Some
returns-in-Some c =
    let from_start : IsKeyRangeOf pair_order (Included (c.args.xid, 0)) (Included (range_inclusive_end c.new.result)) c.self.inside.owned c.range.result =
    subst (λ (low : ℕ × ℕ). IsKeyRangeOf pair_order (Included low) (Included (range_inclusive_end c.new.result)) c.self.inside.owned c.range.result) c.new.ensures.start (c.range.ensures.in_range c.new.ensures.exhausted) in
    let range : IsRangeOfOwner c.args.xid c.self.inside.owned c.range.result =
    subst (λ (high : ℕ × ℕ). IsKeyRangeOf pair_order (Included (c.args.xid, 0)) (Included high) c.self.inside.owned c.range.result) c.new.ensures.end from_start in
    let steps : c.range.result ≡ c.in-Some.key.now ∷ c.next.new.self = search rules in
    subst (λ (table : BindingTable). Some c.in-Some.key.now.1 ≡ lowest (λ address. is_own_by (bound table address) c.args.xid) table.first (length table.places)) c.self.view_is
    (lowest_of_owner c.self.inside.owned c.self.inside.first c.args.xid c.self.inside.places.items (c.in-Some.key.now ∷ c.next.new.self) c.self.invariant.1 c.self.invariant.0
    (subst (IsRangeOfOwner c.args.xid c.self.inside.owned) steps range))

pub returns-in-None : goal.returns-in-None
returns-in-None c =
    let from_start : IsKeyRangeOf pair_order (Included (c.args.xid, 0)) (Included (range_inclusive_end c.new.result)) c.self.inside.owned c.range.result =
    subst (λ (low : ℕ × ℕ). IsKeyRangeOf pair_order (Included low) (Included (range_inclusive_end c.new.result)) c.self.inside.owned c.range.result) c.new.ensures.start (c.range.ensures.in_range c.new.ensures.exhausted) in
    let range : IsRangeOfOwner c.args.xid c.self.inside.owned c.range.result =
    subst (λ (high : ℕ × ℕ). IsKeyRangeOf pair_order (Included (c.args.xid, 0)) (Included high) c.self.inside.owned c.range.result) c.new.ensures.end from_start in
    let steps : c.range.result ≡ [] = search rules in
    subst (λ (table : BindingTable). None ≡ lowest (λ address. is_own_by (bound table address) c.args.xid) table.first (length table.places)) c.self.view_is
    (lowest_of_owner c.self.inside.owned c.self.inside.first c.args.xid c.self.inside.places.items [] c.self.invariant.1 c.self.invariant.0
    (subst (IsRangeOfOwner c.args.xid c.self.inside.owned) steps range))
