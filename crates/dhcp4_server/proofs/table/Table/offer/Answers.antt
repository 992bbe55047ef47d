-- A client without an address of its own is offered the lowest that is free for every client.
use Rattle.std.proofs.Common.{◌≡◌, ℕ, Option, None, Some, length, sym, ap, ◌∙◌, rules}
use Rattle.dhcp4_server.specs.Binding.{is_over_by, is_own_by}
use Rattle.dhcp4_server.specs.Decision.{lowest, offer_if, offer_or}
use Rattle.dhcp4_server.specs.Table.{bound}
use Rattle.dhcp4_server.proofs.TableLemmas.{free_is_over}
use Rattle.dhcp4_server.proofs.table.Table.offer.Goals as goal

offered : (own free over : Option ℕ) → own ≡ None → free ≡ over → offer_if over ≡ offer_or own free
offered own free over none same = ap offer_if (sym same) ∙ ap (λ (one : Option ℕ). offer_or one free) (sym none)

pub returns-in-Some-lowest_over-clause-decided : goal.returns-in-Some-lowest_over-clause-decided
returns-in-Some-lowest_over-clause-decided c =
    let none : lowest (λ address. is_own_by (bound c.args.self.now address) c.args.xid) c.args.self.now.first (length c.args.self.now.places) ≡ None = search rules in
    let found : lowest (λ address. is_over_by (bound c.args.self.now address) c.args.now) c.args.self.now.first (length c.args.self.now.places) ≡ Some c.in-Some-lowest_over.address = search rules in
    ap offer_if (sym found) ∙ offered _ _ _ none (free_is_over c.args.self.now.first c.args.now c.args.xid c.args.self.now.places none)

pub returns-in-None-clause-decided : goal.returns-in-None-clause-decided
returns-in-None-clause-decided c =
    let none : lowest (λ address. is_own_by (bound c.args.self.now address) c.args.xid) c.args.self.now.first (length c.args.self.now.places) ≡ None = search rules in
    let found : lowest (λ address. is_over_by (bound c.args.self.now address) c.args.now) c.args.self.now.first (length c.args.self.now.places) ≡ None = search rules in
    ap offer_if (sym found) ∙ offered _ _ _ none (free_is_over c.args.self.now.first c.args.now c.args.xid c.args.self.now.places none)
