-- A set of owners to which one was added, and from which another was removed.
use Rattle.std.proofs.Common.{ap, ◌∙◌, Option}
use Rattle.dhcp4_server.specs.declared.binding.Binding.{Binding}
use Rattle.dhcp4_server.specs.Binding.{is_own_by}
use Rattle.dhcp4_server.proofs.OwnerLemmas.{not_owner, owner_added, owner_moved}
use Rattle.dhcp4_server.proofs.table.change_owner.Goals as goal

pub returns-in_default-clause-changed : goal.returns-in_default-clause-changed
returns-in_default-clause-changed c =
    owner_added c.args.address c.args.xid c.args.owned.now c.insert.new.self
    (λ x differ. c.requires x ∙ ap (λ (before : Option Binding). is_own_by before x) c.in_default.is)
    c.in_ok-insert.ensures.updates

pub returns-then-binding-xid-clause-changed : goal.returns-then-binding-xid-clause-changed
returns-then-binding-xid-clause-changed c =
    owner_added c.args.address c.args.xid c.args.owned.now c.insert.new.self
    (λ x differ. c.requires x ∙ ap (λ (before : Option Binding). is_own_by before x) c.in-Some.is ∙ not_owner c.in-Some.binding.xid c.args.xid x c.if-binding-xid.true differ)
    c.in_ok-insert.ensures.updates

pub returns-clause-changed : goal.returns-clause-changed
returns-clause-changed c =
    owner_moved c.args.address c.args.xid c.in-Some.binding.xid c.args.owned.now c.insert.new.self c.remove.new.self
    (λ x. c.requires x ∙ ap (λ (before : Option Binding). is_own_by before x) c.in-Some.is)
    c.if-binding-xid.false
    c.in_ok-insert.ensures.updates
    c.remove.ensures.updates
