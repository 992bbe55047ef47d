-- What is set and drawn before a client begins.
use Rattle.std.proofs.Common.{◌≡◌, true, refl, rules}
use Rattle.dhcp6_client.specs.Client.{can_begin}
use Rattle.dhcp6_client.proofs.Beginnings.{identified, sets_duid}
use Rattle.dhcp6_client.proofs.Limits.{begins_named}
use Rattle.dhcp6_client.proofs.TakenWords.{first_taken}
use Rattle.dhcp6_client.proofs.client.first_id.Goals as goal

pub returns-clause-set : goal.returns-clause-set
returns-clause-set g c = sets_duid _ _ c.args.config.now c.init_duid.new.self c.in_ok-init_duid.ensures.set

pub returns-clause-sendable : goal.returns-clause-sendable
returns-clause-sendable g c =
    let can : can_begin c.args.config.now c.args.lease.now ≡ true = search rules in
    c.in_ok-init_duid.ensures.sendable (begins_named c.args.config.now c.args.lease.now can)

pub returns-clause-identifier : goal.returns-clause-identifier
returns-clause-identifier g c = identified _ _ c.args.config.now c.init_duid.new.self c.in_ok-init_duid.ensures.set

pub returns-clause-given : goal.returns-clause-given
returns-clause-given g c =
    first_taken g.W.Words.gives c.args.words.now c.init_duid.new.words c.next_word.new.self c.args.config.now c.init_duid.new.self _ c.next_word.result _
    c.in_ok-init_duid.ensures.taken c.next_word.ensures.given refl c.new_id.ensures
