-- What is given is within its limits.
use Rattle.std.proofs.Common.{◌≡◌, ◌∙◌, Bool, true, ap, rules, subst}
use Rattle.std.specs.Prelude.{◌&&◌, IfErr}
use Rattle.std.proofs.lemmas.Bool.{and_parts}
use Rattle.dhcp6_client.specs.Client.{can_begin}
use Rattle.dhcp6_msg.specs.Config.{Config}
use Rattle.dhcp_script.specs.Event.{are_valid}
use Rattle.dhcp_replay.specs.Life.{IsRefusal}
use Rattle.dhcp_replay.specs.Replayed6.{fit_a_script}
use Rattle.dhcp_replay.proofs.ReplayLemmas.{boxed_refusal, start_below}
use Rattle.dhcp_replay.proofs.replayed6.begun6.Goals as goal

pub init-requires : goal.init-requires
init-requires g c =
    let within : (are_valid c.args.start c.args.events.now && fit_a_script c.args.config c.args.lease) ≡ true = search rules in
    start_below c.args.start c.args.events.now (and_parts (are_valid c.args.start c.args.events.now) (fit_a_script c.args.config c.args.lease) within).0

pub returns-clause-refused : goal.returns-clause-refused
returns-clause-refused g c =
    let within : (are_valid c.args.start c.args.events.now && fit_a_script c.args.config c.args.lease) ≡ true = search rules in
    let config_is : c.in_ok-config.config ≡ c.args.config = search rules in
    let lease_is : c.in_ok-config.lease ≡ c.args.lease = search rules in
    let held = c.in_ok-config.lease in
    let same : can_begin c.in_ok-config.config held ≡ can_begin c.args.config c.args.lease = ap (λ (config : Config). can_begin config held) config_is ∙ ap (can_begin c.args.config) lease_is in
    let given : Bool = are_valid c.args.start c.args.events.now && fit_a_script c.args.config c.args.lease in
    subst (λ (can : Bool). IfErr c.boxed.result (IsRefusal (given && can))) same
    (boxed_refusal c.boxed.result c.init.result given (can_begin c.in_ok-config.config held) within c.boxed.ensures.error c.init.ensures.begins c.init.ensures.refused c.init.ensures.errors)
