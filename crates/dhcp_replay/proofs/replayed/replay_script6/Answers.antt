-- A valid script can be played.
use Rattle.std.proofs.Common.{◌≡◌, ◌∙◌, option_map, rules, sym}
use Rattle.dhcp_script.specs.Lease6.{lease_with}
use Rattle.dhcp_script.specs.Script6.{config_of}
use Rattle.dhcp_replay.proofs.Valid6Lemmas.{played_refusal}
use Rattle.dhcp_replay.proofs.replayed.replay_script6.Goals as goal

pub returns-clause-refused : goal.returns-clause-refused
returns-clause-refused c =
    let both = c.in_ok-config-2 in
    let config_is : both.config ≡ config_of c.args.script.now = search rules in
    let lease_is : both.lease ≡ option_map lease_with c.args.script.now.lease = search rules in
    played_refusal c.replay6.result c.args.script.now both.config both.lease c.as_slice-events.result.now config_is lease_is c.as_slice-events.ensures
    (sym c.is_valid.ensures ∙ c.if-not-is_valid.false) c.replay6.ensures.refused
