-- A valid script can be played.
use Rattle.std.proofs.Common.{◌≡◌, ◌∙◌, option_map, rules, sym}
use Rattle.dhcp_script.specs.Lease4.{lease_with}
use Rattle.dhcp_script.specs.Script4.{config_of}
use Rattle.dhcp_replay.proofs.Valid4Lemmas.{host_utf8, played_refusal}
use Rattle.dhcp_replay.proofs.replayed.replay_script4.Goals as goal

pub config-requires : goal.config-requires
config-requires c = host_utf8 c.args.script.now (sym c.is_valid.ensures ∙ c.if-not-is_valid.false)

pub returns-clause-refused : goal.returns-clause-refused
returns-clause-refused c =
    let both = c.in_ok-config-2 in
    let config_is : both.config ≡ config_of c.args.script.now = search rules in
    let lease_is : both.lease ≡ option_map lease_with c.args.script.now.lease = search rules in
    played_refusal c.replay4.result c.args.script.now both.config both.lease c.as_slice-events.result.now config_is lease_is c.as_slice-events.ensures
    (sym c.is_valid.ensures ∙ c.if-not-is_valid.false) c.replay4.ensures.refused
