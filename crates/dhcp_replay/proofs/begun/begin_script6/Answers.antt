-- The client of a valid script can begin.
use Rattle.std.proofs.Common.{◌≡◌, option_map, rules}
use Rattle.dhcp_script.specs.Lease6.{lease_with}
use Rattle.dhcp_script.specs.Script6.{config_of}
use Rattle.dhcp_replay.proofs.ReplayLemmas.{box_error, start_below}
use Rattle.dhcp_replay.proofs.Valid6Lemmas.{parts, valid_begins}
use Rattle.dhcp_replay.proofs.begun.begin_script6.Goals as goal

pub init-requires : goal.init-requires
init-requires g c = start_below c.args.script.now.start c.args.script.now.events (parts c.args.script.now c.requires).events

pub returns-clause-error : goal.returns-clause-error
returns-clause-error g c =
    let both = c.in_ok-config-2 in
    let config_is : both.config ≡ config_of c.args.script.now = search rules in
    let lease_is : both.lease ≡ option_map lease_with c.args.script.now.lease = search rules in
    let begins = valid_begins c.args.script.now both.config both.lease c.requires config_is lease_is in
    box_error c.boxed.result c.init.result c.boxed.ensures.error (c.init.ensures.errors begins)
