-- The client of a valid script can begin.
use Rattle.std.proofs.Common.{◌≡◌, ◌∙◌, option_map, rules}
use Rattle.dhcp_script.specs.Lease4.{lease_with}
use Rattle.dhcp_script.specs.Script4.{config_of}
use Rattle.dhcp_replay.proofs.ReplayLemmas.{box_error, error_of_begun}
use Rattle.dhcp_replay.proofs.Valid4Lemmas.{host_utf8, valid_begins}
use Rattle.dhcp_replay.proofs.begun.begin_script4.Goals as goal

pub config-requires : goal.config-requires
config-requires g c = host_utf8 c.args.script.now c.requires

pub returns-clause-error : goal.returns-clause-error
returns-clause-error g c =
    let both = c.in_ok-config-2 in
    let config_is : both.config ≡ config_of c.args.script.now = search rules in
    let lease_is : both.lease ≡ option_map lease_with c.args.script.now.lease = search rules in
    let begins = valid_begins c.args.script.now both.config both.lease c.requires config_is lease_is in
    box_error c.boxed.result c.init.result c.boxed.ensures.error (error_of_begun c.init.result (c.init.ensures.begins ∙ begins))
