-- A script that is not within its limits, and one that is.
use Rattle.std.proofs.Common.{◌≡◌, inr, false, rules}
use Rattle.dhcp4_net.specs.Script.{is_within_limits, net_at_end}
use Rattle.dhcp4_net.proofs.ScriptLemmas.{invalid_without, no_end, returned_address}
use Rattle.dhcp4_net.proofs.net.run_net.Goals as goal

pub returns-then-not-is_within_limits-clause-played : goal.returns-then-not-is_within_limits-clause-played
returns-then-not-is_within_limits-clause-played c =
    let no : is_within_limits c.args.script.now ≡ false = search rules in
    inr (invalid_without c.args.script.now c.not_valid.result (no_end c.args.script.now no) c.not_valid.ensures)

pub returns-clause-one_address : goal.returns-clause-one_address
returns-clause-one_address c = returned_address c.play.result (net_at_end c.args.script.now) c.play.ensures c.keeps_one_address.ensures.address
