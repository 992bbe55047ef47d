-- The script that was read is the only one with this text.
use Rattle.dhcp4_net_play.proofs.NetScriptLaws.{reading-found, reading-none, reading-one}
use Rattle.dhcp4_net_play.proofs.net_script.read_net_script.Goals as goal

pub returns-in-Ok-clause-reading : goal.returns-in-Ok-clause-reading
returns-in-Ok-clause-reading c = reading-found c.args.text.now c.in-Ok.script c.in-Ok.ensures

pub returns-in-Ok-clause-one : goal.returns-in-Ok-clause-one
returns-in-Ok-clause-one c = λ script fits e. reading-one c.args.text.now c.in-Ok.script script c.in-Ok.ensures fits e

pub returns-in-Err-Malformed-clause-reading : goal.returns-in-Err-Malformed-clause-reading
returns-in-Err-Malformed-clause-reading c = reading-none c.args.text.now (rw c.in-Err-Malformed.field-0-is at c.in-Err-Malformed.ensures)

pub returns-in-Err-Malformed-clause-one : goal.returns-in-Err-Malformed-clause-one
returns-in-Err-Malformed-clause-one c = λ script fits e. absurd (reading-none c.args.text.now (rw c.in-Err-Malformed.field-0-is at c.in-Err-Malformed.ensures) script fits e)
