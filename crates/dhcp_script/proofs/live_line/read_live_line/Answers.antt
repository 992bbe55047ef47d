use Rattle.dhcp_script.proofs.LiveLineLaws.{line-found, line-none, line-one}
use Rattle.dhcp_script.proofs.live_line.read_live_line.Goals as goal

pub returns-in-Ok-clause-reading : goal.returns-in-Ok-clause-reading
returns-in-Ok-clause-reading c = line-found c.args.line.now c.in-Ok.said c.in-Ok.ensures

pub returns-in-Ok-clause-one : goal.returns-in-Ok-clause-one
returns-in-Ok-clause-one c = λ said fits e. line-one c.args.line.now c.in-Ok.said said c.in-Ok.ensures fits e

pub returns-in-Err-Malformed-clause-reading : goal.returns-in-Err-Malformed-clause-reading
returns-in-Err-Malformed-clause-reading c = line-none c.args.line.now (rw c.in-Err-Malformed.field-0-is at c.in-Err-Malformed.ensures)

pub returns-in-Err-Malformed-clause-one : goal.returns-in-Err-Malformed-clause-one
returns-in-Err-Malformed-clause-one c = λ said fits e. absurd (line-none c.args.line.now (rw c.in-Err-Malformed.field-0-is at c.in-Err-Malformed.ensures) said fits e)
