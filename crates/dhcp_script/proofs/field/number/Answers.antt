use Rattle.std.proofs.Common.{arith}
use Rattle.dhcp_stream.proofs.ValueLemmas.{IsValue-number, finds_value, number-small}
use Rattle.dhcp_script.proofs.field.number.Goals as goal

pub returns-clause-value : goal.returns-clause-value
returns-clause-value c =
    finds_value (IsValue-number c.args.max (omega (arith, c.ranges.max.fits))) c.args.field.now c.number_field.result c.ok_or.result c.number_field.ensures c.ok_or.ensures.value

pub returns-clause-small : goal.returns-clause-small
returns-clause-small c = number-small c.args.max c.args.field.now c.number_field.result _ c.ok_or.result c.number_field.ensures c.ok_or.ensures.value
