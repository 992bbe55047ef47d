use Rattle.std.proofs.Common.{arith}
use Rattle.dhcp_stream.proofs.ValueLemmas.{IsValue-number, number-small, takes_value}
use Rattle.dhcp_stream.proofs.text_reader.TextReader.number.Goals as goal

pub returns-clause-takes : goal.returns-clause-takes
returns-clause-takes c = takes_value (IsValue-number c.args.max (omega (arith, c.ranges.max.fits))) c.args.end _ c.in_ok-field.field.now _ c.number_field.result c.ok_or.result c.in_ok-field.ensures.takes c.number_field.ensures c.ok_or.ensures.value

pub returns-clause-small : goal.returns-clause-small
returns-clause-small c = number-small c.args.max c.in_ok-field.field.now c.number_field.result _ c.ok_or.result c.number_field.ensures c.ok_or.ensures.value
