use Rattle.dhcp_stream.proofs.ValueLemmas.{IsValue-address, takes_value}
use Rattle.dhcp_stream.proofs.text_reader.TextReader.ipv4.Goals as goal

pub returns-clause-takes : goal.returns-clause-takes
returns-clause-takes c = takes_value IsValue-address c.args.end _ c.in_ok-field.field.now _ c.ipv4_field.result c.ok_or.result c.in_ok-field.ensures.takes c.ipv4_field.ensures c.ok_or.ensures.value
