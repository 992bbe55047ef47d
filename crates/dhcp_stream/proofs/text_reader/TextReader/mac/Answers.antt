use Rattle.dhcp_stream.proofs.ValueLemmas.{IsValue-mac, takes_value}
use Rattle.dhcp_stream.proofs.text_reader.TextReader.mac.Goals as goal

pub returns-clause-takes : goal.returns-clause-takes
returns-clause-takes c = takes_value IsValue-mac c.args.end _ c.in_ok-field.field.now _ c.mac_field.result c.ok_or.result c.in_ok-field.ensures.takes c.mac_field.ensures c.ok_or.ensures.value
