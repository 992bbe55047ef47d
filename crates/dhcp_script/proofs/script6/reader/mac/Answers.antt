use Rattle.dhcp_stream.proofs.ValueLemmas.{IsValue-mac, finds_value}
use Rattle.dhcp_script.proofs.script6.reader.mac.Goals as goal

pub returns : goal.returns
returns c = finds_value IsValue-mac c.args.field.now c.mac_field.result c.ok_or.result c.mac_field.ensures c.ok_or.ensures.value
