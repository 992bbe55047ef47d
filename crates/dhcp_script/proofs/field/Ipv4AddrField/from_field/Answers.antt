use Rattle.dhcp_stream.proofs.ValueLemmas.{IsValue-address, finds_value}
use Rattle.dhcp_script.proofs.field.Ipv4AddrField.from_field.Goals as goal

pub returns : goal.returns
returns c = finds_value IsValue-address c.args.field.now c.ipv4_field.result c.ok_or.result c.ipv4_field.ensures c.ok_or.ensures.value
