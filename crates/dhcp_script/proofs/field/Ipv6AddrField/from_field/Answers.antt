use Rattle.dhcp_stream.proofs.ValueLemmas.{IsValue-address6, finds_value}
use Rattle.dhcp_script.proofs.field.Ipv6AddrField.from_field.Goals as goal

pub returns : goal.returns
returns c = finds_value IsValue-address6 c.args.field.now c.ipv6_field.result c.ok_or.result c.ipv6_field.ensures c.ok_or.ensures.value
