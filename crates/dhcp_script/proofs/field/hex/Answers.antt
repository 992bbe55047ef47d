use Rattle.dhcp_stream.proofs.ValueLemmas.{IsValue-hex, finds_found}
use Rattle.dhcp_script.proofs.field.hex.Goals as goal

pub returns : goal.returns
returns c = finds_found IsValue-hex c.args.field.now c.hex_field.result c.found.result c.hex_field.ensures c.found.ensures
