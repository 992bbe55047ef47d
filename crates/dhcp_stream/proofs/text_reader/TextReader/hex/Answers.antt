use Rattle.dhcp_stream.proofs.ValueLemmas.{IsValue-hex, takes_found}
use Rattle.dhcp_stream.proofs.text_reader.TextReader.hex.Goals as goal

pub returns : goal.returns
returns c = takes_found IsValue-hex c.args.end _ c.in_ok-field.field.now _ c.hex_field.result c.found.result c.in_ok-field.ensures.takes c.hex_field.ensures c.found.ensures
