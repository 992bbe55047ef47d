use Rattle.dhcp_stream.proofs.ValueLemmas.{IsValue-codes, finds_found}
use Rattle.dhcp_script.proofs.field.hex_codes.Goals as goal

pub returns : goal.returns
returns c = finds_found IsValue-codes c.args.field.now c.codes_field.result c.found.result c.codes_field.ensures c.found.ensures
