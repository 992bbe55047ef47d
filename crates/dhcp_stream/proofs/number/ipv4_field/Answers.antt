use Rattle.dhcp_stream.proofs.NumberLemmas.{IsReading-address}
use Rattle.dhcp_stream.proofs.number.ipv4_field.Goals as goal

pub returns : goal.returns
returns c = rw c.ok.ensures.value (IsReading-address c.args.field.now c.parse_ascii.result c.parse_ascii.ensures)
