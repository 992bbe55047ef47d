use Rattle.dhcp_stream.proofs.Ipv6Lemmas.{address6-none, address6-read}
use Rattle.dhcp_stream.proofs.hex_text.ipv6_field.Goals as goal

pub returns-in-Some : goal.returns-in-Some
returns-in-Some c = address6-read c.args.field.now c.in-Some.octets c.from.result c.in-Some.ensures c.from.ensures

pub returns-in-None : goal.returns-in-None
returns-in-None c = address6-none c.args.field.now c.in-None.ensures
