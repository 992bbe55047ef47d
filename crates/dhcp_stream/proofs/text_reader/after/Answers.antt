use Rattle.dhcp_stream.proofs.CodecLaws.{after_tag_is}
use Rattle.dhcp_stream.proofs.text_reader.after.Goals as goal

pub returns : goal.returns
returns c = after_tag_is c.args.tag.now c.args.text.now c.strip_prefix.result c.strip_prefix.ensures.cases
