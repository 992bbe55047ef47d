use Rattle.std.proofs.lemmas.List.{take_rest}
use Rattle.std.proofs.Common.{sym}
use Rattle.dhcp_stream.proofs.CodecLaws.{field_at-none, field_at-position}
use Rattle.dhcp_stream.proofs.text_reader.cut_field.Goals as goal

pub returns-in_default : goal.returns-in_default
returns-in_default c = field_at-none c.args.end c.args.text.now (sym c.in_default.ensures.first)

pub returns : goal.returns
returns c = rw take_rest (field_at-position c.args.end c.args.text.now c.in-Some.len (sym c.in-Some.ensures.first))
