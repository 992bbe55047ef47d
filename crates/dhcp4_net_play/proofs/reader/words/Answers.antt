use Rattle.dhcp_stream.proofs.ValueLemmas.{IsValue-words, finds_found}
use Rattle.dhcp4_net_play.proofs.reader.words.Goals as goal

pub returns : goal.returns
returns c = finds_found IsValue-words c.args.field.now c.words_field.result c.found.result c.words_field.ensures c.found.ensures
