use Rattle.dhcp_stream.proofs.ValueLemmas.{IsValue-words, takes_found}
use Rattle.dhcp_stream.proofs.text_reader.TextReader.words.Goals as goal

pub returns : goal.returns
returns c = takes_found IsValue-words c.args.end _ c.in_ok-field.field.now _ c.words_field.result c.found.result c.in_ok-field.ensures.takes c.words_field.ensures c.found.ensures
