use Rattle.dhcp4_net_play.proofs.FieldLaws.{IsCodec-event, no_longer}
use Rattle.dhcp4_net_play.proofs.reader.NetEventLine.read.Goals as goal

pub returns-clause-no_longer : goal.returns-clause-no_longer
returns-clause-no_longer c = no_longer IsCodec-event c.read_event.result c.args.text.now c.read_event.new.text c.read_event.ensures
