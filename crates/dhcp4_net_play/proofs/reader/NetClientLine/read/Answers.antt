use Rattle.dhcp4_net_play.proofs.FieldLaws.{IsCodec-client, no_longer}
use Rattle.dhcp4_net_play.proofs.reader.NetClientLine.read.Goals as goal

pub returns-clause-no_longer : goal.returns-clause-no_longer
returns-clause-no_longer c = no_longer IsCodec-client c.read_client.result c.args.text.now c.read_client.new.text c.read_client.ensures
