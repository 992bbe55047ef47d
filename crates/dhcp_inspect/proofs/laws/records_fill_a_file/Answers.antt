use Rattle.dhcp_inspect.proofs.RecordLaws.{records_in-fills}
use Rattle.dhcp_inspect.proofs.laws.records_fill_a_file.Goals as goal

pub returns : goal.returns
returns c = records_in-fills
