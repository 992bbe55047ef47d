use Rattle.dhcp_live.proofs.RunBytesLemmas.{in_bytes}
use Rattle.dhcp_live.proofs.laws.a_session_takes_and_writes_its_bytes.Goals as goal

pub returns : goal.returns
returns c = in_bytes
