use Rattle.dhcp6_opt.proofs.NtpLaws.{servers_back}
use Rattle.dhcp6_opt.proofs.laws.time_servers_read_back.Goals as goal

pub returns : goal.returns
returns c = servers_back
